-- The crossings of a segment with a triangulation are the frame's pairs of it with a member, and how those are counted pair by pair.
use Rattle.std.proofs.Common.{◌≡◌, ◌⊎◌, inl, inr, ◌↔◌, ℕ, ◌+◌, ◌-◌, ◌*◌, ◌^◌, ◌<◌, ◌≤◌, Bool, true, false, cond, not, ◌&&◌, ◌||◌, eqb, List, [], ◌∷◌, ◌++◌, length, length-append, map, take, get_or, replicate, Contains, refl, sym, ap, ap₂, ◌∙◌, subst, arith}
use Rattle.std.specs.Bool.{Decides, IsTrue}
use Rattle.std.specs.List.{All, AllPairs, filter, count_by, sum_by}
use Rattle.std.specs.Int.Count.{count_leading_zeros}
use Rattle.std.specs.declared.cmp.Ordering.{Ordering}
use Rattle.std.specs.declared.cmp.Ordering.TheVariants.{Less, Equal, Greater}
use Rattle.std.specs.Ordering.{is_lt, nat_cmp, ord_max}
use Rattle.std.specs.Cmp.{nat_cmp_is}
use Rattle.std.proofs.Math.Dec.{ltb}
use Rattle.std.proofs.Math.Pow.{pow_mono}
use Rattle.std.proofs.lemmas.Grind.{pow_more}
use Rattle.std.proofs.lemmas.Nat.{leading_length}
use Rattle.std.proofs.lemmas.Bool.Decides.{Decides-and, Decides-or, Decides-not, Decides-eqb, Decides-ltb}
use Rattle.std.proofs.lemmas.Bool.{eq-eqb, ne_eqb}
use Rattle.std.proofs.lemmas.List.{length-map, length-take, length-replicate, get_or-replicate, take_all, map_more, get_or-map, get_or_append_left, get_or_push, take_more}
use Rattle.std.proofs.lemmas.List.Elements.{Contains-get_or}
use Rattle.std.proofs.lemmas.List.Kept.{AllPairs-filter}
use Rattle.std.proofs.lemmas.List.Sums.{length-filter, sum_by-cons, sum_by_more, sum_by-le}
use native.Mathlib.Decide.{dec_lt, ℕ_discrete}
use Rattle.geo_orient.specs.declared.Point.{Point}
use Rattle.edge_table.specs.declared.edge.Edge.{Edge}
use Rattle.edge_table.specs.Edges.{is_edge, is_member, IsBefore}
use Rattle.edge_table.proofs.Ascending.{before_cases, before_joins, not_before_itself, same_members}
use Rattle.tri_theory.specs.Triangulations.{Crosses, IsTriangulation}
use Rattle.tri_theory.specs.Crossings.{crosses, crossings}
use Rattle.crossing_law.specs.Digits.{digits}
use Rattle.crossing_law.proofs.Counts.{cross_decided, count_split, digits_at_most, below_power}
use Rattle.log_law.proofs.Lists.{pairs_map}
use Rattle.formula_law.specs.Frames.{Pair, IsPairBefore, Frame, IsFrame}
use Rattle.formula_law.proofs.Clauses.{both, and, in_filter, filtered, mapped, in_map}
use Rattle.formula_law.proofs.EdgeTests.{edge_equal, edge_itself, member_true, true_member}
use Rattle.formula_parts.specs.Lists.{no_edge, edge_at, linked}
use Rattle.formula_parts.specs.Building.{no_pair}
use Rattle.formula_parts.proofs.Places.{same_segment, other_segment, member_is}
use Rattle.pruned_cnf.specs.Crossed.{hits, AreCounted}

-- ---- the digits of a number are those that its leading zeros leave
pub digits_left : (n : ℕ) → n < 2 ^ 32 → 32 - count_leading_zeros 32 n ≡ digits n
digits_left n l = by_length (leading_length 32 n l)
  where
    by_length : (m : ℕ) × (count_leading_zeros 32 n + m ≡ 32) × (n < 2 ^ m) × (2 ^ m ≤ 2 * n + 1) → 32 - count_leading_zeros 32 n ≡ digits n
    by_length (m, s, below, least) = same (dec_lt (digits n) m) (digits_at_most n m below)
      where
        doubled : digits n < m → ⊥
        doubled h =
            let w = below_power n in
            let p : 2 ^ (digits n + 1) ≤ 2 ^ m = pow_mono (omega arith) in
            let q : 2 ^ (digits n + 1) ≡ 2 ^ digits n * 2 = pow_more 2 (digits n) in
            omega (arith, w, p, q, least)

        same : Dec (digits n < m) → digits n ≤ m → 32 - count_leading_zeros 32 n ≡ digits n
        same (yes h) _ = absurd (doubled h)
        same (no h) k = omega arith

-- ---- sums of two
sum_both : {X : Type 0} (f g : X → ℕ) (xs : List X) → sum_by (λ x. f x + g x) xs ≡ sum_by f xs + sum_by g xs
sum_both f g [] = refl
sum_both f g (x ∷ xs) = let again = sum_both f g xs in omega (arith, again, sum_by-cons (λ x. f x + g x) x xs, sum_by-cons f x xs, sum_by-cons g x xs)

-- ---- a pair of one edge with others: the others are in order
seconds_ascend : (gs : List Pair) (e : Edge) → AllPairs IsPairBefore gs → ((g : Pair) → Contains gs g → g.0 ≡ e) → AllPairs (λ (g h : Pair). IsBefore g.1 h.1) gs
seconds_ascend gs e up one i j d l h = by_order (up i j d l h)
  where
    by_order : IsPairBefore (get_or gs i d) (get_or gs j d) → IsBefore (get_or gs i d).1 (get_or gs j d).1
    by_order (inl k) = absurd (not_before_itself e (subst (λ x. IsBefore x e) (one (get_or gs i d) (Contains-get_or gs i d (omega arith))) (subst (IsBefore (get_or gs i d).0) (one (get_or gs j d) (Contains-get_or gs j d h)) k)))
    by_order (inr k) = k.1

firsts_ascend : (gs : List Pair) (e : Edge) → AllPairs IsPairBefore gs → ((g : Pair) → Contains gs g → g.1 ≡ e) → AllPairs (λ (g h : Pair). IsBefore g.0 h.0) gs
firsts_ascend gs e up one i j d l h = by_order (up i j d l h)
  where
    by_order : IsPairBefore (get_or gs i d) (get_or gs j d) → IsBefore (get_or gs i d).0 (get_or gs j d).0
    by_order (inl k) = k
    by_order (inr k) = absurd (not_before_itself e (subst (λ x. IsBefore x e) (one (get_or gs i d) (Contains-get_or gs i d (omega arith))) (subst (IsBefore (get_or gs i d).1) (one (get_or gs j d) (Contains-get_or gs j d h)) k.1)))

abbrev before : Edge → Edge → Bool
before e f = ltb e.0 f.0 || (eqb e.0 f.0 && ltb e.1 f.1)

before_decided : (e f : Edge) → Decides (before e f) (IsBefore e f)
before_decided e f = Decides-or (ltb e.0 f.0) (eqb e.0 f.0 && ltb e.1 f.1) (Decides-ltb e.0 f.0) (Decides-and (eqb e.0 f.0) (ltb e.1 f.1) (Decides-eqb e.0 f.0) (Decides-ltb e.1 f.1))

crosses_back : (points : List Point) (e f : Edge) → Crosses points e f → Crosses points f e
crosses_back points e f h = (h.1, h.0)

module _ (points : List Point) (F : Frame) (I : IsFrame points F) (edges : List Edge) (N : IsTriangulation points edges) (e : Edge) (s : Contains F.segments e) where
  abbrev first : Pair → Bool
  first g = is_edge e g.0 && is_member edges g.1

  abbrev second : Pair → Bool
  second g = is_edge e g.1 && is_member edges g.0

  abbrev later : Edge → Bool
  later f = crosses points e f && before e f

  abbrev earlier : Edge → Bool
  earlier f = crosses points e f && not (before e f)

  first_said : (g : Pair) → Contains (filter first F.crossings) g → Contains F.crossings g × (e ≡ g.0) × Contains edges g.1
  first_said g h =
      let r = in_filter first F.crossings g h in
      let t = both (is_edge e g.0) (is_member edges g.1) r.1 in
      (r.0, edge_equal e g.0 t.0, true_member edges g.1 t.1)

  second_said : (g : Pair) → Contains (filter second F.crossings) g → Contains F.crossings g × (e ≡ g.1) × Contains edges g.0
  second_said g h =
      let r = in_filter second F.crossings g h in
      let t = both (is_edge e g.1) (is_member edges g.0) r.1 in
      (r.0, edge_equal e g.1 t.0, true_member edges g.0 t.1)

  -- the members after e that it crosses
  laters : map (λ (g : Pair). g.1) (filter first F.crossings) ≡ filter later edges
  laters = same_members (map (λ (g : Pair). g.1) (filter first F.crossings)) (filter later edges)
      (pairs_map IsBefore (λ (g : Pair). g.1) (filter first F.crossings) (seconds_ascend (filter first F.crossings) e (AllPairs-filter IsPairBefore first F.crossings I.crossings_ascend) (λ g h. sym (first_said g h).1)))
      (AllPairs-filter IsBefore later edges N.ascending)
      (λ f. (to f, from f))
    where
      to : (f : Edge) → Contains (map (λ (g : Pair). g.1) (filter first F.crossings)) f → Contains (filter later edges) f
      to f h = by_pair (in_map (λ (g : Pair). g.1) (filter first F.crossings) f h)
        where
          by_pair : (g : Pair) × Contains (filter first F.crossings) g × (g.1 ≡ f) → Contains (filter later edges) f
          by_pair (g, k, i) =
              let w = first_said g k in
              let c = (I.crossings g.0 g.1).0 w.0 in
              subst (Contains (filter later edges)) i
              (filtered later edges g.1 w.2
              (and (crosses points e g.1) (before e g.1)
              ((cross_decided points e g.1).1 (subst (λ x. Crosses points x g.1) (sym w.1) c.3))
              ((before_decided e g.1).1 (subst (λ x. IsBefore x g.1) (sym w.1) c.2))))

      from : (f : Edge) → Contains (filter later edges) f → Contains (map (λ (g : Pair). g.1) (filter first F.crossings)) f
      from f h =
          let r = in_filter later edges f h in
          let t = both (crosses points e f) (before e f) r.1 in
          mapped (λ (g : Pair). g.1) (filter first F.crossings) (e, f)
          (filtered first F.crossings (e, f)
          ((I.crossings e f).1 ((I.segments e).0 s, N.segments f r.0, (before_decided e f).0 t.1, (cross_decided points e f).0 t.0))
          (and (is_edge e e) (is_member edges f) (edge_itself e) (member_true edges f r.0)))

  -- and those before e
  earliers : map (λ (g : Pair). g.0) (filter second F.crossings) ≡ filter earlier edges
  earliers = same_members (map (λ (g : Pair). g.0) (filter second F.crossings)) (filter earlier edges)
      (pairs_map IsBefore (λ (g : Pair). g.0) (filter second F.crossings) (firsts_ascend (filter second F.crossings) e (AllPairs-filter IsPairBefore second F.crossings I.crossings_ascend) (λ g h. sym (second_said g h).1)))
      (AllPairs-filter IsBefore earlier edges N.ascending)
      (λ f. (to f, from f))
    where
      to : (f : Edge) → Contains (map (λ (g : Pair). g.0) (filter second F.crossings)) f → Contains (filter earlier edges) f
      to f h = by_pair (in_map (λ (g : Pair). g.0) (filter second F.crossings) f h)
        where
          by_pair : (g : Pair) × Contains (filter second F.crossings) g × (g.0 ≡ f) → Contains (filter earlier edges) f
          by_pair (g, k, i) =
              let w = second_said g k in
              let c = (I.crossings g.0 g.1).0 w.0 in
              let b : IsBefore g.0 e = subst (IsBefore g.0) (sym w.1) c.2 in
              subst (Contains (filter earlier edges)) i
              (filtered earlier edges g.0 w.2
              (and (crosses points e g.0) (not (before e g.0))
              ((cross_decided points e g.0).1 (crosses_back points g.0 e (subst (Crosses points g.0) (sym w.1) c.3)))
              ((Decides-not (before e g.0) (before_decided e g.0)).1 (λ j. not_before_itself e (before_joins e g.0 e j b)))))

      from : (f : Edge) → Contains (filter earlier edges) f → Contains (map (λ (g : Pair). g.0) (filter second F.crossings)) f
      from f h =
          let r = in_filter earlier edges f h in
          let t = both (crosses points e f) (not (before e f)) r.1 in
          let x = (cross_decided points e f).0 t.0 in
          mapped (λ (g : Pair). g.0) (filter second F.crossings) (f, e)
          (filtered second F.crossings (f, e)
          ((I.crossings f e).1 (N.segments f r.0, (I.segments e).0 s, by_order r.0 x ((Decides-not (before e f) (before_decided e f)).0 t.1) (before_cases e f), crosses_back points e f x))
          (and (is_edge e e) (is_member edges f) (edge_itself e) (member_true edges f r.0)))
        where
          by_order : Contains edges f → Crosses points e f → ¬ IsBefore e f → (e ≡ f) ⊎ (IsBefore e f ⊎ IsBefore f e) → IsBefore f e
          by_order k x n (inl i) = absurd (N.planar f f k k (subst (λ g. Crosses points g f) i x))
          by_order k x n (inr (inl b)) = absurd (n b)
          by_order k x n (inr (inr b)) = b

  pub hits_crossings : sum_by (hits edges e) F.crossings ≡ crossings points edges e
  hits_crossings =
      let split = sum_both (λ (g : Pair). cond (is_edge e g.0 && is_member edges g.1) 1 0) (λ (g : Pair). cond (is_edge e g.1 && is_member edges g.0) 1 0) F.crossings in
      let a : count_by first F.crossings ≡ count_by later edges = sym (length-filter first F.crossings) ∙ sym (length-map (filter first F.crossings) (λ (g : Pair). g.1)) ∙ ap length laters ∙ length-filter later edges in
      let b : count_by second F.crossings ≡ count_by earlier edges = sym (length-filter second F.crossings) ∙ sym (length-map (filter second F.crossings) (λ (g : Pair). g.0)) ∙ ap length earliers ∙ length-filter earlier edges in
      split ∙ ap₂ ◌+◌ a b ∙ sym (count_split (crosses points e) (before e) edges)

-- ---- pair by pair
hits_few : (edges : List Edge) (e : Edge) (g : Pair) → hits edges e g ≤ 2
hits_few edges e g = by_tests (is_edge e g.0 && is_member edges g.1) (is_edge e g.1 && is_member edges g.0)
  where
    by_tests : (a b : Bool) → cond a 1 0 + cond b 1 0 ≤ 2
    by_tests true true = omega arith
    by_tests true false = omega arith
    by_tests false true = omega arith
    by_tests false false = omega arith

pub hits_at_most : (edges : List Edge) (e : Edge) (gs : List Pair) (m : ℕ) → sum_by (hits edges e) (take m gs) ≤ m * 2
hits_at_most edges e gs m = let h = sum_by-le (hits edges e) 2 (take m gs) (λ i d l. hits_few edges e (get_or (take m gs) i d)) in let l = length-take m gs in omega (arith, h, l)

module _ (points : List Point) (F : Frame) (I : IsFrame points F) (edges : List Edge) where
  same_number : (k a : ℕ) → k < length F.segments → a < length F.segments → is_edge (edge_at F.segments k) (edge_at F.segments a) ≡ eqb k a
  same_number k a hk ha = by_test (ℕ_discrete a k)
    where
      by_test : Dec (a ≡ k) → is_edge (edge_at F.segments k) (edge_at F.segments a) ≡ eqb k a
      by_test (yes i) = same_segment points F I k a i ∙ sym (eq-eqb k a (sym i))
      by_test (no n) = other_segment points F I k a hk ha n ∙ sym (ne_eqb k a (λ i. n (sym i)))

  hits_at : (k a b : ℕ) (g : Pair) → k < length F.segments → a < length F.segments → b < length F.segments → g ≡ linked F.segments (a, b)
      → hits edges (edge_at F.segments k) g ≡ cond (eqb k a && is_member edges (edge_at F.segments b)) 1 0 + cond (eqb k b && is_member edges (edge_at F.segments a)) 1 0
  hits_at k a b g hk ha hb e =
      ap (hits edges (edge_at F.segments k)) e
      ∙ ap₂ (λ x y. cond (x && is_member edges (edge_at F.segments b)) 1 0 + cond (y && is_member edges (edge_at F.segments a)) 1 0) (same_number k a hk ha) (same_number k b hk hb)

  pub counted_more : (m a b : ℕ) (x y : Bool) (counts one two : List ℕ) → AreCounted F edges m counts → m < length F.crossings → get_or F.crossings m no_pair ≡ linked F.segments (a, b) → a < length F.segments → b < length F.segments
      → x ≡ is_member edges (edge_at F.segments b) → y ≡ is_member edges (edge_at F.segments a)
      → length one ≡ length counts → ((k : ℕ) → get_or one k 0 ≡ get_or counts k 0 + cond (eqb k a && x) 1 0)
      → length two ≡ length one → ((k : ℕ) → get_or two k 0 ≡ get_or one k 0 + cond (eqb k b && y) 1 0) → AreCounted F edges (m + 1) two
  counted_more m a b x y counts one two C l e ha hb hx hy long_1 each_1 long_2 each_2 = record {
    long = long_2 ∙ long_1 ∙ C.long;
    each = λ k h.
        let first : cond (eqb k a && x) 1 0 ≡ cond (eqb k a && is_member edges (edge_at F.segments b)) 1 0 = ap {B = ℕ} (λ t. cond (eqb k a && t) 1 0) hx in
        let second : cond (eqb k b && y) 1 0 ≡ cond (eqb k b && is_member edges (edge_at F.segments a)) 1 0 = ap {B = ℕ} (λ t. cond (eqb k b && t) 1 0) hy in
        omega (arith, each_2 k, each_1 k, C.each k h, first, second, sum_by_more (hits edges (edge_at F.segments k)) F.crossings m no_pair l, hits_at k a b (get_or F.crossings m no_pair) h ha hb e);
  }

  pub counted_few : (m n : ℕ) (counts : List ℕ) → AreCounted F edges m counts → n < length F.segments → get_or counts n 0 ≤ m * 2
  counted_few m n counts C l = let e = C.each n l in let h = hits_at_most edges (edge_at F.segments n) F.crossings m in omega (arith, e, h)

  pub counted_none : (counts : List ℕ) → counts ≡ replicate (length F.segments) 0 → AreCounted F edges 0 counts
  counted_none counts e = record {
    long = ap length e ∙ length-replicate (length F.segments) 0;
    each = λ k h. ap (λ xs. get_or xs k 0) e ∙ get_or-replicate (length F.segments) k 0 0 h;
  }

  pub counted_all : (N : IsTriangulation points edges) (counts : List ℕ) (n : ℕ) → AreCounted F edges (length F.crossings) counts → n < length F.segments → get_or counts n 0 ≡ crossings points edges (edge_at F.segments n)
  counted_all N counts n C l =
      C.each n l
      ∙ ap (sum_by (hits edges (edge_at F.segments n))) (take_all (length F.crossings) F.crossings (omega arith))
      ∙ hits_crossings points F I edges N (edge_at F.segments n) (Contains-get_or F.segments n no_edge l)

  abbrev crossed : Edge → ℕ
  crossed e = digits (crossings points edges e)

  pub digits_more : (N : IsTriangulation points edges) (counts : List ℕ) (n c d : ℕ) (found : List ℕ) → AreCounted F edges (length F.crossings) counts → n < length F.segments → get_or counts n 0 ≡ c → d ≡ digits c
      → found ≡ map crossed (take n F.segments) → found ++ d ∷ [] ≡ map crossed (take (n + 1) F.segments)
  digits_more N counts n c d found C l h i e =
      ap₂ (λ xs x. xs ++ x ∷ []) e (i ∙ ap digits (sym h ∙ counted_all N counts n C l))
      ∙ sym (map_more crossed F.segments n no_edge l)

-- ---- membership by numbers, and digits by numbers
pub one_at_most : (x y : ℕ) (b : Bool) → y ≡ x + cond b 1 0 → y ≤ x + 1
one_at_most x y true e = omega arith
one_at_most x y false e = omega arith

pub members_more : (segments edges : List Edge) (n : ℕ) (found : List Bool) (b : Bool) → n < length segments → found ≡ map (is_member edges) (take n segments) → IsTrue b ↔ Contains edges (edge_at segments n) → found ++ b ∷ [] ≡ map (is_member edges) (take (n + 1) segments)
members_more segments edges n found b l e t =
    ap₂ (λ xs x. xs ++ x ∷ []) e (member_is edges (edge_at segments n) b t)
    ∙ sym (map_more (is_member edges) segments n no_edge l)

pub member_at : (segments edges : List Edge) (n : ℕ) (members : List Bool) (d : Bool) → n < length segments → members ≡ map (is_member edges) segments → get_or members n d ≡ is_member edges (edge_at segments n)
member_at segments edges n members d l e = ap (λ xs. get_or xs n d) e ∙ get_or-map (is_member edges) segments n no_edge d l

pub all_more : (P : ℕ → Type 0) (xs : List ℕ) (x : ℕ) → All P xs → P x → All P (xs ++ x ∷ [])
all_more P xs x h k i d l = by_test (dec_lt i (length xs))
  where
    by_test : Dec (i < length xs) → P (get_or (xs ++ x ∷ []) i d)
    by_test (yes m) = subst P (sym (get_or_append_left xs (x ∷ []) d i m)) (h i d m)
    by_test (no n) =
        let long = length-append xs (x ∷ []) in
        let last : i ≡ length xs = omega (arith, l, long) in
        subst P (sym (ap (λ j. get_or (xs ++ x ∷ []) j d) last ∙ get_or_push xs x d (length xs) refl)) k

pub most_more : (xs : List ℕ) (n m most : ℕ) → n < length xs → All (λ d. d ≤ m) (take n xs) → m ≤ most → get_or xs n 0 ≤ most → All (λ d. d ≤ most) (take (n + 1) xs)
most_more xs n m most l all up last = subst (All (λ d. d ≤ most)) (sym (take_more xs n 0 l)) (all_more (λ d. d ≤ most) (take n xs) (get_or xs n 0) (λ k d h. let a = all k d h in omega (arith, a, up)) last)

pub max_bounds : (a b r m : ℕ) → r ≡ ord_max nat_cmp a b → a ≤ m → b ≤ m → (a ≤ r) × (b ≤ r) × (r ≤ m)
max_bounds a b r m e ha hb = by_tests (dec_lt b a) (dec_lt a b)
  where
    is : (o : Ordering) → o ≡ nat_cmp b a → r ≡ cond (is_lt o) a b
    is o i = e ∙ ap (λ o. cond (is_lt o) a b) (sym i)

    by_tests : Dec (b < a) → Dec (a < b) → (a ≤ r) × (b ≤ r) × (r ≤ m)
    by_tests (yes l) _ = let k : r ≡ a = is Less (nat_cmp_is b a Less l) in (omega arith, omega arith, omega arith)
    by_tests (no n) (yes l) = let k : r ≡ b = is Greater (nat_cmp_is b a Greater l) in (omega arith, omega arith, omega arith)
    by_tests (no n) (no o) = let k : r ≡ b = is Equal (nat_cmp_is b a Equal (omega arith)) in (omega arith, omega arith, omega arith)
