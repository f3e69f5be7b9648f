-- Sides in order: the list that slots are seen as, what a sort makes of them, and what becomes of the list where a side comes.
use Rattle.std.proofs.Common.{◌≡◌, ◌≢◌, ◌∙◌, ◌⊎◌, inl, inr, ◌↔◌, ℕ, zero, suc, ◌+◌, ◌<◌, Bool, true, false, true≢false, cond, ◌==◌, ◌&&◌, List, [], ◌∷◌, ◌++◌, length, get_or, set, get_or-set_same, get_or-set_other, Contains, refl, sym, ap, ap₂, subst, arith}
use Rattle.std.specs.Prelude.{nat_eq, nat_lt}
use Rattle.std.specs.Bool.{Decides}
use Rattle.std.specs.List.Sorted.{IsPermutation, IsSortedByKey}
use Rattle.std.specs.Ordering.{MatchOrdering, nat_cmp, ordering_then, is_lt}
use Rattle.std.specs.declared.cmp.Ordering.{Ordering}
use Rattle.std.specs.declared.cmp.Ordering.TheVariants.{Less, Equal, Greater}
use Rattle.std.proofs.lemmas.Cmp.{ranked}
use Rattle.std.proofs.lemmas.Bool.{cases_eq, eq-eqb, ne_eqb}
use Rattle.std.proofs.lemmas.Bool.Decides.{Decides-eqb, Decides-and, Decides-or, Decides-ltb}
use Rattle.std.proofs.lemmas.List.Elements.{Contains-append_cases, Contains-append_left, Contains-append_right}
use Rattle.std.proofs.lemmas.List.Sorted.{Contains-permutation, IsPermutation-sym}
use Rattle.std.proofs.lemmas.Map.Keys.{IsDistinct-from_apart, IsDistinct-IsPermutation, apart_from_distinct}
use native.Mathlib.Decide.{ℕ_discrete}
use Rattle.edge_table.specs.declared.edge.Edge.{Edge}
use Rattle.edge_table.specs.Edges.{IsBefore, is_before}
use Rattle.edge_table.proofs.Ascending.{before_joins, not_before_itself, before_cases}
use Rattle.side_table.specs.declared.side.Side.{Side}
use Rattle.side_table.specs.Sides.{IsWay, IsOrderedSides, AddsSide, PutsSide}
use Rattle.side_table.specs.Slots.{AreDistinct, IsPlace, put_in, in_order}
use Rattle.side_table.proofs.Ordered.{way, here, later, cases, tail, head, cons}
use Rattle.side_table.proofs.Places.{put_there, members, ordered_distinct, length_sides}

-- ---- the test of order
before_Decides : (e f : Edge) → Decides (is_before e f) (IsBefore e f)
before_Decides e f =
    Decides-or (nat_lt e.0 f.0) ((e.0 == f.0) && nat_lt e.1 f.1) (Decides-ltb e.0 f.0)
    (Decides-and (e.0 == f.0) (nat_lt e.1 f.1) (Decides-eqb e.0 f.0) (Decides-ltb e.1 f.1))

-- ---- sides on different ways, in order
apart_head : (s : Side) (ss : List Side) → AreDistinct (s ∷ ss) → (t : Side) → Contains ss t → ¬ IsWay t s.from s.to
apart_head s ss D t h w =
    let e : 0 ≡ suc h.0 = D 0 (suc h.0) t (omega arith) (let l = h.1 in omega arith) (sym (ap (λ (y : Side). y.from) h.2 ∙ w.0)) (sym (ap (λ (y : Side). y.to) h.2 ∙ w.1)) in
    omega arith

apart_tail : (s : Side) (ss : List Side) → AreDistinct (s ∷ ss) → AreDistinct ss
apart_tail s ss D i j d l m e f = let g = D (suc i) (suc j) d (omega arith) (omega arith) e f in omega arith

after_it : (s t : Side) → ¬ IsWay t s.from s.to → ¬ IsBefore (way s) (way t) → IsBefore (way t) (way s)
after_it s t n m = by_cases (before_cases (way s) (way t))
  where
    by_cases : (way s ≡ way t) ⊎ (IsBefore (way s) (way t) ⊎ IsBefore (way t) (way s)) → IsBefore (way t) (way s)
    by_cases (inl e) = absurd (n (sym (ap (λ (p : Edge). p.0) e), sym (ap (λ (p : Edge). p.1) e)))
    by_cases (inr (inl h)) = absurd (m h)
    by_cases (inr (inr h)) = h

put_ordered : (s : Side) (ts : List Side) → ((t : Side) → Contains ts t → ¬ IsWay t s.from s.to) → IsOrderedSides ts → IsOrderedSides (put_in s ts)
put_ordered s [] apart up = cons s [] (λ t h. absurd (let l = h.1 in omega arith)) up
put_ordered s (t ∷ ts) apart up = by_test (is_before (way s) (way t)) refl (put_ordered s ts (λ x h. apart x (later x t ts h)) (tail t ts up))
  where
    D : Decides (is_before (way s) (way t)) (IsBefore (way s) (way t))
    D = before_Decides (way s) (way t)

    by_test : (b : Bool) → is_before (way s) (way t) ≡ b → IsOrderedSides (put_in s ts) → IsOrderedSides (cond b (s ∷ t ∷ ts) (t ∷ put_in s ts))
    by_test true e rec = cons s (t ∷ ts) (λ x h. first x (cases x t ts h)) up
      where
        first : (x : Side) → (t ≡ x) ⊎ Contains ts x → IsBefore (way s) (way x)
        first x (inl f) = subst (λ y. IsBefore (way s) (way y)) f (D.0 e)
        first x (inr k) = before_joins (way s) (way t) (way x) (D.0 e) (head t ts up x k)
    by_test false e rec = cons t (put_in s ts) (λ x h. first x (put_there s ts x h)) rec
      where
        after : IsBefore (way t) (way s)
        after = after_it s t (apart t (here t t ts refl)) (λ k. true≢false (sym (D.1 k) ∙ e))

        first : (x : Side) → (s ≡ x) ⊎ Contains ts x → IsBefore (way t) (way x)
        first x (inl f) = subst (λ y. IsBefore (way t) (way y)) f after
        first x (inr k) = head t ts up x k

pub in_order_ordered : (ss : List Side) → AreDistinct ss → IsOrderedSides (in_order ss)
in_order_ordered [] D = λ i j d h k. absurd (omega arith)
in_order_ordered (s ∷ ss) D = put_ordered s (in_order ss) (λ t h. apart_head s ss D t ((members ss t).0 h)) (in_order_ordered ss (apart_tail s ss D))

-- ---- two ordered lists with the same members are equal
not_in_tail : (s : Side) (ss : List Side) → IsOrderedSides (s ∷ ss) → ¬ Contains ss s
not_in_tail s ss up h = not_before_itself (way s) (head s ss up s h)

pub same_members : (ss ts : List Side) → IsOrderedSides ss → IsOrderedSides ts → ((s : Side) → Contains ss s ↔ Contains ts s) → ss ≡ ts
same_members [] [] _ _ is = refl
same_members [] (t ∷ ts) _ _ is = absurd (none ((is t).1 (here t t ts refl)))
  where
    none : Contains [] t → ⊥
    none (k, l, h) = omega arith
same_members (s ∷ ss) [] _ _ is = absurd (none ((is s).0 (here s s ss refl)))
  where
    none : Contains [] s → ⊥
    none (k, l, h) = omega arith
same_members (s ∷ ss) (t ∷ ts) up vp is =
    ap₂ ◌∷◌ heads (same_members ss ts (tail s ss up) (tail t ts vp) (λ x. (to x, from x)))
  where
    meet : (s ≡ t) ⊎ Contains ss t → (t ≡ s) ⊎ Contains ts s → s ≡ t
    meet (inl h) _ = h
    meet (inr h) (inl k) = sym k
    meet (inr h) (inr k) = absurd (not_before_itself (way s) (before_joins (way s) (way t) (way s) (head s ss up t h) (head t ts vp s k)))

    heads : s ≡ t
    heads = meet (cases t s ss ((is t).1 (here t t ts refl))) (cases s t ts ((is s).0 (here s s ss refl)))

    to : (x : Side) → Contains ss x → Contains ts x
    to x h = by_cases (cases x t ts ((is x).0 (later x s ss h)))
      where
        by_cases : (t ≡ x) ⊎ Contains ts x → Contains ts x
        by_cases (inl i) = absurd (not_in_tail s ss up (subst (Contains ss) (sym i ∙ sym heads) h))
        by_cases (inr i) = i

    from : (x : Side) → Contains ts x → Contains ss x
    from x h = by_cases (cases x s ss ((is x).1 (later x t ts h)))
      where
        by_cases : (s ≡ x) ⊎ Contains ss x → Contains ss x
        by_cases (inl i) = absurd (not_in_tail t ts vp (subst (Contains ts) (sym i ∙ heads) h))
        by_cases (inr i) = i

-- an ordered list is seen as it is
pub ordered_is : (ss : List Side) → IsOrderedSides ss → in_order ss ≡ ss
ordered_is ss up = same_members (in_order ss) ss (in_order_ordered ss (ordered_distinct ss up)) up (members ss)

-- ---- what a sort makes of slots
abbrev same_way : Side → Side → Bool
same_way s t = nat_eq s.from t.from && nat_eq s.to t.to

eq_flips : (a b : ℕ) → nat_eq a b ≡ nat_eq b a
eq_flips a b = by_cases (cases_eq a b)
  where
    by_cases : (a ≡ b) ⊎ (a ≢ b) → nat_eq a b ≡ nat_eq b a
    by_cases (inl e) = eq-eqb a b e ∙ sym (eq-eqb b a (sym e))
    by_cases (inr n) = ne_eqb a b n ∙ sym (ne_eqb b a (λ e. n (sym e)))

way_flips : (s t : Side) → same_way s t ≡ same_way t s
way_flips s t = ap₂ ◌&&◌ (eq_flips s.from t.from) (eq_flips s.to t.to)

way_Decides : (s t : Side) → Decides (same_way s t) ((s.from ≡ t.from) × (s.to ≡ t.to))
way_Decides s t = Decides-and (nat_eq s.from t.from) (nat_eq s.to t.to) (Decides-eqb s.from t.from) (Decides-eqb s.to t.to)

is_false : (b : Bool) → (b ≡ true → ⊥) → b ≡ false
is_false true h = absurd (h refl)
is_false false h = refl

moved_distinct : (ss ts : List Side) → AreDistinct ss → IsPermutation ss ts → (i j : ℕ) (d : Side) → i < j → j < length ts → ((get_or ts i d).from ≡ (get_or ts j d).from) × ((get_or ts i d).to ≡ (get_or ts j d).to) → ⊥
moved_distinct ss ts D moved i j d a b w = true≢false (sym ((way_Decides (get_or ts i d) (get_or ts j d)).1 w) ∙ apart_from_distinct same_way ts i j d (IsDistinct-IsPermutation same_way way_flips ss ts moved (IsDistinct-from_apart same_way ss before)) a b)
  where
    before : (m n : ℕ) (e : Side) → m < n → n < length ss → same_way (get_or ss m e) (get_or ss n e) ≡ false
    before m n e l k = is_false _ (λ h. let w = (way_Decides (get_or ss m e) (get_or ss n e)).0 h in let g = D m n e (omega arith) k w.0 w.1 in omega arith)

less_of : (a b c d : ℕ) (o r : Ordering) → MatchOrdering o (a < c) (a ≡ c) (c < a) → MatchOrdering r (b < d) (b ≡ d) (d < b) → IsBefore (a, b) (c, d) → is_lt (ordering_then o r) ≡ true
less_of a b c d Less r m n h = refl
less_of a b c d Equal Less m n h = refl
less_of a b c d Equal Equal m n (inl l) = absurd (omega arith)
less_of a b c d Equal Equal m n (inr l) = absurd (omega arith)
less_of a b c d Equal Greater m n (inl l) = absurd (omega arith)
less_of a b c d Equal Greater m n (inr l) = absurd (omega arith)
less_of a b c d Greater r m n (inl l) = absurd (omega arith)
less_of a b c d Greater r m n (inr l) = absurd (omega arith)

abbrev pub key_of : Side → ℕ × ℕ
key_of s = (s.from, s.to)

abbrev pub key_cmp : ℕ × ℕ → ℕ × ℕ → Ordering
key_cmp x y = ordering_then (nat_cmp x.0 y.0) (nat_cmp x.1 y.1)

pub sorted_is : (ss ts : List Side) → AreDistinct ss → IsPermutation ss ts → IsSortedByKey key_of key_cmp ts → ts ≡ in_order ss
sorted_is ss ts D moved up = same_members ts (in_order ss) (λ i j d a b. climbs i j d a b) (in_order_ordered ss D) (λ s. (λ h. (members ss s).1 (Contains-permutation ts ss s (IsPermutation-sym ss ts moved) h), λ h. Contains-permutation ss ts s moved ((members ss s).0 h)))
  where
    next : (k : ℕ) (d : Side) → suc k < length ts → IsBefore (way (get_or ts k d)) (way (get_or ts (suc k) d))
    next k d l =
        let s : Side = get_or ts k d in
        let t : Side = get_or ts (suc k) d in
        after_it t s (λ w. moved_distinct ss ts D moved k (suc k) d (omega arith) l w)
        (λ h. true≢false (sym (less_of t.from t.to s.from s.to (nat_cmp t.from s.from) (nat_cmp t.to s.to) (ranked t.from s.from (nat_cmp t.from s.from) refl) (ranked t.to s.to (nat_cmp t.to s.to) refl) h) ∙ at_next k d l))
      where
        at_next : (k : ℕ) (d : Side) → suc k < length ts → is_lt (key_cmp (key_of (get_or ts (suc k) d)) (key_of (get_or ts k d))) ≡ false
        at_next k d l =
            let e : k + 1 ≡ suc k = omega arith in
            subst (λ m. is_lt (key_cmp (key_of (get_or ts m d)) (key_of (get_or ts k d))) ≡ false) e (up k d (omega arith) (omega arith))

    climb : (n i j : ℕ) (d : Side) → j ≡ suc (n + i) → j < length ts → IsBefore (way (get_or ts i d)) (way (get_or ts j d))
    climb zero i j d e l = let f : suc i ≡ j = omega arith in subst (λ m. IsBefore (way (get_or ts i d)) (way (get_or ts m d))) f (next i d (omega arith))
    climb (suc n) i j d e l =
        let f : suc (suc (n + i)) ≡ j = omega arith in
        before_joins (way (get_or ts i d)) (way (get_or ts (suc (n + i)) d)) (way (get_or ts j d)) (climb n i (suc (n + i)) d refl (omega arith))
        (subst (λ m. IsBefore (way (get_or ts (suc (n + i)) d)) (way (get_or ts m d))) f (next (suc (n + i)) d (omega arith)))

    difference : (i j : ℕ) → i < j → (n : ℕ) × (j ≡ suc (n + i))
    difference i zero l = absurd (omega arith)
    difference zero (suc j) l = (j, omega arith)
    difference (suc i) (suc j) l = let r = difference i j (omega arith) in let e = r.1 in (r.0, omega arith)

    climbs : (i j : ℕ) (d : Side) → i < j → j < length ts → IsBefore (way (get_or ts i d)) (way (get_or ts j d))
    climbs i j d a b = let r = difference i j a in climb r.0 i j d r.1 b

-- ---- a side comes
pub adds : (ss : List Side) (t : Side) → AreDistinct (ss ++ t ∷ []) → AddsSide (in_order ss) (in_order (ss ++ t ∷ [])) t
adds ss t D = record { ordered = in_order_ordered (ss ++ t ∷ []) D; members = λ s. (λ h. there s (Contains-append_cases ss (t ∷ []) s ((members (ss ++ t ∷ []) s).0 h)), back s) }
  where
    there : (s : Side) → Contains ss s ⊎ Contains (t ∷ []) s → Contains (in_order ss) s ⊎ (s ≡ t)
    there s (inl h) = inl ((members ss s).1 h)
    there s (inr h) = last (cases s t [] h)
      where
        last : (t ≡ s) ⊎ Contains [] s → Contains (in_order ss) s ⊎ (s ≡ t)
        last (inl e) = inr (sym e)
        last (inr k) = absurd (let l = k.1 in omega arith)

    back : (s : Side) → Contains (in_order ss) s ⊎ (s ≡ t) → Contains (in_order (ss ++ t ∷ [])) s
    back s (inl h) = (members (ss ++ t ∷ []) s).1 (Contains-append_left ss (t ∷ []) s ((members ss s).0 h))
    back s (inr e) = (members (ss ++ t ∷ []) s).1 (Contains-append_right ss (t ∷ []) s (here s t [] (sym e)))

-- ---- a side comes in the place of another
pub puts : (ss : List Side) (u v p : ℕ) (t : Side) → AreDistinct ss → IsPlace ss u v p → AreDistinct (set ss p t) → PutsSide (in_order ss) (in_order (set ss p t)) u v t
puts ss u v p t D P E = record { ordered = in_order_ordered (set ss p t) E; members = λ s. (λ h. there s ((members (set ss p t) s).0 h), back s) }
  where
    there : (s : Side) → Contains (set ss p t) s → (Contains (in_order ss) s × ¬ IsWay s u v) ⊎ (s ≡ t)
    there s (k, l, h) = by_place (ℕ_discrete k p)
      where
        long : length (set ss p t) ≡ length ss
        long = length_sides ss p t

        by_place : Dec (k ≡ p) → (Contains (in_order ss) s × ¬ IsWay s u v) ⊎ (s ≡ t)
        by_place (yes e) = inr (sym h ∙ ap (λ j. get_or (set ss p t) j s) e ∙ get_or-set_same ss p t s P.within)
        by_place (no n) =
            let g = long in
            let at : get_or ss k s ≡ s = sym (get_or-set_other ss p k t s n) ∙ h in
            inl (
              (members ss s).1 (k, omega arith, at),
              λ w. n (D k p s (omega arith) P.within (ap (λ (y : Side). y.from) at ∙ w.0 ∙ sym (P.way s).0) (ap (λ (y : Side). y.to) at ∙ w.1 ∙ sym (P.way s).1)),
            )

    back : (s : Side) → (Contains (in_order ss) s × ¬ IsWay s u v) ⊎ (s ≡ t) → Contains (in_order (set ss p t)) s
    back s (inl h) = (members (set ss p t) s).1 (by_member ((members ss s).0 h.0))
      where
        by_member : Contains ss s → Contains (set ss p t) s
        by_member (k, l, e) =
            let g = length_sides ss p t in
            (k, omega arith, get_or-set_other ss p k t s (λ f. h.1 (subst (λ y. IsWay y u v) e (subst (λ j. IsWay (get_or ss j s) u v) (sym f) (P.way s)))) ∙ e)
    back s (inr e) = (members (set ss p t) s).1 (let g = length_sides ss p t in let w = P.within in (p, omega arith, get_or-set_same ss p t s P.within ∙ sym e))
