-- Sides in slots: their buckets, what is found of them, and what is seen of them.
use Rattle.std.proofs.Common.{◌≡◌, ◌≢◌, ◌∙◌, ◌⊎◌, inl, inr, ◌↔◌, ℕ, zero, suc, ◌<◌, ◌≤◌, Bool, true, false, cond, Option, None, Some, MatchOption, List, [], ◌∷◌, ◌++◌, length, get_or, take, set, length-append, length-take, get_or-set_same, get_or-set_other, get_or-take, take_all, Contains, refl, sym, ap, ap₂, subst, arith}
use Rattle.std.specs.Prelude.{Result, Ok, Err, OnOk, OnErr}
use Rattle.std.proofs.Math.ListN.{get_or-append}
use Rattle.std.proofs.Math.Seq.{get_or-append_seam}
use Rattle.std.proofs.lemmas.List.Elements.{Contains-get_or}
use native.Mathlib.Decide.{dec_lt, ℕ_discrete}
use Rattle.edge_table.specs.Edges.{IsBefore, is_before}
use Rattle.edge_table.proofs.Ascending.{not_before_itself}
use Rattle.edge_table.proofs.Edges.{pair}
use Rattle.side_table.specs.declared.side.Side.{Side}
use Rattle.side_table.specs.Sides.{side, IsWay, HasSide, IsOrderedSides}
use Rattle.side_table.specs.Chains.{Key, AreChained, last_where, is_in}
use Rattle.side_table.specs.Slots.{bucket, keys_of, AreDistinct, AreKept, IsPlace, IsWalked, put_in, in_order}
use Rattle.side_table.proofs.Chains.{where_within, where_passes, none_at, none_after, in_own}
use Rattle.side_table.proofs.Ordered.{way, here, later, cases}

-- ---- the buckets of the slots
pub length_keys : (n : ℕ) (ss : List Side) → length (keys_of n ss) ≡ length ss
length_keys n [] = refl
length_keys n (s ∷ ss) = ap suc (length_keys n ss)

pub get_keys : (n : ℕ) (ss : List Side) (i : ℕ) (d : Side) → i < length ss → get_or (keys_of n ss) i None ≡ Some (bucket n (get_or ss i d).from (get_or ss i d).to)
get_keys n [] i d l = absurd (omega arith)
get_keys n (s ∷ ss) zero d l = refl
get_keys n (s ∷ ss) (suc i) d l = get_keys n ss i d (omega arith)

pub set_keys : (n : ℕ) (ss : List Side) (i : ℕ) (t : Side) → keys_of n (set ss i t) ≡ set (keys_of n ss) i (Some (bucket n t.from t.to))
set_keys n [] i t = refl
set_keys n (s ∷ ss) zero t = refl
set_keys n (s ∷ ss) (suc i) t = ap (λ ks. Some (bucket n s.from s.to) ∷ ks) (set_keys n ss i t)

pub append_keys : (n : ℕ) (ss : List Side) (t : Side) → keys_of n (ss ++ t ∷ []) ≡ keys_of n ss ++ Some (bucket n t.from t.to) ∷ []
append_keys n [] t = refl
append_keys n (s ∷ ss) t = ap (λ ks. Some (bucket n s.from s.to) ∷ ks) (append_keys n ss t)

pub set_twice : (ks : List Key) (i : ℕ) (x y : Key) → set (set ks i x) i y ≡ set ks i y
set_twice [] i x y = refl
set_twice (k ∷ ks) zero x y = refl
set_twice (k ∷ ks) (suc i) x y = ap (λ js. k ∷ js) (set_twice ks i x y)

set_to_itself : (ks : List Key) (i : ℕ) (x : Key) → i < length ks → get_or ks i None ≡ x → set ks i x ≡ ks
set_to_itself [] i x l e = refl
set_to_itself (k ∷ ks) zero x l e = ap (λ j. j ∷ ks) (sym e)
set_to_itself (k ∷ ks) (suc i) x l e = ap (λ js. k ∷ js) (set_to_itself ks i x (omega arith) e)

-- another side on the same way is in the same bucket
pub same_keys : (n : ℕ) (ss : List Side) (i : ℕ) (t : Side) → IsPlace ss t.from t.to i → keys_of n (set ss i t) ≡ keys_of n ss
same_keys n ss i t p =
    let l = length_keys n ss in
    let m = p.within in
    set_keys n ss i t ∙ set_to_itself (keys_of n ss) i (Some (bucket n t.from t.to)) (omega arith) (get_keys n ss i t p.within ∙ ap₂ (λ u v. Some (bucket n u v)) (p.way t).0 (p.way t).1)

-- ---- sides at places
pub has_at : (ss : List Side) (i : ℕ) (d : Side) → i < length ss → HasSide ss (get_or ss i d).from (get_or ss i d).to
has_at ss i d l = record { apex = (get_or ss i d).apex; there = Contains-get_or ss i d l }

pub default_free : (ss : List Side) (i : ℕ) (d e : Side) → i < length ss → get_or ss i d ≡ get_or ss i e
default_free [] i d e l = absurd (omega arith)
default_free (s ∷ ss) zero d e l = refl
default_free (s ∷ ss) (suc i) d e l = default_free ss i d e (omega arith)

pub place_of : (ss : List Side) (i : ℕ) (x : Side) (u v : ℕ) → i < length ss → x ≡ get_or ss i x → IsWay x u v → IsPlace ss u v i
place_of ss i x u v l e w = record { within = l; way = λ d. subst (λ y. IsWay y u v) (e ∙ default_free ss i x d l) w }

pub at_place : (ss : List Side) (i : ℕ) (x : Side) (u v : ℕ) → IsPlace ss u v i → x ≡ get_or ss i x → Contains ss x × IsWay x u v
at_place ss i x u v p e = (subst (Contains ss) (sym e) (Contains-get_or ss i x p.within), subst (λ y. IsWay y u v) (sym e) (p.way x))

-- ---- the walk along a bucket
module _ (heads before : List (Option ℕ)) (slots : List Side) (K : AreKept heads before slots) (u v : ℕ) where
  abbrev n : ℕ
  n = length heads

  abbrev keys : List Key
  keys = keys_of n slots

  abbrev b : ℕ
  b = bucket n u v

  pub in_way : (i : ℕ) (d : Side) → i < length slots → IsWay (get_or slots i d) u v → is_in b (get_or keys i None) ≡ true
  in_way i d l w = ap (is_in b) (get_keys n slots i d l ∙ ap₂ (λ x y. Some (bucket n x y)) w.0 w.1) ∙ in_own b

  short : (k : ℕ) → length (take k keys) ≤ k
  short k = let e = length-take k keys in omega arith

  pub walk_starts : (k : ℕ) → k ≡ b → k < n → IsWalked b keys slots u v (get_or heads k None)
  walk_starts k e l =
      let m = length_keys n slots in
      record { left = length slots; within = omega arith; stands = K.chained.last k l ∙ ap (λ j. last_where (is_in j) keys) e ∙ ap (last_where (is_in b)) (sym (take_all (length slots) keys (omega arith))); passed = λ i d j h. absurd (omega arith) }

  module _ (place : ℕ) (W : IsWalked b keys slots u v (Some place)) where
    in_part : place < length (take W.left keys)
    in_part = where_within (is_in b) (take W.left keys) place (sym W.stands)

    pub walk_within : (place < length slots) × (place < length before)
    walk_within = let l = in_part in let e = length-take W.left keys in let m = length_keys n slots in let g = K.chained.long in (omega arith, omega arith)

    pub walk_keys : place < length keys
    walk_keys = let l = in_part in let e = length-take W.left keys in omega arith

    pub walk_in : is_in b (get_or keys place None) ≡ true
    walk_in =
        let l = in_part in
        let s = short W.left in
        ap (is_in b) (sym (get_or-take W.left keys place None (omega arith))) ∙ where_passes (is_in b) (take W.left keys) place None (sym W.stands)

    pub walk_on : ((d : Side) → ¬ IsWay (get_or slots place d) u v) → IsWalked b keys slots u v (get_or before place None)
    walk_on not = record {
      left = place;
      within = (let l = walk_within.0 in omega arith);
      stands = K.chained.earlier place b walk_keys walk_in;
      passed = λ i d m h w. passed i d h w (ℕ_discrete i place) (dec_lt i W.left) m;
    }
      where
        passed : (i : ℕ) (d : Side) → i < length slots → IsWay (get_or slots i d) u v → Dec (i ≡ place) → Dec (i < W.left) → place ≤ i → ⊥
        passed i d h w (yes e) _ m = not d (subst (λ j. IsWay (get_or slots j d) u v) e w)
        passed i d h w (no e) (yes f) m =
            let g = length-take W.left keys in
            let k = length_keys n slots in
            none_after (is_in b) (take W.left keys) place i (sym W.stands) (omega arith) (omega arith) (ap (is_in b) (get_or-take W.left keys i None f) ∙ in_way i d h w)
        passed i d h w (no e) (no f) m = W.passed i d (omega arith) h w

  pub walk_ends : IsWalked b keys slots u v None → ¬ HasSide slots u v
  walk_ends W h = by_order (dec_lt k W.left)
    where
      s : Side
      s = side u v h.apex

      k : ℕ
      k = h.there.0

      w : IsWay (get_or slots k s) u v
      w = subst (λ y. IsWay y u v) (sym h.there.2) (refl, refl)

      by_order : Dec (k < W.left) → ⊥
      by_order (yes l) =
          let g = length-take W.left keys in
          let m = length_keys n slots in
          let o = h.there.1 in
          none_at (is_in b) (take W.left keys) k (sym W.stands) (omega arith) (ap (is_in b) (get_or-take W.left keys k None l) ∙ in_way k s h.there.1 w)
      by_order (no l) = W.passed k s (omega arith) h.there.1 w

pub none_kept : (heads before : List (Option ℕ)) (slots : List Side) → AreKept heads before slots → length heads ≡ 0 → (u v : ℕ) → ¬ HasSide slots u v
none_kept heads before slots K e u v h = let l = h.there.1 in let m = K.buckets (omega arith) in omega arith

-- ---- a side from a point
pub none_from : (slots : List Side) (u : ℕ) → ((k : ℕ) (d : Side) → k < length slots → ((get_or slots k d).from ≢ u)) → (v : ℕ) → ¬ HasSide slots u v
none_from slots u h v g = h g.there.0 (side u v g.apex) g.there.1 (ap (λ (s : Side). s.from) g.there.2)

-- ---- sides on different ways
pub distinct_none : AreDistinct []
distinct_none i j d l m e f = absurd (omega arith)

pub distinct_add : (ss : List Side) (t : Side) → AreDistinct ss → ¬ HasSide ss t.from t.to → AreDistinct (ss ++ t ∷ [])
distinct_add ss t D fresh i j d l m e f = by_cases (dec_lt i (length ss)) (dec_lt j (length ss))
  where
    long : length (ss ++ t ∷ []) ≡ suc (length ss)
    long = let g = length-append ss (t ∷ []) in omega arith

    inside : (k : ℕ) → k < length ss → get_or (ss ++ t ∷ []) k d ≡ get_or ss k d
    inside k g = get_or-append ss (t ∷ []) d k g

    at_end : (k : ℕ) → k ≡ length ss → get_or (ss ++ t ∷ []) k d ≡ t
    at_end k g = ap (λ j. get_or (ss ++ t ∷ []) j d) g ∙ get_or-append_seam ss t [] d

    meets : (k h : ℕ) → k < length ss → h ≡ length ss → (get_or (ss ++ t ∷ []) k d).from ≡ (get_or (ss ++ t ∷ []) h d).from → (get_or (ss ++ t ∷ []) k d).to ≡ (get_or (ss ++ t ∷ []) h d).to → ⊥
    meets k h g r e f =
        let s : Side = get_or ss k d in
        let p : s.from ≡ t.from = ap (λ (s : Side). s.from) (sym (inside k g)) ∙ e ∙ ap (λ (s : Side). s.from) (at_end h r) in
        let q : s.to ≡ t.to = ap (λ (s : Side). s.to) (sym (inside k g)) ∙ f ∙ ap (λ (s : Side). s.to) (at_end h r) in
        fresh (subst (λ x. HasSide ss x t.to) p (subst (λ y. HasSide ss s.from y) q (has_at ss k d g)))

    by_cases : Dec (i < length ss) → Dec (j < length ss) → i ≡ j
    by_cases (yes a) (yes b) = D i j d a b (ap (λ (s : Side). s.from) (sym (inside i a)) ∙ e ∙ ap (λ (s : Side). s.from) (inside j b)) (ap (λ (s : Side). s.to) (sym (inside i a)) ∙ f ∙ ap (λ (s : Side). s.to) (inside j b))
    by_cases (yes a) (no b) = let g = long in absurd (meets i j a (omega arith) e f)
    by_cases (no a) (yes b) = let g = long in absurd (meets j i b (omega arith) (sym e) (sym f))
    by_cases (no a) (no b) = let g = long in omega arith

pub length_sides : (xs : List Side) (i : ℕ) (x : Side) → length (set xs i x) ≡ length xs
length_sides [] i x = refl
length_sides (y ∷ xs) zero x = refl
length_sides (y ∷ xs) (suc i) x = ap suc (length_sides xs i x)

pub distinct_set : (ss : List Side) (u v p : ℕ) (t : Side) → AreDistinct ss → IsPlace ss u v p → ((x y : ℕ) → HasSide ss x y → IsWay t x y → (x ≡ u) × (y ≡ v)) → AreDistinct (set ss p t)
distinct_set ss u v p t D P fresh i j d l m e f = by_cases (ℕ_discrete i p) (ℕ_discrete j p)
  where
    long : length (set ss p t) ≡ length ss
    long = length_sides ss p t

    other : (k : ℕ) → (k ≢ p) → get_or (set ss p t) k d ≡ get_or ss k d
    other k n = get_or-set_other ss p k t d n

    own : (k : ℕ) → k ≡ p → get_or (set ss p t) k d ≡ t
    own k g = ap (λ j. get_or (set ss p t) j d) g ∙ get_or-set_same ss p t d P.within

    meets : (k h : ℕ) → (k ≢ p) → k < length ss → h ≡ p → (get_or (set ss p t) k d).from ≡ (get_or (set ss p t) h d).from → (get_or (set ss p t) k d).to ≡ (get_or (set ss p t) h d).to → ⊥
    meets k h n g r e f =
        let s : Side = get_or ss k d in
        let x : t.from ≡ s.from = sym (ap (λ (s : Side). s.from) (sym (other k n)) ∙ e ∙ ap (λ (s : Side). s.from) (own h r)) in
        let y : t.to ≡ s.to = sym (ap (λ (s : Side). s.to) (sym (other k n)) ∙ f ∙ ap (λ (s : Side). s.to) (own h r)) in
        let w = fresh s.from s.to (has_at ss k d g) (x, y) in
        n (D k p d g P.within (w.0 ∙ sym (P.way d).0) (w.1 ∙ sym (P.way d).1))

    by_cases : Dec (i ≡ p) → Dec (j ≡ p) → i ≡ j
    by_cases (yes a) (yes b) = a ∙ sym b
    by_cases (yes a) (no b) = let g = long in absurd (meets j i b (omega arith) a (sym e) (sym f))
    by_cases (no a) (yes b) = let g = long in absurd (meets i j a (omega arith) b e f)
    by_cases (no a) (no b) = let g = long in D i j d (omega arith) (omega arith) (ap (λ (s : Side). s.from) (sym (other i a)) ∙ e ∙ ap (λ (s : Side). s.from) (other j b)) (ap (λ (s : Side). s.to) (sym (other i a)) ∙ f ∙ ap (λ (s : Side). s.to) (other j b))

pub ordered_distinct : (ss : List Side) → IsOrderedSides ss → AreDistinct ss
ordered_distinct ss up i j d l m e f = by_order (dec_lt i j) (dec_lt j i)
  where
    same : (get_or ss i d).from ≡ (get_or ss j d).from → (get_or ss i d).to ≡ (get_or ss j d).to → way (get_or ss i d) ≡ way (get_or ss j d)
    same e f = pair e f

    by_order : Dec (i < j) → Dec (j < i) → i ≡ j
    by_order (yes a) _ = absurd (not_before_itself (way (get_or ss j d)) (subst (λ w. IsBefore w (way (get_or ss j d))) (same e f) (up i j d a m)))
    by_order (no a) (yes b) = absurd (not_before_itself (way (get_or ss j d)) (subst (λ w. IsBefore (way (get_or ss j d)) w) (same e f) (up j i d b l)))
    by_order (no a) (no b) = omega arith

-- ---- the sides in order
pub put_there : (s : Side) (ts : List Side) (x : Side) → Contains (put_in s ts) x → (s ≡ x) ⊎ Contains ts x
put_there s [] x h = cases x s [] h
put_there s (t ∷ ts) x h = by_test (is_before (way s) (way t)) (put_there s ts x) h
  where
    pass : (Contains (put_in s ts) x → (s ≡ x) ⊎ Contains ts x) → (t ≡ x) ⊎ Contains (put_in s ts) x → (s ≡ x) ⊎ Contains (t ∷ ts) x
    pass rec (inl e) = inr (here x t ts e)
    pass rec (inr k) = past (rec k)
      where
        past : (s ≡ x) ⊎ Contains ts x → (s ≡ x) ⊎ Contains (t ∷ ts) x
        past (inl e) = inl e
        past (inr j) = inr (later x t ts j)

    by_test : (b : Bool) → (Contains (put_in s ts) x → (s ≡ x) ⊎ Contains ts x) → Contains (cond b (s ∷ t ∷ ts) (t ∷ put_in s ts)) x → (s ≡ x) ⊎ Contains (t ∷ ts) x
    by_test true rec k = cases x s (t ∷ ts) k
    by_test false rec k = pass rec (cases x t (put_in s ts) k)

pub put_back : (s : Side) (ts : List Side) (x : Side) → (s ≡ x) ⊎ Contains ts x → Contains (put_in s ts) x
put_back s [] x (inl e) = here x s [] e
put_back s [] x (inr h) = later x s [] h
put_back s (t ∷ ts) x h = by_test (is_before (way s) (way t)) (put_back s ts x) h
  where
    pass : ((s ≡ x) ⊎ Contains ts x → Contains (put_in s ts) x) → (t ≡ x) ⊎ Contains ts x → Contains (t ∷ put_in s ts) x
    pass rec (inl e) = here x t (put_in s ts) e
    pass rec (inr k) = later x t (put_in s ts) (rec (inr k))

    by_test : (b : Bool) → ((s ≡ x) ⊎ Contains ts x → Contains (put_in s ts) x) → (s ≡ x) ⊎ Contains (t ∷ ts) x → Contains (cond b (s ∷ t ∷ ts) (t ∷ put_in s ts)) x
    by_test true rec (inl e) = here x s (t ∷ ts) e
    by_test true rec (inr k) = later x s (t ∷ ts) k
    by_test false rec (inl e) = later x t (put_in s ts) (rec (inl e))
    by_test false rec (inr k) = pass rec (cases x t ts k)

pub members : (ss : List Side) (x : Side) → Contains (in_order ss) x ↔ Contains ss x
members [] x = (λ h. h, λ h. h)
members (s ∷ ss) x = (λ h. there (members ss x) (put_there s (in_order ss) x h), λ h. put_back s (in_order ss) x (back (members ss x) (cases x s ss h)))
  where
    there : Contains (in_order ss) x ↔ Contains ss x → (s ≡ x) ⊎ Contains (in_order ss) x → Contains (s ∷ ss) x
    there rec (inl e) = here x s ss e
    there rec (inr k) = later x s ss (rec.0 k)

    back : Contains (in_order ss) x ↔ Contains ss x → (s ≡ x) ⊎ Contains ss x → (s ≡ x) ⊎ Contains (in_order ss) x
    back rec (inl e) = inl e
    back rec (inr k) = inr (rec.1 k)

pub has_in_order : (ss : List Side) (u v : ℕ) → HasSide ss u v → HasSide (in_order ss) u v
has_in_order ss u v h = record { apex = h.apex; there = (members ss (side u v h.apex)).1 h.there }

pub has_in_slots : (ss : List Side) (u v : ℕ) → HasSide (in_order ss) u v → HasSide ss u v
has_in_slots ss u v h = record { apex = h.apex; there = (members ss (side u v h.apex)).0 h.there }

-- ---- what the functions of the slots leave
pub place_from : (ss : List Side) (i : ℕ) (d : Side) (u v : ℕ) → i < length ss → IsWay (get_or ss i d) u v → IsPlace ss u v i
place_from ss i d u v l w = record { within = l; way = λ e. subst (λ y. IsWay y u v) (default_free ss i d e l) w }

pub not_there : (ss : List Side) (i : ℕ) (d : Side) (u v : ℕ) → i < length ss → ¬ IsWay (get_or ss i d) u v → (e : Side) → ¬ IsWay (get_or ss i e) u v
not_there ss i d u v l n e w = n (subst (λ y. IsWay y u v) (default_free ss i e d l) w)

pub own_key : (n : ℕ) (ss : List Side) (i : ℕ) (s : Side) (b : ℕ) → i < length ss → s ≡ get_or ss i s → b ≡ bucket n s.from s.to → get_or (keys_of n ss) i None ≡ Some b
own_key n ss i s b l e h = get_keys n ss i s l ∙ ap (λ (y : Side). Some (bucket n y.from y.to)) (sym e) ∙ ap (λ k. Some k) (sym h)

pub moved_keys : (n m : ℕ) (ss : List Side) (i : ℕ) (t : Side) (b : ℕ) → m ≡ n → b ≡ bucket n t.from t.to → set (set (keys_of n ss) i None) i (Some b) ≡ keys_of m (set ss i t)
moved_keys n m ss i t b e h = set_twice (keys_of n ss) i None (Some b) ∙ ap (λ k. set (keys_of n ss) i (Some k)) h ∙ sym (set_keys n ss i t) ∙ ap (λ k. keys_of k (set ss i t)) (sym e)

pub more_keys : (n m : ℕ) (old new : List Side) (t : Side) (b : ℕ) → m ≡ n → new ≡ old ++ t ∷ [] → b ≡ bucket n t.from t.to → keys_of n old ++ Some b ∷ [] ≡ keys_of m new
more_keys n m old new t b e f h = ap (λ k. keys_of n old ++ Some k ∷ []) h ∙ sym (append_keys n old t) ∙ ap₂ keys_of (sym e) (sym f)

pub grown : {A B : Type 0} (r : Result A B) (heads before : List (Option ℕ)) (old new : List Side) (t : Side) → AreDistinct old → ¬ HasSide old t.from t.to → 0 < length heads → AreChained heads before (keys_of (length heads) new)
    → OnOk r (new ≡ old ++ t ∷ []) → OnErr r (new ≡ old) → AreKept heads before new
grown (Ok x) heads before old new t D fresh l C h g = record { distinct = subst AreDistinct (sym h) (distinct_add old t D fresh); buckets = λ m. l; chained = C }
grown (Err x) heads before old new t D fresh l C h g = record { distinct = subst AreDistinct (sym g) D; buckets = λ m. l; chained = C }

pub from_slots : (ss : List Side) (u : ℕ) (o : Option Side) → MatchOption o ((v : ℕ) → ¬ HasSide ss u v) (λ s. Contains ss s × (s.from ≡ u)) → MatchOption o ((v : ℕ) → ¬ HasSide (in_order ss) u v) (λ s. Contains (in_order ss) s × (s.from ≡ u))
from_slots ss u None h = λ v k. h v (has_in_slots ss u v k)
from_slots ss u (Some s) h = ((members ss s).1 h.0, h.1)

pub got : (ss : List Side) (u v p : ℕ) (x : Side) → IsPlace ss u v p → x ≡ get_or ss p x → Contains (in_order ss) x × IsWay x u v
got ss u v p x P e = let a = at_place ss p x u v P e in ((members ss x).1 a.0, a.1)
