-- Chains of flips by bucket: which flip last made a triangle, and what a flip more or less makes of them.
use Rattle.std.proofs.Common.{◌≡◌, ◌≢◌, ◌∙◌, ◌⊎◌, inl, inr, ℕ, zero, suc, max, min, ◌<◌, ◌≤◌, Bool, true, false, cond, ◌==◌, ◌&&◌, ◌||◌, Option, None, Some, List, [], ◌∷◌, ◌++◌, length, get_or, take, set, length-append, length-take, get_or-set_same, get_or-set_other, get_or-take, take_all, take-take, refl, sym, ap, ap₂, subst, arith, eq-eqb, eqb-true}
use Rattle.std.proofs.Math.ListN.{get_or-append}
use Rattle.std.proofs.Math.Seq.{get_or-append_seam, take-append_seam}
use Rattle.std.proofs.lemmas.List.{take-append-le}
use native.Mathlib.Decide.{dec_lt, ℕ_discrete}
use Rattle.edge_table.specs.declared.edge.Edge.{Edge}
use Rattle.flip_list_law.specs.declared.Flip.{Flip}
use Rattle.flip_list_law.specs.FlipLists.{Triangle, triangle, makes, IsFlipList}
use Rattle.geo_orient.specs.declared.Point.{Point}
use Rattle.tri_theory.specs.Flips.{FlipsTo}
use Rattle.flip_list_law.proofs.Triangles.{makes_means}
use Rattle.round_pack.specs.declared.slot.Entry.{Entry}
use Rattle.round_pack.specs.Slots.{Slot, flips_in, slot_makes, rank}
use Rattle.round_pack.specs.Chains.{last_where, bucket, is_in, AreChained, AreOrdered, IsWalked, IsNext, IsSought, before_next, later}
use Rattle.round_pack.proofs.Slots.{flip_at_rank}

abbrev step : Option ℕ → Bool → Option ℕ
step place test = elim place [ Some i ↦ Some (suc i) | None ↦ cond test (Some 0) None ]

step_some : (place : Option ℕ) (test : Bool) (i : ℕ) → step place test ≡ Some (suc i) → place ≡ Some i
step_some (Some k) test i e = cc
step_some None true i e = absurd (cc)
step_some None false i e = absurd (cc)

step_zero : (place : Option ℕ) (test : Bool) → step place test ≡ Some 0 → (place ≡ None) × (test ≡ true)
step_zero (Some k) test e = absurd (cc)
step_zero None true e = (refl, refl)
step_zero None false e = absurd (cc)

step_none : (place : Option ℕ) (test : Bool) → step place test ≡ None → (place ≡ None) × (test ≡ false)
step_none (Some k) test e = absurd (cc)
step_none None true e = absurd (cc)
step_none None false e = (refl, refl)

-- ---- the last that passes a test
pub where_within : (test : Slot → Bool) (flips : List Slot) (i : ℕ) → last_where test flips ≡ Some i → i < length flips
where_within test [] i e = absurd (cc)
where_within test (flip ∷ flips) zero e = omega arith
where_within test (flip ∷ flips) (suc i) e = let l = where_within test flips i (step_some _ _ i e) in omega arith

pub where_passes : (test : Slot → Bool) (flips : List Slot) (i : ℕ) (d : Slot) → last_where test flips ≡ Some i → test (get_or flips i d) ≡ true
where_passes test [] i d e = absurd (cc)
where_passes test (flip ∷ flips) zero d e = (step_zero _ _ e).1
where_passes test (flip ∷ flips) (suc i) d e = where_passes test flips i d (step_some _ _ i e)

and_false_first : (a b : Bool) → a ≡ false → a && b ≡ false
and_false_first true b h = absurd (cc)
and_false_first false b h = refl

and_false_second : (a b : Bool) → b ≡ false → a && b ≡ false
and_false_second true b h = h
and_false_second false b h = refl

and_true : (a b : Bool) → a ≡ true → b ≡ true → a && b ≡ true
and_true true b h k = k
and_true false b h k = absurd (cc)

module _ (p q : Slot → Bool) where
  abbrev both : Slot → Bool
  both f = p f && q f

  pub both_none : (flips : List Slot) → last_where p flips ≡ None → last_where both flips ≡ None
  both_none [] e = refl
  both_none (flip ∷ flips) e =
      let s = step_none (last_where p flips) (p flip) e in
      ap₂ step (both_none flips s.0) (and_false_first (p flip) (q flip) s.1)

  pub both_here : (flips : List Slot) (i : ℕ) (d : Slot) → last_where p flips ≡ Some i → q (get_or flips i d) ≡ true → last_where both flips ≡ Some i
  both_here [] i d e h = absurd (cc)
  both_here (flip ∷ flips) zero d e h =
      let s = step_zero (last_where p flips) (p flip) e in
      ap₂ step (both_none flips s.0) (and_true (p flip) (q flip) s.1 h)
  both_here (flip ∷ flips) (suc i) d e h = ap (λ o. step o (both flip)) (both_here flips i d (step_some _ _ i e) h)

  pub both_before : (flips : List Slot) (i : ℕ) (d : Slot) → last_where p flips ≡ Some i → q (get_or flips i d) ≡ false → last_where both flips ≡ last_where both (take i flips)
  both_before [] i d e h = absurd (cc)
  both_before (flip ∷ flips) zero d e h =
      let s = step_zero (last_where p flips) (p flip) e in
      ap₂ step (both_none flips s.0) (and_false_second (p flip) (q flip) h)
  both_before (flip ∷ flips) (suc i) d e h = ap (λ o. step o (both flip)) (both_before flips i d (step_some _ _ i e) h)

-- ---- one that passes either of two tests
later_step : (o p : Option ℕ) (a b : Bool) → step (later o p) (a || b) ≡ later (step o a) (step p b)
later_step None None true true = refl
later_step None None true false = refl
later_step None None false true = refl
later_step None None false false = refl
later_step None (Some j) true b = let e : suc j ≡ max 0 (suc j) = omega arith in ap (λ n. Some n) e
later_step None (Some j) false b = refl
later_step (Some i) None a true = let e : suc i ≡ max (suc i) 0 = omega arith in ap (λ n. Some n) e
later_step (Some i) None a false = refl
later_step (Some i) (Some j) a b = let e : suc (max i j) ≡ max (suc i) (suc j) = omega arith in ap (λ n. Some n) e

pub either_where : (p q : Slot → Bool) (flips : List Slot) → last_where (λ f. p f || q f) flips ≡ later (last_where p flips) (last_where q flips)
either_where p q [] = refl
either_where p q (flip ∷ flips) = ap (λ o. step o (p flip || q flip)) (either_where p q flips) ∙ later_step (last_where p flips) (last_where q flips) (p flip) (q flip)

pub same_where : (p q : Slot → Bool) (flips : List Slot) → ((i : ℕ) (d : Slot) → i < length flips → p (get_or flips i d) ≡ q (get_or flips i d)) → last_where p flips ≡ last_where q flips
same_where p q [] h = refl
same_where p q (flip ∷ flips) h = ap₂ step (same_where p q flips (λ i d l. h (suc i) d (omega arith))) (h 0 flip (omega arith))

-- ---- the walk along a bucket
module _ (heads before : List (Option ℕ)) (flips : List Slot) (C : AreChained heads before flips) (b : ℕ) (t : Triangle) where
  abbrev count : ℕ
  count = length heads

  pub walk_starts : b < count → IsWalked count b flips t (get_or heads b None)
  walk_starts l =
      let all : take (length flips) flips ≡ flips = take_all (length flips) flips (omega arith) in
      record { left = length flips; within = omega arith; stands = C.last b l ∙ ap (last_where (is_in count b)) (sym all); passed = ap (last_where (λ f. is_in count b f && slot_makes f t)) (sym all) }

  short : (k : ℕ) → length (take k flips) ≤ k
  short k = let e = length-take k flips in omega arith

  long_enough : (k : ℕ) → length (take k flips) ≤ length flips
  long_enough k = let e = length-take k flips in omega arith

  pub walk_within : (place : ℕ) → IsWalked count b flips t (Some place) → (place < length flips) × (place < length before)
  walk_within place w = let l = where_within (is_in count b) (take w.left flips) place (sym w.stands) in let m = long_enough w.left in let n = C.long in (omega arith, omega arith)

  same_place : (left place : ℕ) (d : Slot) → place < length (take left flips) → get_or (take left flips) place d ≡ get_or flips place d
  same_place left place d l = let m = short left in get_or-take left flips place d (omega arith)

  pub walk_in : (place : ℕ) → IsWalked count b flips t (Some place) → is_in count b (get_or flips place None) ≡ true
  walk_in place w =
      let l = where_within (is_in count b) (take w.left flips) place (sym w.stands) in
      ap (is_in count b) (sym (same_place w.left place None l)) ∙ where_passes (is_in count b) (take w.left flips) place None (sym w.stands)

  pub walk_found : (place : ℕ) (x : Slot) → IsWalked count b flips t (Some place) → x ≡ get_or flips place x → slot_makes x t ≡ true → last_where (λ f. is_in count b f && slot_makes f t) flips ≡ Some place
  walk_found place x w at m =
      let l = where_within (is_in count b) (take w.left flips) place (sym w.stands) in
      w.passed ∙ both_here (is_in count b) (λ f. slot_makes f t) (take w.left flips) place x (sym w.stands) (ap (λ f. slot_makes f t) (same_place w.left place x l ∙ sym at) ∙ m)

  pub walk_ends : IsWalked count b flips t None → last_where (λ f. is_in count b f && slot_makes f t) flips ≡ None
  walk_ends w = w.passed ∙ both_none (is_in count b) (λ f. slot_makes f t) (take w.left flips) (sym w.stands)

  pub walk_on : (place : ℕ) (x : Slot) → IsWalked count b flips t (Some place) → x ≡ get_or flips place x → slot_makes x t ≡ false → IsWalked count b flips t (get_or before place None)
  walk_on place x w at m =
      let l = where_within (is_in count b) (take w.left flips) place (sym w.stands) in
      let s = short w.left in
      let in_list : place < length flips = (walk_within place w).0 in
      let here = same_place w.left place x l in
      let inside : is_in count b (get_or flips place None) ≡ true = ap (is_in count b) (sym (same_place w.left place None l)) ∙ where_passes (is_in count b) (take w.left flips) place None (sym w.stands) in
      let cut : take place (take w.left flips) ≡ take place flips = take-take place w.left flips (omega arith) in
      record {
        left = place;
        within = omega arith;
        stands = C.earlier place b in_list inside;
        passed =
            w.passed ∙ both_before (is_in count b) (λ f. slot_makes f t) (take w.left flips) place x (sym w.stands) (ap (λ f. slot_makes f t) (here ∙ sym at) ∙ m)
            ∙ ap (last_where (λ f. is_in count b f && slot_makes f t)) cut;
      }

-- ---- a triangle's maker is in the bucket of one of its sides
and_none : (a : Bool) → a && false ≡ false
and_none true = refl
and_none false = refl

cover : (a b c m : Bool) → (m ≡ true → (a ≡ true) ⊎ ((b ≡ true) ⊎ (c ≡ true))) → m ≡ (a && m) || ((b && m) || (c && m))
cover a b c false h = rw (and_none a, and_none b, and_none c) refl
cover true b c true h = refl
cover false true c true h = refl
cover false false true true h = refl
cover false false false true h = absurd (elim (h refl) [ inl e ↦ none e | inr e ↦ elim e [ inl i ↦ none i | inr i ↦ none i ] ])
  where
    none : false ≡ true → ⊥
    none e = cc

sides_of : (flip : Flip) (t : Triangle) → flip.image.0 ≤ flip.image.1 → makes flip t ≡ true
    → ((flip.image.0 ≡ t.0) × (flip.image.1 ≡ t.1)) ⊎ (((flip.image.0 ≡ t.0) × (flip.image.1 ≡ t.2)) ⊎ ((flip.image.0 ≡ t.1) × (flip.image.1 ≡ t.2)))
unfolding triangle
sides_of flip t l m = elim (makes_means flip t m) [ inl i ↦ corner _ i | inr i ↦ corner _ i ]
  where
    corner : (c : ℕ) → t ≡ triangle flip.image.0 flip.image.1 c → ((flip.image.0 ≡ t.0) × (flip.image.1 ≡ t.1)) ⊎ (((flip.image.0 ≡ t.0) × (flip.image.1 ≡ t.2)) ⊎ ((flip.image.0 ≡ t.1) × (flip.image.1 ≡ t.2)))
    corner c e = by_order (ap (λ (s : Triangle). s.0) e) (ap (λ (s : Triangle). s.1) e) (ap (λ (s : Triangle). s.2) e) (dec_lt c flip.image.0) (dec_lt c flip.image.1)
      where
        by_order : t.0 ≡ min flip.image.0 (min flip.image.1 c) → t.1 ≡ max (min flip.image.0 flip.image.1) (min (max flip.image.0 flip.image.1) c) → t.2 ≡ max flip.image.0 (max flip.image.1 c) → Dec (c < flip.image.0) → Dec (c < flip.image.1)
            → ((flip.image.0 ≡ t.0) × (flip.image.1 ≡ t.1)) ⊎ (((flip.image.0 ≡ t.0) × (flip.image.1 ≡ t.2)) ⊎ ((flip.image.0 ≡ t.1) × (flip.image.1 ≡ t.2)))
        by_order p q r (yes u) _ = inr (inr (omega arith, omega arith))
        by_order p q r (no n) (yes u) = inr (inl (omega arith, omega arith))
        by_order p q r (no n) (no o) = inl (omega arith, omega arith)

default_free : (slots : List Slot) (i : ℕ) (d e : Slot) → i < length slots → get_or slots i d ≡ get_or slots i e
default_free [] i d e l = absurd (omega arith)
default_free (slot ∷ slots) zero d e l = refl
default_free (slot ∷ slots) (suc i) d e l = default_free slots i d e (omega arith)

pub maker_by_sides : (count : ℕ) (slots : List Slot) (t : Triangle) → AreOrdered (flips_in slots)
    → last_where (λ s. slot_makes s t) slots
    ≡ later (last_where (λ s. is_in count (bucket count t.0 t.1) s && slot_makes s t) slots) (later (last_where (λ s. is_in count (bucket count t.0 t.2) s && slot_makes s t) slots) (last_where (λ s. is_in count (bucket count t.1 t.2) s && slot_makes s t) slots))
maker_by_sides count slots t ordered =
    same_where (λ s. slot_makes s t) (λ s. first s || (second s || third s)) slots here ∙ either_where first (λ s. second s || third s) slots ∙ ap (later (last_where first slots)) (either_where second third slots)
  where
    first : Slot → Bool
    first s = is_in count (bucket count t.0 t.1) s && slot_makes s t

    second : Slot → Bool
    second s = is_in count (bucket count t.0 t.2) s && slot_makes s t

    third : Slot → Bool
    third s = is_in count (bucket count t.1 t.2) s && slot_makes s t

    there : (e : Entry) (x y : ℕ) → (e.flip.image.0 ≡ x) × (e.flip.image.1 ≡ y) → is_in count (bucket count x y) (Some e) ≡ true
    there e x y h = eq-eqb _ _ (ap₂ (bucket count) h.0 h.1)

    of_slot : (s : Slot) → ((e : Entry) → s ≡ Some e → e.flip.image.0 ≤ e.flip.image.1) → slot_makes s t ≡ first s || (second s || third s)
    of_slot None h = refl
    of_slot (Some e) h =
        cover (is_in count (bucket count t.0 t.1) (Some e)) (is_in count (bucket count t.0 t.2) (Some e)) (is_in count (bucket count t.1 t.2) (Some e)) (makes e.flip t)
        (λ m. elim (sides_of e.flip t (h e refl) m) [ inl g ↦ inl (there e t.0 t.1 g) | inr g ↦ elim g [ inl k ↦ inr (inl (there e t.0 t.2 k)) | inr k ↦ inr (inr (there e t.1 t.2 k)) ] ])

    in_order : (i : ℕ) (e : Entry) → get_or slots i None ≡ Some e → e.flip.image.0 ≤ e.flip.image.1
    in_order i e h =
        let r = flip_at_rank slots i e h in
        let o = ordered (rank slots i) e.flip r.0 in
        subst (λ (f : Flip). f.image.0 ≤ f.image.1) (r.1 e.flip) o

    here : (i : ℕ) (d : Slot) → i < length slots → slot_makes (get_or slots i d) t ≡ first (get_or slots i d) || (second (get_or slots i d) || third (get_or slots i d))
    here i d l = of_slot (get_or slots i d) (λ e h. in_order i e (default_free slots i None d l ∙ h))

-- ---- one flip more
pub where_append : (test : Slot → Bool) (flips : List Slot) (flip : Slot) → last_where test (flips ++ flip ∷ []) ≡ cond (test flip) (Some (length flips)) (last_where test flips)
where_append test [] flip = refl
where_append test (first ∷ flips) flip = ap (λ o. step o (test first)) (where_append test flips flip) ∙ pass (test flip) (test first) (length flips) (last_where test flips)
  where
    pass : (a b : Bool) (n : ℕ) (o : Option ℕ) → step (cond a (Some n) o) b ≡ cond a (Some (suc n)) (step o b)
    pass true b n o = refl
    pass false b n o = refl

-- ---- one flip less
eq_false : (a b : ℕ) → (a ≢ b) → (a == b) ≡ false
eq_false a b n = by_test (a == b) refl
  where
    by_test : (u : Bool) → (a == b) ≡ u → (a == b) ≡ false
    by_test true h = absurd (n (eqb-true a b h))
    by_test false h = h

module _ (test : Slot → Bool) (none : test None ≡ false) where
  pub none_at : (slots : List Slot) (i : ℕ) → last_where test slots ≡ None → i < length slots → test (get_or slots i None) ≡ true → ⊥
  none_at [] i e m h = absurd (omega arith)
  none_at (slot ∷ slots) zero e m h = let s = (step_none _ _ e).1 in absurd (cc)
  none_at (slot ∷ slots) (suc i) e m h = none_at slots i (step_none _ _ e).0 (omega arith) h

  -- none of those after the last passes
  pub none_after : (slots : List Slot) (p i : ℕ) → last_where test slots ≡ Some p → p < i → i < length slots → test (get_or slots i None) ≡ true → ⊥
  none_after [] p i e l m h = absurd (omega arith)
  none_after (slot ∷ slots) p zero e l m h = absurd (omega arith)
  none_after (slot ∷ slots) zero (suc i) e l m h = none_at slots i (step_zero _ _ e).0 (omega arith) h
  none_after (slot ∷ slots) (suc p) (suc i) e l m h = none_after slots p i (step_some _ _ p e) (omega arith) (omega arith) h

  pub without_other : (slots : List Slot) (p : ℕ) → (last_where test slots ≢ Some p) → last_where test (set slots p None) ≡ last_where test slots
  without_other [] p h = refl
  without_other (slot ∷ slots) zero h = by_last (last_where test slots) refl (test slot) refl
    where
      by_last : (o : Option ℕ) → last_where test slots ≡ o → (b : Bool) → test slot ≡ b → step (last_where test slots) (test None) ≡ step (last_where test slots) (test slot)
      by_last (Some k) f b g = rw (f) refl
      by_last None f true g = absurd (h (ap₂ step f g))
      by_last None f false g = ap (step (last_where test slots)) (none ∙ sym g)
  without_other (slot ∷ slots) (suc p) h = ap (λ o. step o (test slot)) (without_other slots p (λ e. h (ap (λ o. step o (test slot)) e)))

  pub without_last : (slots : List Slot) (p : ℕ) → last_where test slots ≡ Some p → last_where test (set slots p None) ≡ last_where test (take p slots)
  without_last [] p e = absurd (cc)
  without_last (slot ∷ slots) zero e = ap₂ step (step_zero _ _ e).0 none
  without_last (slot ∷ slots) (suc p) e = ap (λ o. step o (test slot)) (without_last slots p (step_some _ _ p e))

take_set : (slots : List Slot) (i p : ℕ) (x : Slot) → take i (set slots p x) ≡ set (take i slots) p x
take_set [] i p x = none_set i p
  where
    empty : List Slot
    empty = []

    take_none : (i : ℕ) → take i empty ≡ empty
    take_none zero = refl
    take_none (suc i) = refl

    none_set : (i p : ℕ) → take i (set empty p x) ≡ set (take i empty) p x
    none_set i p = take_none i ∙ sym (ap (λ xs. set xs p x) (take_none i))
take_set (slot ∷ slots) zero zero x = refl
take_set (slot ∷ slots) zero (suc p) x = refl
take_set (slot ∷ slots) (suc i) zero x = refl
take_set (slot ∷ slots) (suc i) (suc p) x = ap (λ xs. slot ∷ xs) (take_set slots i p x)

length_slots : (xs : List Slot) (i : ℕ) (x : Slot) → length (set xs i x) ≡ length xs
length_slots [] i x = refl
length_slots (y ∷ xs) zero x = refl
length_slots (y ∷ xs) (suc i) x = ap suc (length_slots xs i x)

-- ---- the chains, with a flip more and with one less
length_set : (xs : List (Option ℕ)) (i : ℕ) (x : Option ℕ) → length (set xs i x) ≡ length xs
length_set [] i x = refl
length_set (y ∷ xs) zero x = refl
length_set (y ∷ xs) (suc i) x = ap suc (length_set xs i x)

chained : (heads before : List (Option ℕ)) (slots : List Slot) (n : ℕ) → n ≡ length heads → 0 < n → ((b : ℕ) → b < n → get_or heads b None ≡ last_where (is_in n b) slots) → length before ≡ length slots
    → ((i b : ℕ) → i < length slots → is_in n b (get_or slots i None) ≡ true → get_or before i None ≡ last_where (is_in n b) (take i slots)) → AreChained heads before slots
chained heads before slots n e s l g r =
    let all = subst (λ m. (0 < m) × ((b : ℕ) → b < m → get_or heads b None ≡ last_where (is_in m b) slots) × ((i b : ℕ) → i < length slots → is_in m b (get_or slots i None) ≡ true → get_or before i None ≡ last_where (is_in m b) (take i slots))) e (s, l, r) in
    record { some = all.0; last = all.1; long = g; earlier = all.2 }

pub linked : (heads before : List (Option ℕ)) (slots : List Slot) (entry : Entry) (b : ℕ) → AreChained heads before slots → b ≡ bucket (length heads) entry.flip.image.0 entry.flip.image.1 → b < length heads
    → AreChained (set heads b (Some (length slots))) (before ++ get_or heads b None ∷ []) (slots ++ Some entry ∷ [])
linked heads before slots entry b C h l =
    chained (set heads b (Some (length slots))) (before ++ get_or heads b None ∷ []) (slots ++ Some entry ∷ []) (length heads) (sym (length_set heads b (Some (length slots)))) C.some (λ k m. last k m (ℕ_discrete k b)) long (λ i k m t. earlier i k m t (dec_lt i (length slots)))
  where
    last : (k : ℕ) → k < length heads → Dec (k ≡ b) → get_or (set heads b (Some (length slots))) k None ≡ last_where (is_in (length heads) k) (slots ++ Some entry ∷ [])
    last k m (yes e) =
        let t : is_in (length heads) k (Some entry) ≡ true = eq-eqb _ _ (sym h ∙ sym e) in
        ap (λ j. get_or (set heads b (Some (length slots))) j None) e ∙ get_or-set_same heads b (Some (length slots)) None l
        ∙ sym (where_append (is_in (length heads) k) slots (Some entry) ∙ ap (λ u. cond u (Some (length slots)) (last_where (is_in (length heads) k) slots)) t)
    last k m (no n) =
        let t : is_in (length heads) k (Some entry) ≡ false = eq_false _ _ (λ e. n (sym e ∙ sym h)) in
        get_or-set_other heads b k (Some (length slots)) None n ∙ C.last k m
        ∙ sym (where_append (is_in (length heads) k) slots (Some entry) ∙ ap (λ u. cond u (Some (length slots)) (last_where (is_in (length heads) k) slots)) t)

    long : length (before ++ get_or heads b None ∷ []) ≡ length (slots ++ Some entry ∷ [])
    long = let e = length-append before (get_or heads b None ∷ []) in let f = length-append slots (Some entry ∷ []) in let g = C.long in omega arith

    earlier : (i k : ℕ) → i < length (slots ++ Some entry ∷ []) → is_in (length heads) k (get_or (slots ++ Some entry ∷ []) i None) ≡ true → Dec (i < length slots)
        → get_or (before ++ get_or heads b None ∷ []) i None ≡ last_where (is_in (length heads) k) (take i (slots ++ Some entry ∷ []))
    earlier i k m t (yes u) =
        let g = C.long in
        get_or-append before (get_or heads b None ∷ []) None i (omega arith)
        ∙ C.earlier i k u (ap (is_in (length heads) k) (sym (get_or-append slots (Some entry ∷ []) None i u)) ∙ t)
        ∙ ap (last_where (is_in (length heads) k)) (sym (take-append-le i slots (Some entry ∷ []) (omega arith)))
    earlier i k m t (no n) =
        let g = C.long in
        let f = length-append slots (Some entry ∷ []) in
        let e : i ≡ length before = omega arith in
        let e2 : i ≡ length slots = omega arith in
        let own : is_in (length heads) k (Some entry) ≡ true = ap (is_in (length heads) k) (sym (ap (λ j. get_or (slots ++ Some entry ∷ []) j None) e2 ∙ get_or-append_seam slots (Some entry) [] None)) ∙ t in
        let same : b ≡ k = h ∙ eqb-true _ _ own in
        ap (λ j. get_or (before ++ get_or heads b None ∷ []) j None) e ∙ get_or-append_seam before (get_or heads b None) [] None ∙ C.last b l ∙ ap (λ j. last_where (is_in (length heads) j) slots) same
        ∙ ap (last_where (is_in (length heads) k)) (sym (ap (λ j. take j (slots ++ Some entry ∷ [])) e2 ∙ take-append_seam slots (Some entry ∷ [])))

module _ (heads before : List (Option ℕ)) (slots : List Slot) (C : AreChained heads before slots) (place b : ℕ) (entry : Entry) (l : place < length slots) (s : get_or slots place None ≡ Some entry) (hb : b ≡ bucket (length heads) entry.flip.image.0 entry.flip.image.1) where
  abbrev n : ℕ
  n = length heads

  abbrev fewer : List Slot
  fewer = set slots place None

  pub in_bucket : is_in n b (get_or slots place None) ≡ true
  in_bucket = ap (is_in n b) s ∙ eq-eqb _ _ (sym hb)

  one_bucket : (k : ℕ) → is_in n k (get_or slots place None) ≡ true → k ≡ b
  one_bucket k h = sym (eqb-true _ _ (ap (is_in n k) (sym s) ∙ h)) ∙ sym hb

  passes_here : (k i : ℕ) → last_where (is_in n k) (take i slots) ≡ Some place → (k ≡ b) × (place < i)
  passes_here k i e =
      let w = where_within (is_in n k) (take i slots) place e in
      let t = length-take i slots in
      let u : place < i = omega arith in
      (one_bucket k (ap (is_in n k) (sym (get_or-take i slots place None u)) ∙ where_passes (is_in n k) (take i slots) place None e), u)

  -- a slot other than the next keeps the one before it
  keeps : (i k : ℕ) → (last_where (is_in n k) (take i slots) ≢ Some place) → last_where (is_in n k) (take i slots) ≡ last_where (is_in n k) (take i fewer)
  keeps i k h = sym (ap (last_where (is_in n k)) (take_set slots i place None) ∙ without_other (is_in n k) refl (take i slots) place h)

  all_of : take (length slots) slots ≡ slots
  all_of = take_all (length slots) slots (omega arith)

  keeps_last : (k : ℕ) → (last_where (is_in n k) slots ≢ Some place) → last_where (is_in n k) slots ≡ last_where (is_in n k) fewer
  keeps_last k h = sym (without_other (is_in n k) refl slots place h)

  takes_over : (i : ℕ) → last_where (is_in n b) (take i slots) ≡ Some place → last_where (is_in n b) (take place slots) ≡ last_where (is_in n b) (take i fewer)
  takes_over i e =
      let u = (passes_here b i e).1 in
      sym (ap (last_where (is_in n b)) (take_set slots i place None) ∙ without_last (is_in n b) refl (take i slots) place e ∙ ap (last_where (is_in n b)) (take-take place i slots (omega arith)))

  was_there : (i k : ℕ) → i < length fewer → is_in n k (get_or fewer i None) ≡ true → (i ≢ place) × (is_in n k (get_or slots i None) ≡ true)
  was_there i k m h = by_place (ℕ_discrete i place)
    where
      by_place : Dec (i ≡ place) → (i ≢ place) × (is_in n k (get_or slots i None) ≡ true)
      by_place (yes e) = absurd (let g = ap (is_in n k) (ap (λ j. get_or fewer j None) e ∙ get_or-set_same slots place None None l) in cc)
      by_place (no u) = (u, ap (is_in n k) (sym (get_or-set_other slots place i None None u)) ∙ h)

  earlier_is : get_or before place None ≡ last_where (is_in n b) (take place slots)
  earlier_is = C.earlier place b l in_bucket

  -- its bucket's last flip is taken out
  pub unlinked_last : b < n → IsNext n b slots place None → AreChained (set heads b (get_or before place None)) before fewer
  unlinked_last m N =
      chained (set heads b (get_or before place None)) before fewer n (sym (length_set heads b (get_or before place None))) C.some (λ k v. last k v (ℕ_discrete k b)) (C.long ∙ sym (length_slots slots place None)) (λ i k v t. earlier i k v (was_there i k v t))
    where
      is_last : last_where (is_in n b) slots ≡ Some place
      is_last = ap (last_where (is_in n b)) (sym all_of) ∙ N.last

      last : (k : ℕ) → k < n → Dec (k ≡ b) → get_or (set heads b (get_or before place None)) k None ≡ last_where (is_in n k) fewer
      last k v (yes e) =
          ap (λ j. get_or (set heads b (get_or before place None)) j None) e ∙ get_or-set_same heads b (get_or before place None) None m ∙ earlier_is
          ∙ sym (without_last (is_in n b) refl slots place is_last) ∙ ap (λ j. last_where (is_in n j) fewer) (sym e)
      last k v (no u) =
          get_or-set_other heads b k (get_or before place None) None u ∙ C.last k v ∙ keeps_last k (λ e. u ((passes_here k (length slots) (ap (last_where (is_in n k)) all_of ∙ e)).0))

      earlier : (i k : ℕ) → i < length fewer → (i ≢ place) × (is_in n k (get_or slots i None) ≡ true) → get_or before i None ≡ last_where (is_in n k) (take i fewer)
      earlier i k v t =
          let w = length_slots slots place None in
          C.earlier i k (omega arith) t.1
          ∙ keeps i k (λ e. let p = passes_here k i e in none_after (is_in n b) refl slots place i is_last p.1 (omega arith) (ap (λ j. is_in n j (get_or slots i None)) (sym p.0) ∙ t.1))

  -- one that another follows in its bucket
  pub unlinked_before : (next : ℕ) → IsNext n b slots place (Some next) → AreChained heads (set before next (get_or before place None)) fewer
  unlinked_before next N =
      chained heads (set before next (get_or before place None)) fewer n refl C.some last (length_set before next (get_or before place None) ∙ C.long ∙ sym (length_slots slots place None)) (λ i k v t. earlier i k v (was_there i k v t) (ℕ_discrete i next))
    where
      inside : next < length slots
      inside = (N.within next refl).0

      follows : is_in n b (get_or slots next None) ≡ true
      follows = (N.within next refl).1

      after : place < next
      after = (passes_here b next N.last).1

      last : (k : ℕ) → k < n → get_or heads k None ≡ last_where (is_in n k) fewer
      last k v =
          C.last k v
          ∙ keeps_last k (λ e. let p = passes_here k (length slots) (ap (last_where (is_in n k)) all_of ∙ e) in none_after (is_in n k) refl slots place next e after inside (ap (λ j. is_in n j (get_or slots next None)) p.0 ∙ follows))

      earlier : (i k : ℕ) → i < length fewer → (i ≢ place) × (is_in n k (get_or slots i None) ≡ true) → Dec (i ≡ next) → get_or (set before next (get_or before place None)) i None ≡ last_where (is_in n k) (take i fewer)
      earlier i k v t (yes e) =
          let g = C.long in
          let m = inside in
          let here : is_in n k (get_or slots next None) ≡ true = ap (λ j. is_in n k (get_or slots j None)) (sym e) ∙ t.1 in
          let same : k ≡ b = same_bucket (get_or slots next None) here follows in
          ap (λ j. get_or (set before next (get_or before place None)) j None) e ∙ get_or-set_same before next (get_or before place None) None (omega arith) ∙ earlier_is ∙ takes_over next N.last
          ∙ ap₂ (λ j i. last_where (is_in n j) (take i fewer)) (sym same) (sym e)
        where
          same_bucket : (x : Slot) → is_in n k x ≡ true → is_in n b x ≡ true → k ≡ b
          same_bucket None p q = absurd (cc)
          same_bucket (Some y) p q = sym (eqb-true _ _ p) ∙ eqb-true _ _ q
      earlier i k v t (no u) =
          let w = length_slots slots place None in
          get_or-set_other before next i (get_or before place None) None u ∙ C.earlier i k (omega arith) t.1
          ∙ keeps i k (λ e. let p = passes_here k i e in between (dec_lt i next) p (ap (λ j. last_where (is_in n j) (take i slots)) (sym p.0) ∙ e))
        where
          own : k ≡ b → is_in n b (get_or slots i None) ≡ true
          own e = ap (λ j. is_in n j (get_or slots i None)) (sym e) ∙ t.1

          between : Dec (i < next) → (k ≡ b) × (place < i) → last_where (is_in n b) (take i slots) ≡ Some place → ⊥
          between (yes m) p e =
              let x = length-take next slots in
              let y = inside in
              none_after (is_in n b) refl (take next slots) place i N.last p.1 (omega arith) (ap (is_in n b) (get_or-take next slots i None m) ∙ own p.0)
          between (no m) p e =
              let x = length-take i slots in
              let w = length_slots slots place None in
              let y : next < i = omega arith in
              none_after (is_in n b) refl (take i slots) place next e after (omega arith) (ap (is_in n b) (get_or-take i slots next None y) ∙ follows)

-- ---- a walk ends
pub is_none : (o : Option ℕ) → ((place : ℕ) → o ≡ Some place → ⊥) → o ≡ None
is_none None h = refl
is_none (Some place) h = absurd (h place refl)

abbrev pub depth : Option ℕ → ℕ
depth o = elim o [ Some place ↦ suc place | None ↦ 0 ]

pub walk_smaller : (heads before : List (Option ℕ)) (slots : List Slot) → AreChained heads before slots → (b place : ℕ) → place < length slots → is_in (length heads) b (get_or slots place None) ≡ true → (at : Option ℕ) → at ≡ Some place → depth (get_or before place None) < depth at
walk_smaller heads before slots C b place l h at e = subst (λ o. depth (get_or before place None) < depth o) (sym e) (below (get_or before place None) (C.earlier place b l h))
  where
    below : (o : Option ℕ) → o ≡ last_where (is_in (length heads) b) (take place slots) → depth o < suc place
    below None h = omega arith
    below (Some k) h = let w = where_within _ (take place slots) k (sym h) in let t = length-take place slots in omega arith

-- ---- the walk to the flip after one in its bucket
module _ (heads before : List (Option ℕ)) (slots : List Slot) (C : AreChained heads before slots) (b place : ℕ) (l : place < length slots) (t : is_in (length heads) b (get_or slots place None) ≡ true) where
  pub sought_starts : b < length heads → IsSought (length heads) b slots place None (get_or heads b None)
  sought_starts m = record { passed = l; within = λ j e. absurd (cc); stands = C.last b m ∙ ap (last_where (is_in (length heads) b)) (sym (take_all (length slots) slots (omega arith))) }

  module _ (next : Option ℕ) (i : ℕ) (S : IsSought (length heads) b slots place next (Some i)) where
    in_part : i < length (take (before_next slots next) slots)
    in_part = where_within (is_in (length heads) b) (take (before_next slots next) slots) i (sym S.stands)

    pub sought_within : (i < length slots) × (i < length before)
    sought_within = let w = in_part in let e = length-take (before_next slots next) slots in let g = C.long in (omega arith, omega arith)

    pub sought_in : is_in (length heads) b (get_or slots i None) ≡ true
    sought_in =
        let w = in_part in
        let e = length-take (before_next slots next) slots in
        ap (is_in (length heads) b) (sym (get_or-take (before_next slots next) slots i None (omega arith))) ∙ where_passes (is_in (length heads) b) (take (before_next slots next) slots) i None (sym S.stands)

    pub sought_found : i ≡ place → IsNext (length heads) b slots place next
    sought_found h = record { within = S.within; last = sym S.stands ∙ ap (λ j. Some j) h }

    pub sought_on : (i ≢ place) → IsSought (length heads) b slots place (Some i) (get_or before i None)
    sought_on n = record { passed = by_order (dec_lt place i); within = λ j e. subst (λ k. (k < length slots) × (is_in (length heads) b (get_or slots k None) ≡ true)) (let s : i ≡ j = cc in s) (sought_within.0, sought_in); stands = C.earlier i b sought_within.0 sought_in }
      where
        by_order : Dec (place < i) → place < i
        by_order (yes u) = u
        by_order (no u) =
            let p = S.passed in
            let e = length-take (before_next slots next) slots in
            absurd
            (none_after (is_in (length heads) b) refl (take (before_next slots next) slots) i place (sym S.stands) (omega arith) (omega arith)
            (ap (is_in (length heads) b) (get_or-take (before_next slots next) slots place None S.passed) ∙ t))

  pub sought_ends : (next : Option ℕ) → IsSought (length heads) b slots place next None → ⊥
  sought_ends next S =
      let p = S.passed in
      let e = length-take (before_next slots next) slots in
      none_at (is_in (length heads) b) refl (take (before_next slots next) slots) place (sym S.stands) (omega arith) (ap (is_in (length heads) b) (get_or-take (before_next slots next) slots place None S.passed) ∙ t)

-- ---- vectors
pub get_default : (xs : List (Option ℕ)) (i : ℕ) (x : Option ℕ) → i < length xs → x ≡ get_or xs i x → x ≡ get_or xs i None
get_default [] i x l h = absurd (omega arith)
get_default (y ∷ xs) zero x l h = h
get_default (y ∷ xs) (suc i) x l h = get_default xs i x (omega arith) h

pub none_chained : (heads : List (Option ℕ)) → 0 < length heads → ((b : ℕ) → get_or heads b None ≡ None) → AreChained heads [] []
none_chained heads l h = record { some = l; last = λ b m. h b; long = refl; earlier = λ i b m t. absurd (omega arith) }

pub none_more : (heads : List (Option ℕ)) → ((b : ℕ) → get_or heads b None ≡ None) → (b : ℕ) → get_or (heads ++ None ∷ []) b None ≡ None
none_more [] h zero = refl
none_more [] h (suc b) = refl
none_more (x ∷ heads) h zero = h 0
none_more (x ∷ heads) h (suc b) = none_more heads (λ k. h (suc k)) b

pub list_ordered : (points : List Point) (from to : List Edge) (flips : List Flip) → IsFlipList points from flips to → AreOrdered flips
list_ordered points from to [] h i d l = absurd (omega arith)
list_ordered points from to (flip ∷ flips) (next, X, h) zero d l = by_image X.flips
  where
    by_image : FlipsTo points from flip.edge flip.image → flip.image.0 ≤ flip.image.1
    by_image (a, b, c, e, he, hf, q) = let x = ap (λ (g : Edge). g.0) hf in let y = ap (λ (g : Edge). g.1) hf in omega arith
list_ordered points from to (flip ∷ flips) (next, X, h) (suc i) d l = list_ordered points next to flips h i d (omega arith)
