-- The bound of rows, step by step.
use Rattle.std.proofs.Common.{◌≡◌, ◌∙◌, ◌⊎◌, inl, inr, refl, sym, ap, subst, ℕ, zero, suc, ◌+◌, ◌<◌, ◌≤◌, List, [], ◌∷◌, Option, Some, None, length, take, drop, get_or, slice_get, Contains, Bool, true, false, cond, eqb, eqb-true, ◌&&◌, map, sum, min, max, ap₂, arith}
use Rattle.std.proofs.lemmas.Option.{slice_get-get_or, slice_get_within}
use Rattle.std.proofs.lemmas.Bool.{cases_lt}
use Rattle.assignment_law.specs.Assignments.{IsAssignment}
use Rattle.log_law.proofs.Lists.{contains_take}
use Rattle.std.proofs.lemmas.Bool.Decides.{Decides-and}
use Rattle.std.proofs.lemmas.List.Elements.{Contains-get_or}
use Rattle.geo_orient.specs.declared.Point.{Point}
use Rattle.edge_table.specs.declared.edge.Edge.{Edge}
use Rattle.tri_theory.specs.Rounds.{Within, IsPlan, AreWeights, total}
use Rattle.tri_theory.proofs.Proved.{within_is_symmetric}
use Rattle.tri_check.specs.Problems.{IsProblem}
use Rattle.bound_law.specs.Bounds.{input_at, AreLowerBounds}
use Rattle.bound_law.proofs.Proved.{assignments_bound_plans}
use Rattle.plan_law.specs.Books.{PairRow, row_of, lower_of}
use Rattle.flip_cnf.specs.HeldFrames.{HeldFrame, IsHeldFrame}
use Rattle.pair_rows.specs.declared.row.Evidence.{Evidence}
use Rattle.pair_rows.specs.declared.row.End.{End}
use Rattle.pair_rows.specs.declared.row.Row.{Row}
use Rattle.verify_core.specs.Faults.{IsWrongPlace, pair_row, bound_by, pair_before, AreSoundTo}
use Rattle.verify_core.specs.Bounds.{lower_in}
use Rattle.verify_core.proofs.Truths.{sound_true}
use Rattle.verify_core.proofs.Formulas.{input_triangulated}

pub skip : {X : Type 0} (xs : List X) (r : ℕ) (x : X) → slice_get xs r ≡ Some x → drop r xs ≡ x ∷ drop (r + 1) xs
skip [] zero x h = absurd (cc)
skip [] (suc r) x h = absurd (cc)
skip (y ∷ ys) zero x h = let e : y ≡ x = cc in ap (λ z. z ∷ ys) e
skip (y ∷ ys) (suc r) x h = let e : suc (r + 1) ≡ suc r + 1 = omega arith in subst (λ n. drop (suc r) (y ∷ ys) ≡ x ∷ drop n (y ∷ ys)) e (skip ys r x h)

pub skip_all : {X : Type 0} (xs : List X) (r : ℕ) → length xs ≤ r → drop r xs ≡ []
skip_all [] zero l = refl
skip_all [] (suc r) l = refl
skip_all (y ∷ ys) zero l = absurd (omega (arith, l))
skip_all (y ∷ ys) (suc r) l = skip_all ys r (omega (arith, l))

pub assigns : (count : ℕ) (perm : List ℕ) → length perm ≡ count → ((q : ℕ) → q < length perm → ¬ IsWrongPlace count perm q) → IsAssignment count perm
assigns count perm long right = record {
  long = long;
  below = λ k d l. small (get_or perm k d) (λ h. right k l (get_or perm k d, slice_get-get_or perm k d l, inl h));
  distinct = λ i j d l m e. right j m (get_or perm j d, slice_get-get_or perm j d m, inr (subst (Contains (take j perm)) e (contains_take j perm i d (omega (arith, m)) l)));
}
  where
    small : (x : ℕ) → ¬ (count ≤ x) → x < count
    small x n = elim (cases_lt x count) [ inl l ↦ l | inr g ↦ absurd (n g) ]

pub right_more : (count : ℕ) (perm : List ℕ) (p x : ℕ) → slice_get perm p ≡ Some x → ((q : ℕ) → q < p → ¬ IsWrongPlace count perm q) → x < count → ¬ Contains (take p perm) x → (q : ℕ) → q < p + 1 → ¬ IsWrongPlace count perm q
right_more count perm p x there so_far small fresh q l (y, found, wrong) = by_place (places q l)
  where
    places : (q : ℕ) → q < p + 1 → (q < p) ⊎ (q ≡ p)
    places q l = grind arith

    some_same : (a b : ℕ) → Some a ≡ Some b → a ≡ b
    some_same a b e = cc

    by_place : (q < p) ⊎ (q ≡ p) → ⊥
    by_place (inl m) = so_far q m (y, found, wrong)
    by_place (inr e) =
        let same : x ≡ y = some_same x y (sym there ∙ (ap (slice_get perm) (sym e) ∙ found)) in
        elim wrong [ inl h ↦ omega (arith, h, small, same) | inr h ↦ fresh (subst (λ k. Contains (take k perm) x) e (subst (Contains (take q perm)) (sym same) h)) ]

-- ---- looking for a row
abbrev lower_at : Option (PairRow (Evidence × End)) → ℕ
lower_at o = elim o as (λ _. ℕ) [ Some row ↦ row.lower | None ↦ 0 ]

module _ (low high : ℕ) where
  abbrev looked : List Row → Option (PairRow (Evidence × End))
  looked rows = row_of (map pair_row rows) low high

  pub look_found : (rows : List Row) (r : ℕ) (x : Row) → slice_get rows r ≡ Some x → looked rows ≡ looked (drop r rows) → (eqb x.i low && eqb x.j high) ≡ true → x.lower ≡ lower_in rows low high
  look_found rows r x there so_far test =
      sym (ap lower_at (so_far ∙ (ap looked (skip rows r x there) ∙ ap (λ b. cond b (Some (pair_row x)) (looked (drop (r + 1) rows))) test)))

  pub look_more : (rows : List Row) (r : ℕ) (x : Row) → slice_get rows r ≡ Some x → looked rows ≡ looked (drop r rows) → (eqb x.i low && eqb x.j high) ≡ false → looked rows ≡ looked (drop (r + 1) rows)
  look_more rows r x there so_far test = so_far ∙ (ap looked (skip rows r x there) ∙ ap (λ b. cond b (Some (pair_row x)) (looked (drop (r + 1) rows))) test)

  pub look_none : (rows : List Row) (r : ℕ) → length rows ≤ r → looked rows ≡ looked (drop r rows) → 0 ≡ lower_in rows low high
  look_none rows r l so_far = sym (ap lower_at (so_far ∙ ap looked (skip_all rows r l)))

  found_row : (rows : List Row) (k : ℕ) → k < lower_in rows low high → (q : ℕ) × (x : Row) × (slice_get rows q ≡ Some x) × (x.i ≡ low) × (x.j ≡ high) × (k < x.lower)
  found_row [] k l = absurd (omega (arith, l))
  found_row (x ∷ rows) k l = by_test (eqb x.i low && eqb x.j high) refl (λ m. found_row rows k m)
    where
      by_test : (b : Bool) → (eqb x.i low && eqb x.j high) ≡ b → (k < lower_in rows low high → (q : ℕ) × (y : Row) × (slice_get rows q ≡ Some y) × (y.i ≡ low) × (y.j ≡ high) × (k < y.lower))
          → (q : ℕ) × (y : Row) × (slice_get (x ∷ rows) q ≡ Some y) × (y.i ≡ low) × (y.j ≡ high) × (k < y.lower)
      by_test true e again =
          let p = (Decides-and (eqb x.i low) (eqb x.j high) (λ k. k, λ k. k) (λ k. k, λ k. k)).0 e in
          (0, x, refl, eqb-true x.i low p.0, eqb-true x.j high p.1, subst (λ b. k < lower_at (cond b (Some (pair_row x)) (looked rows))) e l)
      by_test false e again =
          let (q, y, there, a, b, m) = again (subst (λ b. k < lower_at (cond b (Some (pair_row x)) (looked rows))) e l) in
          (suc q, y, there, a, b, m)

-- ---- the bound of sound rows is above no plan's total
module _ (version : ℕ) (points : List Point) (inputs : List (List Edge)) (frame : HeldFrame) (problem : IsProblem points inputs) (held : IsHeldFrame points frame) (rows : List Row) (sound : AreSoundTo version points inputs frame rows (length rows)) where
  apart : (low high k : ℕ) → k < lower_in rows low high → ¬ Within points (input_at inputs low) (input_at inputs high) k
  apart low high k l within =
      let (q, x, there, a, b, m) = found_row low high rows k l in
      sound_true version points inputs frame (pair_before rows q) x problem held (sound q x (slice_get_within rows q x there) there) k m
      (subst (λ i. Within points (input_at inputs i) (input_at inputs x.j) k) (sym a) (subst (λ j. Within points (input_at inputs low) (input_at inputs j) k) (sym b) within))

  lower_bounds : AreLowerBounds points inputs (lower_of (map pair_row rows))
  lower_bounds i j k hi hj l within = by_order (ordered i j)
    where
      ordered : (i j : ℕ) → ((min i j ≡ i) × (max i j ≡ j)) ⊎ ((min i j ≡ j) × (max i j ≡ i))
      ordered i j = by_le (nat_cases i j)
        where
          nat_cases : (i j : ℕ) → (i ≤ j) ⊎ (j ≤ i)
          nat_cases i j = grind arith

          by_le : (i ≤ j) ⊎ (j ≤ i) → ((min i j ≡ i) × (max i j ≡ j)) ⊎ ((min i j ≡ j) × (max i j ≡ i))
          by_le (inl h) = inl (omega arith, omega arith)
          by_le (inr h) = inr (omega arith, omega arith)

      by_order : ((min i j ≡ i) × (max i j ≡ j)) ⊎ ((min i j ≡ j) × (max i j ≡ i)) → ⊥
      by_order (inl (p, q)) = apart i j k (subst (λ n. k < n) (ap₂ (lower_in rows) p q) l) within
      by_order (inr (p, q)) =
          apart j i k (subst (λ n. k < n) (ap₂ (lower_in rows) p q) l) (within_is_symmetric points (input_at inputs i) (input_at inputs j) k problem.placed (input_triangulated points inputs i problem hi) within)

  pub bound_is_least : (weights : List ℕ) → AreWeights inputs weights → (perm : List ℕ) → IsAssignment (sum weights) perm → (centre : List Edge) (schedules : List (List (List Edge))) → IsPlan points inputs centre schedules
      → bound_by weights rows perm ≤ total weights schedules
  bound_is_least weights weighed perm assignment centre schedules plan =
      assignments_bound_plans points inputs weights centre schedules (lower_of (map pair_row rows)) perm problem.placed (λ k d l. problem.triangulated (get_or inputs k d) (Contains-get_or inputs k d l)) weighed plan lower_bounds assignment
