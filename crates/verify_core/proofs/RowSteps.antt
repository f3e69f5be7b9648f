-- The steps of trying a row, and of trying all rows.
use Rattle.std.proofs.Common.{◌≡◌, ◌∙◌, ◌⊎◌, inl, inr, refl, sym, subst, ℕ, ◌+◌, ◌<◌, ◌≤◌, List, Option, Some, Result, Ok, Err, slice_get, arith}
use Rattle.std.specs.Prelude.{IfErr}
use Rattle.geo_orient.specs.declared.Point.{Point}
use Rattle.edge_table.specs.declared.edge.Edge.{Edge}
use Rattle.tri_check.specs.Problems.{IsProblem}
use Rattle.bound_law.specs.Bounds.{input_at}
use Rattle.flip_cnf.specs.HeldFrames.{HeldFrame, IsHeldFrame}
use Rattle.pair_rows.specs.declared.row.Row.{Row}
use Rattle.verify_core.specs.declared.fault.RowWhy.{RowWhy}
use Rattle.verify_core.specs.declared.fault.RowFault.{RowFault}
use Rattle.verify_core.specs.declared.fault.RowFault.TheVariants.{Why, OutOfMemory}
use Rattle.verify_core.specs.RowFaults.{OnWhy, lower_by, IsPair, IsSound, IsLowerFault, IsEndFault, IsSoundRow, IsFirstWhy}
use Rattle.verify_core.specs.Faults.{pair_before, AreSoundTo, IsFirstRowFault}
use Rattle.pair_rows.specs.Versions.{formula_kind}
use Rattle.pair_rows.proofs.Formulas.{few_rounds}
use Rattle.verify_core.proofs.Formulas.{input_triangulated}
use Rattle.verify_core.proofs.RowParts.{pair_clear, evidence_clear, lower_clear, lower_low}

module _ (version : ℕ) (points : List Point) (inputs : List (List Edge)) (frame : HeldFrame) (before : Option Edge) (row : Row) where
  pub low_bound : IsHeldFrame points frame → IsProblem points inputs → IsPair inputs before (row.i, row.j)
      → IsSound version points frame (input_at inputs row.i) (input_at inputs row.j) row.evidence → lower_by row.evidence ≤ 200_001
  low_bound held problem (order, within, after) is =
      lower_low version points frame (input_at inputs row.i) (input_at inputs row.j)
      (input_triangulated points inputs row.i problem (omega (arith, order, within))) (input_triangulated points inputs row.j problem within) problem.few_points
      (λ built k f. few_rounds (formula_kind version) points frame (input_at inputs row.i) (input_at inputs row.j) k built problem.placed (input_triangulated points inputs row.i problem (omega (arith, order, within))) (input_triangulated points inputs row.j problem within) held f) row.evidence is

  pub why_lower : IsPair inputs before (row.i, row.j) → IsSound version points frame (input_at inputs row.i) (input_at inputs row.j) row.evidence → (fault : RowFault) → OnWhy (IsLowerFault row.lower row.evidence) fault
      → OnWhy (IsFirstWhy version points inputs frame before row) fault
  why_lower p s (Why why) h = inr (pair_clear inputs before (row.i, row.j) p, inr (evidence_clear version points frame (input_at inputs row.i) (input_at inputs row.j) row.evidence s, inl h))
  why_lower p s OutOfMemory h = tt

  why_end : IsPair inputs before (row.i, row.j) → IsSound version points frame (input_at inputs row.i) (input_at inputs row.j) row.evidence → row.lower ≡ lower_by row.evidence → (fault : RowFault)
      → OnWhy (IsEndFault version points frame (input_at inputs row.i) (input_at inputs row.j) row.lower row.end) fault → OnWhy (IsFirstWhy version points inputs frame before row) fault
  why_end p s l (Why why) h =
      inr (pair_clear inputs before (row.i, row.j) p, inr (evidence_clear version points frame (input_at inputs row.i) (input_at inputs row.j) row.evidence s, inr (lower_clear row.lower row.evidence l, h)))
  why_end p s l OutOfMemory h = tt

  pub end_answer : IsPair inputs before (row.i, row.j) → IsSound version points frame (input_at inputs row.i) (input_at inputs row.j) row.evidence → row.lower ≡ lower_by row.evidence → (result : Result (Unit {0}) RowFault)
      → IfErr result (OnWhy (IsEndFault version points frame (input_at inputs row.i) (input_at inputs row.j) row.lower row.end)) → IfErr result (OnWhy (IsFirstWhy version points inputs frame before row))
  end_answer p s l (Ok done) h = tt
  end_answer p s l (Err fault) h = why_end p s l fault h

module _ (version : ℕ) (points : List Point) (inputs : List (List Edge)) (frame : HeldFrame) (rows : List Row) (r : ℕ) (row : Row) (before : Option Edge) where
  pub sound_more : slice_get rows r ≡ Some row → before ≡ pair_before rows r → AreSoundTo version points inputs frame rows r → IsSoundRow version points inputs frame before row → AreSoundTo version points inputs frame rows (r + 1)
  sound_more there same so_far here q other l found = by_place (places q l)
    where
      places : (q : ℕ) → q < r + 1 → (q < r) ⊎ (r ≡ q)
      places q l = grind arith

      some_same : (x y : Row) → Some x ≡ Some y → x ≡ y
      some_same x y e = cc

      by_place : (q < r) ⊎ (r ≡ q) → IsSoundRow version points inputs frame (pair_before rows q) other
      by_place (inl m) = so_far q other m found
      by_place (inr e) =
          subst (λ k. IsSoundRow version points inputs frame (pair_before rows k) other) e
          (subst (λ b. IsSoundRow version points inputs frame b other) same (subst (IsSoundRow version points inputs frame before) (some_same row other (sym there ∙ (subst (λ k. slice_get rows k ≡ Some other) (sym e) found))) here))

  pub first_row : (why : RowWhy) → slice_get rows r ≡ Some row → before ≡ pair_before rows r → AreSoundTo version points inputs frame rows r → IsFirstWhy version points inputs frame before row why → IsFirstRowFault version points inputs frame rows row.i row.j why
  first_row why there same so_far here = record { place = r; row = row; there = there; first_input = refl; second_input = refl; before = so_far; first_why = subst (λ b. IsFirstWhy version points inputs frame b row why) same here }
