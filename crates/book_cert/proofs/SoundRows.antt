-- Rows that are justified and in the order of their pairs are sound.
use Rattle.std.proofs.Common.{◌≡◌, ◌∙◌, ◌⊎◌, inl, inr, ℕ, zero, suc, ◌+◌, ◌-◌, ◌<◌, Bool, true, false, cond, Option, Some, None, List, [], ◌∷◌, length, map, flat_map, get_or, slice_get, Contains, refl, sym, ap, subst, arith}
use Rattle.std.specs.Prelude.{AllPairs, option_map, nat_eq}
use Rattle.std.specs.List.{range_with_len}
use Rattle.std.proofs.lemmas.List.{length-map}
use Rattle.std.proofs.lemmas.List.Elements.{Contains-append_cases}
use Rattle.std.proofs.lemmas.Option.{slice_get_within}
use Rattle.geo_orient.specs.declared.Point.{Point}
use Rattle.edge_table.specs.declared.edge.Edge.{Edge}
use Rattle.edge_table.specs.Edges.{IsBefore}
use Rattle.bound_law.specs.Bounds.{input_at}
use Rattle.tri_theory.specs.Crossings.{crossings}
use Rattle.formula_law.proofs.Clauses.{in_flat_map, in_range}
use Rattle.formula_law.proofs.OrderedLists.{pairs_none, pairs_append, range_ascends}
use Rattle.log_law.proofs.Lists.{map_from, pairs_map}
use Rattle.cross_bound.specs.declared.best.Side.{Side}
use Rattle.cross_bound.specs.declared.best.Side.TheVariants.{First, Second}
use Rattle.cross_bound.specs.Bounds.{edges_of_both, crossed_by_other}
use Rattle.flip_cnf.specs.HeldFrames.{HeldFrame, Listed, Many}
use Rattle.flip_cnf.specs.declared.fault.BuildFault.TheVariants as build
use Rattle.pair_rows.specs.declared.row.Evidence.{Evidence}
use Rattle.pair_rows.specs.declared.row.Evidence.TheVariants.{Nothing, Crosses, Refuted}
use Rattle.pair_rows.specs.declared.row.End.{End}
use Rattle.pair_rows.specs.declared.row.End.TheVariants.{Met, Spent, TooLarge, ManyPoints}
use Rattle.pair_rows.specs.declared.row.Row as row
use Rattle.pair_rows.specs.Versions.{FormulaKind, Whole, Pruned, formula_kind, clauses_of, IsFormulaFault}
use Rattle.pair_rows.specs.Rows.{IsEvidence, IsEnd, IsJustified}
use Rattle.plan_law.specs.Jobs.{pairs}
use Rattle.verify_core.specs.RowFaults.{lower_by, IsAfter, named, IsSound, IsSoundEnd, IsSoundRow}
use Rattle.verify_core.specs.Faults.{pair_before}
use Rattle.book_cert.proofs.ByPair.{with_first, row_from, in_row}

-- ---- pairs ascend
row_ascends : (m i : ℕ) → AllPairs IsBefore (row_from m i)
row_ascends m i = pairs_map IsBefore (with_first i) (range_with_len (i + 1) (m - (i + 1))) (λ k l d h j. inr (refl, range_ascends (i + 1) (m - (i + 1)) k l d h j))

rows_ascend : (m i n : ℕ) → AllPairs IsBefore (flat_map (row_from m) (range_with_len i n))
rows_ascend m i zero = pairs_none IsBefore
rows_ascend m i (suc n) = pairs_append IsBefore (row_from m i) (flat_map (row_from m) (range_with_len (i + 1) n)) (row_ascends m i) (rows_ascend m (i + 1) n) across
  where
    across : (p q : ℕ × ℕ) → Contains (row_from m i) p → Contains (flat_map (row_from m) (range_with_len (i + 1) n)) q → IsBefore p q
    across p q h k = by_first (in_flat_map (row_from m) (range_with_len (i + 1) n) q k)
      where
        by_first : (t : ℕ) × Contains (range_with_len (i + 1) n) t × Contains (row_from m t) q → IsBefore p q
        by_first (t, c, d) =
            let r = in_range (i + 1) n t c in
            let a = in_row m i p h in
            let b = in_row m t q d in
            inl (omega (arith, r.0, a.0, b.0))

pub pairs_ascend : (m : ℕ) → AllPairs IsBefore (pairs m)
pairs_ascend m = rows_ascend m 0 m

-- ---- each row comes after the one before
at_place : (rows : List row.Row) (k : ℕ) (r : row.Row) (d : ℕ × ℕ) → slice_get rows k ≡ Some r → get_or (map (λ (r : row.Row). (r.i, r.j)) rows) k d ≡ (r.i, r.j)
at_place [] k r d e = absurd (cc)
at_place (x ∷ rows) zero r d e = let s : x ≡ r = cc in ap (λ (r : row.Row). with_first r.i r.j) s
at_place (x ∷ rows) (suc k) r d e = at_place rows k r d e

module _ (rows : List row.Row) (up : AllPairs IsBefore (map (λ (r : row.Row). (r.i, r.j)) rows)) where
  pub comes_after : (q : ℕ) (r : row.Row) → slice_get rows q ≡ Some r → IsAfter (pair_before rows q) (r.i, r.j)
  comes_after q r e = by_test (nat_eq q 0) (slice_get rows (q - 1)) refl refl
    where
      positive : (n : ℕ) → nat_eq n 0 ≡ false → 0 < n
      positive zero t = absurd (cc)
      positive (suc n) t = omega arith

      by_test : (b : Bool) (o : Option row.Row) → nat_eq q 0 ≡ b → slice_get rows (q - 1) ≡ o → IsAfter (cond b None (option_map (λ (r : row.Row). (r.i, r.j)) o)) (r.i, r.j)
      by_test true o t s = tt
      by_test false None t s = tt
      by_test false (Some x) t s =
          let first = positive q t in
          let last = slice_get_within rows q r e in
          let before : IsBefore (get_or (map (λ (r : row.Row). (r.i, r.j)) rows) (q - 1) (0, 0)) (get_or (map (λ (r : row.Row). (r.i, r.j)) rows) q (0, 0)) = up (q - 1) q (0, 0) (omega (arith, first)) (omega (arith, last, length-map rows (λ (r : row.Row). with_first r.i r.j))) in
          subst (IsBefore (x.i, x.j)) (at_place rows q r (0, 0) e) (subst (λ (p : ℕ × ℕ). IsBefore p (get_or (map (λ (r : row.Row). (r.i, r.j)) rows) q (0, 0))) (at_place rows (q - 1) x (0, 0) s) before)

-- ---- what is justified is sound
abbrev of_side : Side → Edge → Side × Edge
of_side from e = (from, e)

named_of_both : (A B : List Edge) (from : Side) (e : Edge) → Contains {X = Side × Edge} (edges_of_both A B) (from, e) → Contains (named from A B) e
named_of_both A B from e h = by_part (Contains-append_cases {X = Side × Edge} (map (λ f. (First, f)) A) (map (λ f. (Second, f)) B) (from, e) h)
  where
    by_part : Contains {X = Side × Edge} (map (λ f. (First, f)) A) (from, e) ⊎ Contains {X = Side × Edge} (map (λ f. (Second, f)) B) (from, e) → Contains (named from A B) e
    by_part (inl k) = first (map_from {B = Side × Edge} (λ f. (First, f)) A (from, e) k)
      where
        first : (x : Edge) × Contains A x × (of_side First x ≡ of_side from e) → Contains (named from A B) e
        first (x, c, i) = subst (λ (p : Side × Edge). Contains (named p.0 A B) p.1) i c
    by_part (inr k) = second (map_from {B = Side × Edge} (λ f. (Second, f)) B (from, e) k)
      where
        second : (x : Edge) × Contains B x × (of_side Second x ≡ of_side from e) → Contains (named from A B) e
        second (x, c, i) = subst (λ (p : Side × Edge). Contains (named p.0 A B) p.1) i c

module _ (points : List Point) (A B : List Edge) where
  count_of_other : (from : Side) (e : Edge) → crossed_by_other points A B (from, e) ≡ crossings points (named from B A) e
  count_of_other First e = refl
  count_of_other Second e = refl

  module _ (k : ℕ) where
    is_large : (kind : FormulaKind) (frame : HeldFrame) (clauses : ℕ) → IsFormulaFault kind points frame A B k (build.TooLarge clauses) → (clauses_of kind points frame A B k ≡ Some clauses) × (400_000 < clauses)
    is_large Whole (Listed F) clauses (large, is) = (ap Some (sym is), large)
    is_large Whole (Many n) clauses h = absurd h
    is_large Pruned (Listed F) clauses (large, is) = (ap Some (sym is), large)
    is_large Pruned (Many n) clauses h = absurd h

    are_many : (kind : FormulaKind) (frame : HeldFrame) (n : ℕ) → IsFormulaFault kind points frame A B k (build.ManyPoints n) → (n ≡ length points) × (64 < n)
    are_many Whole (Listed F) n h = absurd h
    are_many Whole (Many m) n (many, is) = (is, many)
    are_many Pruned (Listed F) n h = absurd h
    are_many Pruned (Many m) n (many, is) = (is, many)

module _ (version : ℕ) (points : List Point) (frame : HeldFrame) (A B : List Edge) where
  evidence_sound : (lower : ℕ) (evidence : Evidence) → IsEvidence (formula_kind version) points frame A B lower evidence → IsSound version points frame A B evidence × (lower ≡ lower_by evidence)
  evidence_sound lower Nothing h = (tt, h)
  evidence_sound lower (Crosses from edge count) (there, is, long) = ((named_of_both A B from edge there, is ∙ count_of_other points A B from edge), long)
  evidence_sound lower (Refuted k log) (is, of) = (of, is)

  end_sound : (lower : ℕ) (end : End) → IsEnd (formula_kind version) points frame A B lower end → IsSoundEnd version points frame A B lower end
  end_sound lower (Met rounds) h = (record { distinct = h.distinct; leads = h.schedule }, h.count)
  end_sound lower (Spent k log) h = h
  end_sound lower (TooLarge k clauses) (same, fault) = let l = is_large points A B k (formula_kind version) frame clauses fault in (same, l.0, l.1)
  end_sound lower (ManyPoints n) fault = are_many points A B lower (formula_kind version) frame n fault

pub justified_sound : (version : ℕ) (points : List Point) (inputs : List (List Edge)) (frame : HeldFrame) (before : Option Edge) (r : row.Row) → IsAfter before (r.i, r.j) → IsJustified (formula_kind version) points inputs frame r → IsSoundRow version points inputs frame before r
justified_sound version points inputs frame before r after J =
    let e = evidence_sound version points frame (input_at inputs r.i) (input_at inputs r.j) r.lower r.evidence J.evidence in record {
      pair = (J.ordered, J.within, after);
      evidence = e.0;
      lower = e.1;
      end = end_sound version points frame (input_at inputs r.i) (input_at inputs r.j) r.lower r.end J.end;
    }
