-- What is right has no fault, so the first fault is that of the first part of a row that isn't right.
use Rattle.std.proofs.Common.{◌≡◌, sym, ◌∙◌, subst, ℕ, ◌<◌, ◌≤◌, ◌^◌, List, length, Option, Some, None, arith}
use Rattle.geo_orient.specs.declared.Point.{Point}
use Rattle.edge_table.specs.declared.edge.Edge.{Edge}
use Rattle.tri_theory.specs.Triangulations.{IsTriangulation}
use Rattle.crossing_law.proofs.Counts.{digits_at_most}
use Rattle.crossing_law.proofs.Proved.{crossings_are_few}
use Rattle.cross_bound.specs.declared.best.Side.TheVariants.{First, Second}
use Rattle.log_law.specs.Clauses.{Formula}
use Rattle.log_law.specs.Logs.{Refutes}
use Rattle.log_law.specs.Faults.{log_fault}
use Rattle.log_law.specs.declared.LogFault.{LogFault}
use Rattle.log_law.proofs.Proved.{faultless_logs_refute}
use Rattle.flip_cnf.specs.HeldFrames.{HeldFrame}
use Rattle.pair_rows.specs.declared.row.Evidence.{Evidence}
use Rattle.pair_rows.specs.declared.row.Evidence.TheVariants.{Nothing, Crosses, Refuted}
use Rattle.verify_core.specs.declared.fault.RowWhy.{RowWhy}
use Rattle.verify_core.specs.declared.fault.RowWhy.TheVariants.{BadPair, EdgeNotThere, CountWrong, NoCnf, Log, LowerWrong, MetRound, MetEnd, MetLength, EndK, TooLargeWrong, PointsWrong}
use Rattle.pair_rows.specs.Versions.{formula_kind, IsFormulaOf}
use Rattle.pair_rows.proofs.Formulas.{one_formula}
use Rattle.verify_core.specs.RowFaults.{lower_by, IsPair, IsPairFault, IsSound, IsEvidenceFault, IsLowerFault}

pub pair_clear : (inputs : List (List Edge)) (before : Option Edge) (pair : Edge) → IsPair inputs before pair → (why : RowWhy) → ¬ IsPairFault inputs before pair why
pair_clear inputs before pair is BadPair h = h is
pair_clear inputs before pair is (EdgeNotThere e) h = h
pair_clear inputs before pair is (CountWrong a b) h = h
pair_clear inputs before pair is NoCnf h = h
pair_clear inputs before pair is (Log f) h = h
pair_clear inputs before pair is (LowerWrong a b) h = h
pair_clear inputs before pair is (MetRound f) h = h
pair_clear inputs before pair is (MetEnd e) h = h
pair_clear inputs before pair is (MetLength a b) h = h
pair_clear inputs before pair is (EndK a b) h = h
pair_clear inputs before pair is (TooLargeWrong a b) h = h
pair_clear inputs before pair is (PointsWrong n) h = h

pub lower_clear : (lower : ℕ) (evidence : Evidence) → lower ≡ lower_by evidence → (why : RowWhy) → ¬ IsLowerFault lower evidence why
lower_clear lower evidence is BadPair h = h
lower_clear lower evidence is (EdgeNotThere e) h = h
lower_clear lower evidence is (CountWrong a b) h = h
lower_clear lower evidence is NoCnf h = h
lower_clear lower evidence is (Log f) h = h
lower_clear lower evidence is (LowerWrong a b) h = h.2 (h.0 ∙ (is ∙ sym h.1))
lower_clear lower evidence is (MetRound f) h = h
lower_clear lower evidence is (MetEnd e) h = h
lower_clear lower evidence is (MetLength a b) h = h
lower_clear lower evidence is (EndK a b) h = h
lower_clear lower evidence is (TooLargeWrong a b) h = h
lower_clear lower evidence is (PointsWrong n) h = h

refuting_clear : (f : Formula) (log : List Rattle.log_law.specs.Logs.Line) (fault : LogFault) → Refutes f log → log_fault f log ≡ Some fault → ⊥
refuting_clear f log fault R e = let none = (faultless_logs_refute f log).1 R in absurd (none_some (sym none ∙ e))
  where
    none_some : (let n : Option LogFault = None in n ≡ Some fault) → ⊥
    none_some h = cc

module _ (version : ℕ) (points : List Point) (frame : HeldFrame) (A B : List Edge) where
  pub evidence_clear : (evidence : Evidence) → IsSound version points frame A B evidence → (why : RowWhy) → ¬ IsEvidenceFault version points frame A B evidence why
  evidence_clear Nothing is BadPair h = h
  evidence_clear Nothing is (EdgeNotThere e) h = h
  evidence_clear Nothing is (CountWrong a b) h = h
  evidence_clear Nothing is NoCnf h = h
  evidence_clear Nothing is (Log f) h = h
  evidence_clear Nothing is (LowerWrong a b) h = h
  evidence_clear Nothing is (MetRound f) h = h
  evidence_clear Nothing is (MetEnd e) h = h
  evidence_clear Nothing is (MetLength a b) h = h
  evidence_clear Nothing is (EndK a b) h = h
  evidence_clear Nothing is (TooLargeWrong a b) h = h
  evidence_clear Nothing is (PointsWrong n) h = h
  evidence_clear (Crosses from edge count) is BadPair h = h
  evidence_clear (Crosses from edge count) is (EdgeNotThere e) h = h.1 is.0
  evidence_clear (Crosses from edge count) is (CountWrong a b) h = h.3 (h.1 ∙ (is.1 ∙ sym h.2))
  evidence_clear (Crosses from edge count) is NoCnf h = h
  evidence_clear (Crosses from edge count) is (Log f) h = h
  evidence_clear (Crosses from edge count) is (LowerWrong a b) h = h
  evidence_clear (Crosses from edge count) is (MetRound f) h = h
  evidence_clear (Crosses from edge count) is (MetEnd e) h = h
  evidence_clear (Crosses from edge count) is (MetLength a b) h = h
  evidence_clear (Crosses from edge count) is (EndK a b) h = h
  evidence_clear (Crosses from edge count) is (TooLargeWrong a b) h = h
  evidence_clear (Crosses from edge count) is (PointsWrong n) h = h
  evidence_clear (Refuted k log) is BadPair h = h
  evidence_clear (Refuted k log) is (EdgeNotThere e) h = h
  evidence_clear (Refuted k log) is (CountWrong a b) h = h
  evidence_clear (Refuted k log) is NoCnf h = h is.0 is.1
  evidence_clear (Refuted k log) is (Log f) h = refuting_clear h.0 log f (subst (λ g. Refutes g log) (one_formula (formula_kind version) points frame A B k is.0 h.0 is.1 h.1) is.2) h.2
  evidence_clear (Refuted k log) is (LowerWrong a b) h = h
  evidence_clear (Refuted k log) is (MetRound f) h = h
  evidence_clear (Refuted k log) is (MetEnd e) h = h
  evidence_clear (Refuted k log) is (MetLength a b) h = h
  evidence_clear (Refuted k log) is (EndK a b) h = h
  evidence_clear (Refuted k log) is (TooLargeWrong a b) h = h
  evidence_clear (Refuted k log) is (PointsWrong n) h = h

  -- a lower bound that an evidence gives is low
  pub lower_low : IsTriangulation points A → IsTriangulation points B → length points ≤ 16384 → ((built : Formula) (k : ℕ) → IsFormulaOf (formula_kind version) points frame A B k built → k ≤ 200_000) → (evidence : Evidence) → IsSound version points frame A B evidence → lower_by evidence ≤ 200_001
  lower_low N M few rounds Nothing is = omega arith
  lower_low N M few rounds (Crosses First edge count) is = let d = digits_at_most count 32 (subst (λ n. n < 2 ^ 32) (sym is.1) (crossings_are_few points B edge M few)) in omega (arith, d)
  lower_low N M few rounds (Crosses Second edge count) is = let d = digits_at_most count 32 (subst (λ n. n < 2 ^ 32) (sym is.1) (crossings_are_few points A edge N few)) in omega (arith, d)
  lower_low N M few rounds (Refuted k log) is = let l = rounds is.0 k is.1 in omega (arith, l)
