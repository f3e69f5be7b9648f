-- A justified row is true, and exact where its end is met.
use Rattle.std.proofs.Common.{◌≡◌, ◌≢◌, ◌∙◌, sym, ap, refl, subst, ℕ, ◌<◌, ◌≤◌, List, [], length, arith}
use Rattle.std.specs.Prelude.{All, AllPairs}
use Rattle.std.proofs.lemmas.List.Elements.{Contains-get_or}
use Rattle.geo_orient.specs.declared.Point.{Point}
use Rattle.edge_table.specs.declared.edge.Edge.{Edge}
use Rattle.tri_theory.specs.Triangulations.{IsTriangulation}
use Rattle.tri_theory.specs.Rounds.{IsSchedule, Within}
use Rattle.tri_check.specs.Problems.{IsProblem}
use Rattle.crossing_law.specs.Digits.{digits}
use Rattle.bound_law.specs.Bounds.{input_at}
use Rattle.cross_bound.proofs.Bounds.{keeps_apart}
use Rattle.flip_cnf.specs.HeldFrames.{HeldFrame, IsHeldFrame}
use Rattle.pair_rows.specs.declared.row.Evidence.{Evidence}
use Rattle.pair_rows.specs.declared.row.Evidence.TheVariants.{Nothing, Crosses, Refuted}
use Rattle.pair_rows.specs.declared.row.End.TheVariants.{Met}
use Rattle.pair_rows.specs.declared.row.Row.{Row}
use Rattle.pair_rows.specs.Versions.{FormulaKind, Pruned}
use Rattle.pair_rows.specs.Rows.{AreMet, IsEvidence, IsEnd, IsJustified, IsEarned, IsTrue, MetIsExact}
use Rattle.pair_rows.specs.Tries.{IsClimbed}
use Rattle.pair_rows.proofs.Climbing.{equal_are_no_rounds}
use Rattle.pair_rows.proofs.Formulas.{refuted_apart}
use Rattle.pair_rows.specs.Laws.{JustifiedRowsAreTrue}

input_triangulated : (points : List Point) (inputs : List (List Edge)) (t : ℕ) → IsProblem points inputs → t < length inputs → IsTriangulation points (input_at inputs t)
input_triangulated points inputs t problem lt = problem.triangulated (input_at inputs t) (Contains-get_or inputs t [] lt)

within_more : (points : List Point) (A B : List Edge) (k l : ℕ) → k ≤ l → Within points A B k → Within points A B l
within_more points A B k l le (rounds, few, schedule) = (rounds, omega (arith, few, le), schedule)

module _ (kind : FormulaKind) (points : List Point) (inputs : List (List Edge)) (frame : HeldFrame) (problem : IsProblem points inputs) (held : IsHeldFrame points frame) (A B : List Edge) (N : IsTriangulation points A) (M : IsTriangulation points B) where
  evidence_true : (lower : ℕ) (evidence : Evidence) → IsEvidence kind points frame A B lower evidence → (k : ℕ) → k < lower → ¬ Within points A B k
  evidence_true lower Nothing none k lt = absurd (omega (arith, none, lt))
  evidence_true lower (Crosses from edge count) (there, is, long) k lt =
      (keeps_apart points A B from edge k lower problem.placed N M there (long ∙ ap digits is) lt).0
  evidence_true lower (Refuted l log) (is, (built, built_is, refutes)) k lt =
      λ within. refuted_apart kind points frame A B l built log held problem.placed N M built_is refutes (within_more points A B k l (omega (arith, is, lt)) within)

pub row_true : (kind : FormulaKind) (points : List Point) (inputs : List (List Edge)) (frame : HeldFrame) (row : Row) → IsProblem points inputs → IsHeldFrame points frame → IsJustified kind points inputs frame row → IsTrue points inputs row
row_true kind points inputs frame row problem held justified =
    let low = input_triangulated points inputs row.i problem (let o = justified.ordered in let w = justified.within in omega arith) in
    let high = input_triangulated points inputs row.j problem justified.within in
    evidence_true kind points inputs frame problem held (input_at inputs row.i) (input_at inputs row.j) low high row.lower row.evidence justified.evidence

rounds_within : (points : List Point) (A B : List Edge) (k : ℕ) (rounds : List (List Edge)) → AreMet points A B k rounds → Within points A B k
rounds_within points A B k rounds are = (rounds, (let c = are.count in omega arith), are.schedule)

pub row_exact : (kind : FormulaKind) (points : List Point) (inputs : List (List Edge)) (frame : HeldFrame) (row : Row) → IsProblem points inputs → IsHeldFrame points frame → IsJustified kind points inputs frame row → MetIsExact points inputs row
row_exact kind points inputs frame row problem held justified rounds met =
    let A = input_at inputs row.i in
    let B = input_at inputs row.j in (
      rounds_within points A B row.lower rounds (subst (IsEnd kind points frame A B row.lower) met justified.end),
      row_true kind points inputs frame row problem held justified,
    )

pub justified_rows_are_true : JustifiedRowsAreTrue
justified_rows_are_true kind points inputs frame row problem held justified = (row_true kind points inputs frame row problem held justified, row_exact kind points inputs frame row problem held justified)

-- ---- rows that are earned

pub same_earned : (points : List Point) (inputs : List (List Edge)) (frame : HeldFrame) (budget i j : ℕ) (rounds : List (List Edge)) → i < j → j < length inputs → rounds ≡ [] → input_at inputs i ≡ input_at inputs j
    → IsEarned Pruned points inputs frame budget record { i = i; j = j; lower = 0; evidence = Nothing; end = Met rounds }
same_earned points inputs frame budget i j rounds order within none same = record {
  justified = record {
    ordered = order;
    within = within;
    evidence = refl;
    end = record { count = ap length none; distinct = subst (All (λ round. AllPairs ◌≢◌ round)) (sym none) (λ k d l. absurd (omega (arith, l))); schedule = subst (λ rs. IsSchedule points (input_at inputs i) rs (input_at inputs j)) (sym none) same };
  };
  equal = λ e. (refl, refl, ap Met none);
  other = λ bound is. equal_are_no_rounds points (input_at inputs i) (input_at inputs j) same bound is;
  evidence = tt;
  end = tt;
}

pub climbed_justified : (points : List Point) (inputs : List (List Edge)) (frame : HeldFrame) (budget i j : ℕ) (row : Row) → i < j → j < length inputs → IsClimbed points inputs frame budget i j row → IsJustified Pruned points inputs frame row
climbed_justified points inputs frame budget i j row order within H =
    let e = H.first in let f = H.second in record {
      ordered = omega (arith, e, f, order);
      within = omega (arith, f, within);
      evidence = subst (λ s. IsEvidence Pruned points frame (input_at inputs s) (input_at inputs row.j) row.lower row.evidence) (sym e) (subst (λ t. IsEvidence Pruned points frame (input_at inputs i) (input_at inputs t) row.lower row.evidence) (sym f) H.bound.shown);
      end = subst (λ s. IsEnd Pruned points frame (input_at inputs s) (input_at inputs row.j) row.lower row.end) (sym e) (subst (λ t. IsEnd Pruned points frame (input_at inputs i) (input_at inputs t) row.lower row.end) (sym f) H.end);
    }
