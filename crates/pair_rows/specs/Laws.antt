-- The laws of rows. They are the contract of a function of the crate, so they are proved.
use Rattle.std.specs.Prelude.{◌↔◌, ℕ, ◌≤◌, List}
use Rattle.geo_orient.specs.declared.Point.{Point}
use Rattle.edge_table.specs.declared.edge.Edge.{Edge}
use Rattle.tri_theory.specs.Points.{ArePlaced}
use Rattle.tri_theory.specs.Triangulations.{IsTriangulation}
use Rattle.tri_check.specs.Problems.{IsProblem}
use Rattle.log_law.specs.Clauses.{Formula}
use Rattle.flip_cnf.specs.HeldFrames.{HeldFrame, IsHeldFrame}
use Rattle.pair_rows.specs.declared.row.Row.{Row}
use Rattle.pair_rows.specs.Versions.{FormulaKind, IsFormulaOf}
use Rattle.pair_rows.specs.Rows.{IsJustified, IsEarned, IsTrue, MetIsExact}

-- a row that is justified with formulas of either kind is true, and exact where its end is met
abbrev pub JustifiedRowsAreTrue : Type 0
JustifiedRowsAreTrue =
    (kind : FormulaKind) (points : List Point) (inputs : List (List Edge)) (frame : HeldFrame) (row : Row) → IsProblem points inputs → IsHeldFrame points frame → IsJustified kind points inputs frame row
    → IsTrue points inputs row × MetIsExact points inputs row

-- a row that is justified or earned with one frame of the points is so with each
abbrev pub FramesDontMatter : Type 0
FramesDontMatter =
    (kind : FormulaKind) (points : List Point) (inputs : List (List Edge)) (frame other : HeldFrame) (row : Row) → IsHeldFrame points frame → IsHeldFrame points other
    → (IsJustified kind points inputs frame row ↔ IsJustified kind points inputs other row) × ((budget : ℕ) → IsEarned kind points inputs frame budget row ↔ IsEarned kind points inputs other budget row)

-- a formula of more rounds can't be built
abbrev pub FormulasHaveFewRounds : Type 0
FormulasHaveFewRounds =
    (kind : FormulaKind) (points : List Point) (frame : HeldFrame) (A B : List Edge) (k : ℕ) (built : Formula) → ArePlaced points → IsTriangulation points A → IsTriangulation points B → IsHeldFrame points frame
    → IsFormulaOf kind points frame A B k built → k ≤ 200_000
