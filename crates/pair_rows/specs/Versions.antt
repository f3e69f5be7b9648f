-- The formulas that the versions of certificates speak of.
use Rattle.std.specs.Prelude.{ℕ, Option, List, cond, nat_eq}
use Rattle.geo_orient.specs.declared.Point.{Point}
use Rattle.edge_table.specs.declared.edge.Edge.{Edge}
use Rattle.log_law.specs.Clauses.{Formula}
use Rattle.flip_cnf.specs.HeldFrames.{HeldFrame, size_of, IsBuilt, IsBuildFault, pruned_size_of, IsPrunedBuilt, IsPrunedFault}
use Rattle.flip_cnf.specs.declared.fault.BuildFault.{BuildFault}

-- the formula with variables for all places, or for those alone that a schedule may use
pub data FormulaKind : Type 0 where
  Whole : FormulaKind
  Pruned : FormulaKind

-- version 1 speaks of the whole formula, all others of the pruned one
abbrev pub formula_kind : ℕ → FormulaKind
formula_kind version = cond (nat_eq version 1) Whole Pruned

-- the formula of k rounds from A to B, which can be built: of few points and with at most 400,000 clauses
abbrev pub IsFormulaOf : FormulaKind → List Point → HeldFrame → List Edge → List Edge → ℕ → Formula → Type 0
IsFormulaOf Whole points frame A B k built = IsBuilt frame A B k built
IsFormulaOf Pruned points frame A B k built = IsPrunedBuilt points A B k frame built

-- the number of its clauses, of few points
abbrev pub clauses_of : FormulaKind → List Point → HeldFrame → List Edge → List Edge → ℕ → Option ℕ
clauses_of Whole points frame A B k = size_of frame k
clauses_of Pruned points frame A B k = pruned_size_of points A B k frame

-- why it isn't built
abbrev pub IsFormulaFault : FormulaKind → List Point → HeldFrame → List Edge → List Edge → ℕ → BuildFault → Type 0
IsFormulaFault Whole points frame A B k fault = IsBuildFault points frame k fault
IsFormulaFault Pruned points frame A B k fault = IsPrunedFault points A B k frame fault
