-- Formulas to which clauses are added group by group, and what is read of the lists of a frame.
use Rattle.std.specs.Prelude.{ℕ, ◌+◌, ◌≤◌, List, [], ◌∷◌, ◌++◌, length, slice_index_or, All}
use Rattle.geo_orient.specs.declared.Point.{Point}
use Rattle.tri_theory.specs.Points.{ArePlaced}
use Rattle.edge_table.specs.declared.edge.Edge.{Edge}
use Rattle.edge_table.specs.Edges.{edge}
use Rattle.log_law.specs.declared.Lit.{Lit}
use Rattle.log_law.specs.Clauses.{Clause, Formula, IsClause}
use Rattle.formula_law.specs.Frames.{Pair, Frame, IsFrame}
use Rattle.formula_parts.specs.Lists.{no_edge}

-- the frame is that of some points
pub record IsFrameOfSome (F : Frame) : Type 0 where
  pub points : List Point
  pub placed : ArePlaced points
  pub frame : IsFrame points F

-- the formula with more clauses at its end
abbrev pub adding : Formula → List Clause → Formula
adding made clauses = record { variables = made.variables; clauses = made.clauses ++ clauses }

-- these clauses may be added
pub record Takes (made : Formula) (clauses : List Clause) : Type 0 where
  pub fit : All (IsClause made.variables) clauses
  pub room : length made.clauses + length clauses ≤ 2_000_000_000

-- what stands for a pair that a list doesn't have
abbrev pub no_pair : Pair
no_pair = (no_edge, no_edge)

abbrev pub pair_at : List Pair → ℕ → Pair
pair_at pairs n = slice_index_or pairs n no_pair

-- the edges from each end of e to each end of f
abbrev pub four : Edge → Edge → List Edge
four e f = edge e.0 f.0 ∷ edge e.0 f.1 ∷ edge e.1 f.0 ∷ edge e.1 f.1 ∷ []

-- a flip isn't made, or what it demands holds
abbrev pub asks : Lit → Lit → Clause
asks unmade demand = unmade ∷ demand ∷ []
