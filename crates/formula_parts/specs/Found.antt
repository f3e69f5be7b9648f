-- Pairs of numbers that are found in order.
use Rattle.std.specs.Prelude.{◌≢◌, ℕ, ◌+◌, ◌*◌, ◌<◌, ◌≤◌, List, length, Contains}
use Rattle.geo_orient.specs.declared.Point.{Point}
use Rattle.edge_table.specs.declared.edge.Edge.{Edge}
use Rattle.edge_table.specs.Edges.{IsBefore, IsAscending}
use Rattle.tri_theory.specs.Triangulations.{Crosses, IsOutside}
use Rattle.formula_law.specs.Frames.{MayFlip}
use Rattle.formula_parts.specs.Lists.{Link, edge_at}

abbrev pub link : ℕ → ℕ → Link
link a b = (a, b)

-- in order, the pairs before a, b that have the property. At most w begin with one number
pub record AreFound (P : Link → Type 0) (w : ℕ) (found : List Link) (a b : ℕ) : Type 0 where
  pub ascending : IsAscending found
  pub sound : (g : Link) → Contains found g → P g × IsBefore g (link a b)
  pub whole : (g : Link) → P g → IsBefore g (link a b) → Contains found g
  pub few : length found ≤ a * w + b

-- the numbers of two segments that cross, the earlier one first
abbrev pub IsCrossing : List Point → List Edge → Link → Type 0
IsCrossing points segments g = (g.0 < g.1) × (g.1 < length segments) × Crosses points (edge_at segments g.0) (edge_at segments g.1)

-- the numbers of an edge and its image
abbrev pub IsSwap : List Point → List Edge → Link → Type 0
IsSwap points segments g = (g.0 < length segments) × (g.1 < length segments) × MayFlip points (edge_at segments g.0) (edge_at segments g.1)

-- p is a corner, or lies outside the closed quadrilateral
abbrev pub IsClear : List Point → ℕ → ℕ → ℕ → ℕ → ℕ → Type 0
IsClear points a b c d p = p ≢ a → p ≢ b → p ≢ c → p ≢ d → IsOutside points a b c p × IsOutside points a c d p
