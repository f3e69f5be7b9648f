-- Points with the edges of a triangulation of them.
use Rattle.std.specs.Prelude.{ℕ, ◌<◌, ◌≤◌, List, length}
use Rattle.geo_orient.specs.declared.Point.{Point}
use Rattle.geo_orient.specs.Reach.{IsInReach}
use Rattle.edge_table.specs.declared.edge.Edge.{Edge}
use Rattle.tri_theory.specs.Points.{point, ArePlaced}
use Rattle.tri_theory.specs.Triangulations.{IsTriangulation}

-- what is seen of a triangulation: its points and its edges
pub record Layout : Type 0 where
  pub points : List Point
  pub edges : List Edge

-- all points are in reach of the predicates
abbrev pub AreInReach : List Point → Type 0
AreInReach points = (i : ℕ) → i < length points → IsInReach (point points i)

-- the edges are a triangulation of the points, of which there are at most 16,384, which are in reach, distinct and not all on one line
pub record IsTriangulated (points : List Point) (edges : List Edge) : Type 0 where
  pub few : length points ≤ 16384
  pub in_reach : AreInReach points
  pub placed : ArePlaced points
  pub triangulation : IsTriangulation points edges
