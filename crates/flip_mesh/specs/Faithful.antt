-- When the sides of a mesh are those of a triangulation.
use Rattle.std.specs.Prelude.{ℕ, ◌<◌, List, length, None, Some, Contains}
use Rattle.geo_orient.specs.declared.Point.{Point}
use Rattle.tri_theory.specs.Points.{IsLeft}
use Rattle.tri_theory.specs.Triangulations.{IsEmptyTriangle}
use Rattle.tri_check.specs.Layouts.{IsTriangulated}
use Rattle.side_table.specs.declared.side.Side.{Side}
use Rattle.side_table.specs.Sides.{side, HasSide, IsOrderedSides}
use Rattle.flip_mesh.specs.Sides.{edges_of}

-- the sides are those of the triangles of a triangulation: each joins two points and goes both ways, a third corner is that of an empty triangle, and a side without one has no point on its left
pub record IsFaithful (points : List Point) (sides : List Side) : Type 0 where
  pub triangulated : IsTriangulated points (edges_of sides)
  pub ordered : IsOrderedSides sides
  pub apart : (u : ℕ) → ¬ HasSide sides u u
  pub both : (u v : ℕ) → HasSide sides u v → HasSide sides v u
  pub sound : (u v w : ℕ) → Contains sides (side u v (Some w)) → IsEmptyTriangle points (edges_of sides) u v w
  pub bare : (u v p : ℕ) → Contains sides (side u v None) → p < length points → ¬ IsLeft points u v p
