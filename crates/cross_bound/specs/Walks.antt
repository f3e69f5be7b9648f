-- The members that a segment crosses, from its low end to its high one.
use Rattle.std.specs.Prelude.{◌≡◌, ◌⊎◌, List, Contains}
use Rattle.geo_orient.specs.declared.Point.{Point}
use Rattle.edge_table.specs.declared.edge.Edge.{Edge}
use Rattle.tri_theory.specs.Points.{IsLeft}
use Rattle.tri_theory.specs.Triangulations.{AreJoined, IsEmptyTriangle, IsSegment}
use Rattle.cross_bound.specs.declared.walk.Way.{Way}

-- e is a segment that isn't a member
pub record IsNonMember (points : List Point) (edges : List Edge) (e : Edge) : Type 0 where
  pub segment : IsSegment points e
  pub outside : ¬ Contains edges e

-- e crosses the member of the way, whose left end is left of e
pub record IsCrossed (points : List Point) (edges : List Edge) (e : Edge) (way : Way) : Type 0 where
  pub joined : AreJoined edges way.left way.right
  pub on_left : IsLeft points e.0 e.1 way.left
  pub on_right : IsLeft points e.1 e.0 way.right
  pub before : IsLeft points way.left way.right e.1
  pub behind : IsLeft points way.right way.left e.0

-- it is the side of the triangle in which e begins
pub record IsFirst (points : List Point) (edges : List Edge) (e : Edge) (way : Way) : Type 0 where
  pub crossed : IsCrossed points edges e way
  pub corner : IsEmptyTriangle points edges way.right way.left e.0

-- next is crossed too, and is a side of the triangle behind the way
pub record IsNext (points : List Point) (edges : List Edge) (e : Edge) (way next : Way) : Type 0 where
  pub crossed : IsCrossed points edges e next
  pub shares : ((next.right ≡ way.right) × IsEmptyTriangle points edges next.right next.left way.left) ⊎ ((next.left ≡ way.left) × IsEmptyTriangle points edges next.right next.left way.right)
