-- The corners at an edge that flips.
use Rattle.std.proofs.Common.{◌≡◌, ℕ, List}
use Rattle.geo_orient.specs.declared.Point.{Point}
use Rattle.edge_table.specs.declared.edge.Edge.{Edge}
use Rattle.tri_theory.specs.Points.{ArePlaced}
use Rattle.tri_theory.specs.Triangulations.{AreJoined, IsEmptyTriangle, IsTriangulation}
use Rattle.tri_theory.proofs.Net.{Net}
use Rattle.tri_theory.proofs.Flip.{one_apex, turn_tri}
use Rattle.tri_theory.proofs.Lists.{plane, net_of, tri_to, tri_from}
use Rattle.flip_mesh.specs.declared.mesh.Quad.{Quad}
use Rattle.flip_mesh.specs.Answers.{IsQuadAt}
use Rattle.replay.specs.Steps.{AreCornersApart}

module _ (points : List Point) (P : ArePlaced points) (T : List Edge) (I : IsTriangulation points T) where
  N : Net (plane points P) (AreJoined T)
  N = net_of points P T I

  pub turn_triangle : (a b c : ℕ) → IsEmptyTriangle points T a b c → IsEmptyTriangle points T b c a
  turn_triangle a b c t = tri_from points P T b c a (turn_tri (plane points P) (AreJoined T) (tri_to points P T a b c t))

  pub same_apex : (a b c d : ℕ) → IsEmptyTriangle points T a b c → IsEmptyTriangle points T a b d → c ≡ d
  same_apex a b c d t u = one_apex (plane points P) (AreJoined T) N a b c d (tri_to points P T a b c t) (tri_to points P T a b d u)

  -- no side of a quadrilateral joins a point to itself
  pub corners_apart : (e : Edge) (q : Quad) → IsQuadAt points T e q → AreCornersApart q
  corners_apart e q h = record {
    ab = N.apart h.corners.right.ab;
    bc = N.apart h.corners.right.bc;
    cd = N.apart h.corners.left.bc;
    da = N.apart h.corners.left.ca;
  }
