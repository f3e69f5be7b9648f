use Rattle.tri_theory.specs.Points.{IsLeft}
use Rattle.tri_theory.specs.Triangulations.{IsEmptyTriangle}
use Rattle.cross_bound.proofs.Starts.{wedge_left}
use Rattle.cross_bound.proofs.start.turn_left.Given as goal

-- the triangle at hand, whose near side has the high end on its left
abbrev pub invariant-loop-right : goal.invariant-loop-right
invariant-loop-right l = record {
  corner : IsEmptyTriangle l.mesh.points l.mesh.edges l.e.0 l.right l.left;
  beyond : IsLeft l.mesh.points l.e.0 l.right l.e.1;
}

abbrev pub decreases-loop-right : goal.decreases-loop-right
decreases-loop-right l = wedge_left l.mesh.points l.e.0 l.e.1 l.right
