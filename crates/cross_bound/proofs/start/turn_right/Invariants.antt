use Rattle.tri_theory.specs.Points.{IsLeft}
use Rattle.tri_theory.specs.Triangulations.{IsEmptyTriangle}
use Rattle.cross_bound.proofs.Starts.{wedge_right}
use Rattle.cross_bound.proofs.start.turn_right.Given as goal

-- the triangle at hand, whose near side has the high end on its right
abbrev pub invariant-loop-left : goal.invariant-loop-left
invariant-loop-left l = record {
  corner : IsEmptyTriangle l.mesh.points l.mesh.edges l.left l.e.0 l.right;
  beyond : IsLeft l.mesh.points l.left l.e.0 l.e.1;
}

abbrev pub decreases-loop-left : goal.decreases-loop-left
decreases-loop-left l = wedge_right l.mesh.points l.e.0 l.e.1 l.left
