use Rattle.sweep_law.specs.Boundaries.{IsSeenFrom}
use Rattle.gen_instance.specs.Sides.{side_of}
use Rattle.gen_instance.proofs.boundary.first_seen.Given as goal

-- the point sees the chain from the place on
abbrev pub invariant-loop-place : goal.invariant-loop-place
invariant-loop-place l = IsSeenFrom (side_of l.side) l.points l.chain l.p l.place

abbrev pub decreases-loop-place : goal.decreases-loop-place
decreases-loop-place l = l.place
