use Rattle.std.proofs.Common.{◌-◌}
use Rattle.tri_theory.specs.Crossings.{crossings}
use Rattle.cross_bound.proofs.Ways.{IsCounted}
use Rattle.cross_bound.proofs.walk.walk.Given as goal

-- the walk goes on from the way at hand
abbrev pub invariant-loop-next : goal.invariant-loop-next
invariant-loop-next l = IsCounted l.mesh.points l.mesh.edges l.e l.way l.count

abbrev pub decreases-loop-next : goal.decreases-loop-next
decreases-loop-next l = crossings l.mesh.points l.mesh.edges l.e - l.count
