use Rattle.plan_core.proofs.Trials.{IsFlippedTo}
use Rattle.plan_core.proofs.trial.flip_in_turn.Given as goal

-- the edges so far have flipped
abbrev pub invariant-loop-e : goal.invariant-loop-e
invariant-loop-e l = IsFlippedTo l.e-items l.e-index l.initial.mesh.points l.initial.mesh.edges l.mesh.points l.mesh.edges
