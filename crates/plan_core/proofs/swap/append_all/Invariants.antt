use Rattle.plan_core.proofs.Turns.{IsPartway}
use Rattle.plan_core.proofs.swap.append_all.Given as goal

-- the edges so far have flipped
abbrev pub invariant-loop-e : goal.invariant-loop-e
invariant-loop-e l = IsPartway l.e-items l.e-index l.initial.track l.track
