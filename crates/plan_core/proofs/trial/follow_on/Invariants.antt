use Rattle.plan_core.proofs.Trials.{IsAlong}
use Rattle.plan_core.proofs.trial.follow_on.Given as goal

-- the edges so far are followed
abbrev pub invariant-loop-e : goal.invariant-loop-e
invariant-loop-e l = IsAlong l.e-items l.e-index l.initial.track l.track
