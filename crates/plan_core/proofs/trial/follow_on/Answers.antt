use Rattle.plan_core.proofs.Trials.{track_flips, track_on}
use Rattle.plan_core.proofs.trial.follow_on.Goals as goal

pub follow_in-requires-clause-flips : goal.follow_in-requires-clause-flips
follow_in-requires-clause-flips c = track_flips c.as_slice-e-items.result.now c.loop-e.e-index c.args.track.now c.loop-e.track c.requires.follows.end.placed c.loop-e.invariant c.e-item.result c.loop-e-test.true c.e-item.is

pub loop-e-preserved : goal.loop-e-preserved
loop-e-preserved c =
    track_on c.as_slice-e-items.result.now c.loop-e.e-index c.args.track.now c.loop-e.track c.requires.follows.end.placed c.loop-e.invariant c.e-item.result c.loop-e-test.true c.e-item.is c.follow_in.new.track c.follow_in.ensures
