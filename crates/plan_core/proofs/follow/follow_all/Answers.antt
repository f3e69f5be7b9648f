use Rattle.std.proofs.Common.{◌∙◌, ◌<◌, length, sym, subst, arith}
use Rattle.tri_theory.specs.Flips.{Flips}
use Rattle.replay.proofs.Lists.{read_at}
use Rattle.round_pack.specs.Tracks.{FlipTrack}
use Rattle.plan_core.specs.Steps.{IsFollowed}
use Rattle.plan_core.proofs.Through.{still, on}
use Rattle.plan_core.proofs.follow.follow_all.Goals as goal

pub follow_in-requires-clause-flips : goal.follow_in-requires-clause-flips
follow_in-requires-clause-flips c =
    let l : c.loop-i.i < length c.args.tracks.now = omega (arith, c.len-i-end.ensures, c.loop-i-test.true) in
    let e = read_at c.loop-i.tracks c.loop-i.i c.at_mut.result.now c.at_mut.ensures.value ∙ still (IsFollowed c.args.e) c.loop-i.i c.args.tracks.now c.loop-i.tracks c.at_mut.result.now c.loop-i.invariant in
    subst (λ (t : FlipTrack). Flips t.points t.end c.args.e) (sym e) (c.requires.flips c.loop-i.i c.at_mut.result.now l)

pub follow_in-requires-clause-spare : goal.follow_in-requires-clause-spare
follow_in-requires-clause-spare c =
    let l : c.loop-i.i < length c.args.tracks.now = omega (arith, c.len-i-end.ensures, c.loop-i-test.true) in
    let e = read_at c.loop-i.tracks c.loop-i.i c.at_mut.result.now c.at_mut.ensures.value ∙ still (IsFollowed c.args.e) c.loop-i.i c.args.tracks.now c.loop-i.tracks c.at_mut.result.now c.loop-i.invariant in
    subst (λ (t : FlipTrack). 0 < t.spare) (sym e) (c.requires.spare c.loop-i.i c.at_mut.result.now l)

pub loop-i-preserved : goal.loop-i-preserved
loop-i-preserved c =
    let l : c.loop-i.i < length c.loop-i.tracks = omega (arith, c.len-i-end.ensures, c.loop-i-test.true, c.loop-i.invariant.long) in
    on (IsFollowed c.args.e) c.loop-i.i c.args.tracks.now c.loop-i.tracks c.at_mut.result.now c.follow_in.new.track c.loop-i.invariant l c.at_mut.ensures.value c.follow_in.ensures
