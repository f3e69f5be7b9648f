use Rattle.std.proofs.Common.{◌<◌, ◌≤◌, All, length, subst, arith}
use Rattle.std.proofs.lemmas.List.{take_all}
use Rattle.std.proofs.lemmas.List.Elements.{All-more}
use Rattle.replay.proofs.Lists.{read_at}
use Rattle.plan_core.specs.Steps.{IsLed}
use Rattle.plan_core.proofs.plan.group_all.Goals as goal

pub loop-i-preserved : goal.loop-i-preserved
loop-i-preserved c =
    let l : c.loop-i.i < length c.args.tracks.now = omega (arith, c.len-i-end.ensures, c.loop-i-test.true) in
    All-more IsLed c.args.tracks.now c.loop-i.i c.at.result.now l c.loop-i.invariant (subst IsLed (read_at c.args.tracks.now c.loop-i.i c.at.result.now c.at.ensures) c.in_ok-grouped.ensures.leads)

pub returns : goal.returns
returns c =
    let l : length c.args.tracks.now ≤ c.loop-i.i = omega (arith, c.len-i-end.ensures, c.loop-i-test.false) in
    subst (All IsLed) (take_all c.loop-i.i c.args.tracks.now l) c.loop-i.invariant
