use Rattle.std.proofs.Common.{◌+◌, ◌<◌, ◌≤◌, length, take, sym, subst, arith}
use Rattle.std.specs.List.{AllZip}
use Rattle.std.proofs.lemmas.List.{take_all}
use Rattle.replay.proofs.Lists.{read_at}
use Rattle.plan_core.specs.Trials.{rounds_then, CanFollow}
use Rattle.plan_core.proofs.Trials.{bounds_more}
use Rattle.plan_core.proofs.trial.least_of_all.Goals as goal

pub least_rounds-requires : goal.least_rounds-requires
least_rounds-requires c =
    let l : c.loop-i.i < length c.args.tracks.now = omega (arith, c.len-i-end.ensures, c.loop-i-test.true) in
    subst (CanFollow c.args.edges.now) (sym (read_at c.args.tracks.now c.loop-i.i c.at.result.now c.at.ensures)) (c.requires c.loop-i.i c.at.result.now l)

pub loop-i-preserved : goal.loop-i-preserved
loop-i-preserved c =
    let l : c.loop-i.i < length c.args.tracks.now = omega (arith, c.len-i-end.ensures, c.loop-i-test.true) in
    subst (AllZip (λ track n. n ≤ rounds_then c.args.edges.now track) (take (c.loop-i.i + 1) c.args.tracks.now)) (sym c.in_ok-push.ensures.ok)
    (bounds_more (rounds_then c.args.edges.now) c.args.tracks.now c.loop-i.least c.loop-i.i c.at.result.now c.in_ok-rounds.rounds l c.at.ensures c.loop-i.invariant c.in_ok-rounds.ensures)

pub returns : goal.returns
returns c =
    let l : length c.args.tracks.now ≤ c.loop-i.i = omega (arith, c.len-i-end.ensures, c.loop-i-test.false) in
    subst (λ ts. AllZip (λ track n. n ≤ rounds_then c.args.edges.now track) ts c.loop-i.least) (take_all c.loop-i.i c.args.tracks.now l) c.loop-i.invariant
