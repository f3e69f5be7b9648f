use Rattle.std.proofs.Common.{◌∙◌, ◌<◌, ◌++◌, length, take, sym, ap, arith}
use Rattle.flip_list_law.specs.FlipLists.{in_turn}
use Rattle.replay.proofs.Lists.{take_push, read_at}
use Rattle.plan_core.proofs.Swapping.{in_turn_push}
use Rattle.plan_core.proofs.swap.edges_in_turn.Goals as goal

pub loop-i-preserved : goal.loop-i-preserved
loop-i-preserved c =
    let l : c.loop-i.i < length c.args.rounds.now = omega (arith, c.len-i-end.ensures, c.loop-i-test.true) in
    c.in_ok-add_round.ensures
    ∙ (ap (λ es. es ++ c.at.result.now) c.loop-i.invariant
    ∙ sym (ap in_turn (take_push c.args.rounds.now c.loop-i.i c.at.result.now l (read_at c.args.rounds.now c.loop-i.i c.at.result.now c.at.ensures)) ∙ in_turn_push (take c.loop-i.i c.args.rounds.now) c.at.result.now))
