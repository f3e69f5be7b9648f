use Rattle.std.proofs.Common.{◌∙◌, ◌<◌, ◌++◌, ◌∷◌, [], length, sym, ap, arith}
use Rattle.replay.proofs.Lists.{take_push, read_at}
use Rattle.plan_moves.proofs.greedy.listed.Goals as goal

pub loop-i-preserved : goal.loop-i-preserved
loop-i-preserved c =
    let l : c.loop-i.i < length c.args.edges.now = omega (arith, c.len-i-end.ensures.len, c.loop-i-test.true) in
    c.in_ok-push.ensures.ok ∙ (ap (λ es. es ++ c.at.result ∷ []) c.loop-i.invariant ∙ sym (take_push c.args.edges.now c.loop-i.i c.at.result l (read_at c.args.edges.now c.loop-i.i c.at.result c.at.ensures)))
