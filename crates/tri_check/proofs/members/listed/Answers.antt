use Rattle.std.proofs.Common.{[], ◌∷◌, ◌++◌, sym, ap, ◌∙◌}
use Rattle.tri_check.proofs.Pairs.{taken}
use Rattle.tri_check.proofs.members.listed.Goals as goal

pub loop-i-preserved : goal.loop-i-preserved
loop-i-preserved c = c.in_ok-push.ensures.items ∙ ap (λ xs. xs ++ c.at.result ∷ []) c.loop-i.invariant ∙ sym (taken c.args.hull.now c.loop-i.i c.at.result c.at.ensures)
