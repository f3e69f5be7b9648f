use Rattle.std.proofs.Common.{◌∙◌, [], ◌∷◌, sym}
use Rattle.plan_moves.proofs.Lowered.{lowers_nowhere, followed_not, not_followed, not_true}
use Rattle.plan_moves.proofs.lowering.lowers_by_one.Goals as goal

pub returns-else-flips : goal.returns-else-flips
returns-else-flips c =
    c.if-flips.false
    ∙ sym (lowers_nowhere c.args.plan.now.problem.points c.args.plan.now.plan (c.args.e ∷ []) (followed_not c.args.plan.now.problem.points c.args.plan.now.plan c.args.e []
    (not_followed c.args.plan.now.problem.points c.args.plan.now.problem.inputs c.args.plan.now.plan c.args.e c.total-total.ensures.problem c.total-total.ensures.plan (λ f. not_true c.flips.result c.if-flips.false (c.flips.ensures.1 f)))))
