use Rattle.std.proofs.Common.{◌∙◌, sym, ap}
use Rattle.plan_law.specs.Plans.{lowers}
use Rattle.plan_moves.proofs.Lowered.{alone}
use Rattle.plan_moves.proofs.lowering.lowers_by.Goals as goal

pub returns-then-len-eq1 : goal.returns-then-len-eq1
returns-then-len-eq1 c =
    c.lowers_by_one.ensures ∙ ap (lowers c.args.plan.now.problem.points c.args.plan.now.plan) (sym (alone c.args.edges.now c.at.result.now (sym c.len.ensures ∙ c.if-len-eq1.true) c.at.ensures))
