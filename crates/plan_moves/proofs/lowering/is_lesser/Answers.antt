use Rattle.std.proofs.Common.{◌∙◌, sym}
use Rattle.plan_law.specs.Plans.{lowers}
use Rattle.plan_moves.proofs.LastRounds.{lesser_means}
use Rattle.plan_moves.proofs.lowering.is_lesser.Goals as goal

pub returns-then-comes_first : goal.returns-then-comes_first
returns-then-comes_first c =
    lesser_means (lowers c.args.plan.now.problem.points c.args.plan.now.plan) c.args.found.now c.args.edges.now c.at-e.result.now c.lowers_by_one.result (sym c.len.ensures ∙ c.if-len-ne1.false) c.at-e.ensures (c.comes_first.ensures.0 c.if-comes_first.true)
    c.lowers_by_one.ensures
