use Rattle.std.proofs.Common.{◌∙◌}
use Rattle.plan_law.specs.Images.{flippable}
use Rattle.plan_law.specs.Plans.{last_moves}
use Rattle.plan_moves.proofs.Lowered.{not_true}
use Rattle.plan_moves.proofs.Walked.{no_single}
use Rattle.plan_moves.proofs.walking.has_no_move.Goals as goal

pub returns-else-is_empty : goal.returns-else-is_empty
returns-else-is_empty c = (
  λ u. absurd (not_true c.is_empty-2.result c.if-is_empty.false u),
  λ e. c.is_empty-2.ensures.1 (c.in_ok-flippable.ensures ∙ no_single (flippable c.args.plan.now.problem.points c.args.plan.now.plan.centre) (last_moves c.args.plan.now.plan.lists) e),
)
