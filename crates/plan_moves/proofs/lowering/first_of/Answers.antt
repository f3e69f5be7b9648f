use Rattle.std.proofs.Common.{◌∙◌, Some, sym, ap, arith}
use Rattle.plan_law.specs.Plans.{lowers}
use Rattle.plan_moves.proofs.Lowered.{find_on, find_here}
use Rattle.plan_moves.proofs.lowering.first_of.Goals as goal

pub returns-then-branch : goal.returns-then-branch
returns-then-branch c =
    ap Some c.in_ok-copy.ensures
    ∙ (sym c.at-then-branch.ensures
    ∙ (c.at.ensures
    ∙ sym (c.loop-i.invariant ∙ find_here (lowers c.args.plan.now.problem.points c.args.plan.now.plan) c.args.moves.now c.loop-i.i c.at.result.now (omega arith) c.at.ensures (sym c.in_ok-lowers_by.ensures ∙ c.if-branch.true))))

pub loop-i-preserved : goal.loop-i-preserved
loop-i-preserved c =
    c.loop-i.invariant ∙ find_on (lowers c.args.plan.now.problem.points c.args.plan.now.plan) c.args.moves.now c.loop-i.i c.at.result.now (omega arith) c.at.ensures (sym c.in_ok-lowers_by.ensures ∙ c.if-branch.false)
