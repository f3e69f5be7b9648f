use Rattle.std.proofs.Common.{◌∙◌, ap}
use Rattle.tri_check.specs.Problems.{Problem}
use Rattle.plan_moves.proofs.Begun.{on_err, way_no_higher, step_lower, step_on, step_ends, step_left}
use Rattle.plan_moves.proofs.settling.settle.Goals as goal

pub returns-in_err-step-clause-total : goal.returns-in_err-step-clause-total
returns-in_err-step-clause-total c =
    way_no_higher c.args.plan.now.problem.points c.args.plan.now.plan c.step.new.plan.plan
    (step_left c.args.plan.now.problem.points c.loop-made.plan.problem.points c.args.plan.now.plan c.loop-made.plan.plan c.step.new.plan.plan c.loop-made.made (ap (λ (p : Problem). p.points) c.loop-made.invariant.problem)
    c.loop-made.invariant.begun c.in_err-step.ensures.err)

pub returns-in_err-step-clause-err : goal.returns-in_err-step-clause-err
returns-in_err-step-clause-err c =
    on_err c.from_residual.result _
    (step_left c.args.plan.now.problem.points c.loop-made.plan.problem.points c.args.plan.now.plan c.loop-made.plan.plan c.step.new.plan.plan c.loop-made.made (ap (λ (p : Problem). p.points) c.loop-made.invariant.problem)
    c.loop-made.invariant.begun c.in_err-step.ensures.err)

pub loop-made-smaller : goal.loop-made-smaller
loop-made-smaller c = step_lower c.loop-made.plan.problem.points c.loop-made.plan.plan c.step.new.plan.plan c.loop-made.made c.step.new.made c.in_ok-step.field-0 c.in_ok-step.ensures.ok c.if-branch.true

pub loop-made-preserved : goal.loop-made-preserved
loop-made-preserved c = record {
  problem = c.step.ensures.problem ∙ c.loop-made.invariant.problem;
  begun =
      step_on c.loop-made.plan.problem.points c.loop-made.plan.plan c.step.new.plan.plan c.loop-made.made c.step.new.made c.in_ok-step.field-0 c.in_ok-step.ensures.ok c.args.plan.now.problem.points c.args.plan.now.plan
      (ap (λ (p : Problem). p.points) c.loop-made.invariant.problem) c.loop-made.invariant.begun c.if-branch.true;
}

pub returns-clause-ok : goal.returns-clause-ok
returns-clause-ok c =
    step_ends c.loop-made.plan.problem.points c.loop-made.plan.plan c.step.new.plan.plan c.loop-made.made c.step.new.made c.in_ok-step.field-0 c.in_ok-step.ensures.ok c.args.plan.now.problem.points c.args.plan.now.plan
    (ap (λ (p : Problem). p.points) c.loop-made.invariant.problem) c.loop-made.invariant.begun c.if-branch.false
