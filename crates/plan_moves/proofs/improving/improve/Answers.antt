use Rattle.std.proofs.Common.{◌≡◌, ◌∙◌, ◌≤◌, sym, ap, subst, subst₂, arith}
use Rattle.tri_check.specs.Problems.{Problem}
use Rattle.plan_law.specs.Plans.{plan_total}
use Rattle.plan_law.specs.Improving.{improved_by, improved}
use Rattle.plan_law.proofs.Proved.{improvers_never_worsen}
use Rattle.plan_moves.specs.Improved.{words_of}
use Rattle.plan_moves.proofs.Begun.{on_err}
use Rattle.plan_moves.proofs.Lowered.{instance_of}
use Rattle.plan_moves.proofs.Improves.{improves_on, stands}
use Rattle.plan_moves.proofs.improving.improve.Goals as goal

pub returns-in_err-improve_by-clause-total : goal.returns-in_err-improve_by-clause-total
returns-in_err-improve_by-clause-total c =
    subst (λ l. plan_total l ≤ plan_total c.args.plan.now.plan)
    (sym (c.in_err-improve_by.ensures.err ∙ stands (words_of c.args.seed) c.args.plan.now.problem.points c.args.plan.now.problem.inputs c.args.plan.now.plan c.loop-p.p c.loop-p.plan.plan c.loop-p.invariant.rest))
    (improvers_never_worsen (words_of c.args.seed) c.args.plan.now.problem.points c.args.plan.now.problem.inputs c.loop-p.p 0 c.args.plan.now.plan (instance_of c.args.plan.now.problem.points c.args.plan.now.problem.inputs c.total.ensures.problem) c.total.ensures.plan).1

pub returns-in_err-improve_by-clause-err : goal.returns-in_err-improve_by-clause-err
returns-in_err-improve_by-clause-err c =
    on_err c.from_residual.result _ (record {
      made = c.loop-p.p;
      some = omega arith;
      stands = c.in_err-improve_by.ensures.err ∙ stands (words_of c.args.seed) c.args.plan.now.problem.points c.args.plan.now.problem.inputs c.args.plan.now.plan c.loop-p.p c.loop-p.plan.plan c.loop-p.invariant.rest;
    })

pub loop-p-preserved : goal.loop-p-preserved
loop-p-preserved c = record {
  problem = c.improve_by.ensures.problem ∙ c.loop-p.invariant.problem;
  rest =
      improves_on (words_of c.args.seed) c.args.plan.now.problem.points c.args.plan.now.problem.inputs c.args.plan.now.plan c.loop-p.p c.loop-p.plan.plan c.improve_by.new.plan.plan c.loop-p.invariant.rest
      (subst₂ (λ ps is. c.improve_by.new.plan.plan ≡ improved_by (words_of c.args.seed) ps is c.loop-p.p c.loop-p.plan.plan) (ap (λ (p : Problem). p.points) c.loop-p.invariant.problem) (ap (λ (p : Problem). p.inputs) c.loop-p.invariant.problem) c.in_ok-improve_by.ensures.ok);
}

pub returns-clause-total : goal.returns-clause-total
returns-clause-total c =
    subst (λ l. plan_total l ≤ plan_total c.args.plan.now.plan) (sym (stands (words_of c.args.seed) c.args.plan.now.problem.points c.args.plan.now.problem.inputs c.args.plan.now.plan c.loop-p.p c.loop-p.plan.plan c.loop-p.invariant.rest))
    (improvers_never_worsen (words_of c.args.seed) c.args.plan.now.problem.points c.args.plan.now.problem.inputs c.loop-p.p 0 c.args.plan.now.plan (instance_of c.args.plan.now.problem.points c.args.plan.now.problem.inputs c.total.ensures.problem) c.total.ensures.plan).1

pub returns-clause-ok : goal.returns-clause-ok
returns-clause-ok c =
    let e : c.loop-p.p ≡ c.args.turns = omega arith in
    stands (words_of c.args.seed) c.args.plan.now.problem.points c.args.plan.now.problem.inputs c.args.plan.now.plan c.loop-p.p c.loop-p.plan.plan c.loop-p.invariant.rest
    ∙ ap (λ n. improved (words_of c.args.seed) c.args.plan.now.problem.points c.args.plan.now.problem.inputs n 0 c.args.plan.now.plan) e
