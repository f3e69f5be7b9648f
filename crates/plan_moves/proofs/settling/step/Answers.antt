use Rattle.std.proofs.Common.{◌∙◌, sym, ap, subst}
use Rattle.tri_check.specs.Problems.{Problem}
use Rattle.plan_moves.specs.Settlings.{IsOnTheWay}
use Rattle.plan_moves.proofs.Lowered.{first_follows}
use Rattle.plan_moves.proofs.Begun.{on_err, way_begins, way_on}
use Rattle.plan_moves.proofs.settling.step.Goals as goal

pub returns-in_err-edges-clause-err : goal.returns-in_err-edges-clause-err
returns-in_err-edges-clause-err c = on_err c.from_residual.result _ (way_begins c.args.plan.now.problem.points c.args.plan.now.plan)

pub returns-in_err-reserve-in-Some-clause-err : goal.returns-in_err-reserve-in-Some-clause-err
returns-in_err-reserve-in-Some-clause-err c =
    on_err c.from_residual-in_err-reserve-in-Some.result _
    (subst (IsOnTheWay c.args.plan.now.problem.points c.args.plan.now.plan) (sym c.reserve.ensures.plan) (way_begins c.args.plan.now.problem.points c.args.plan.now.plan))

pub returns-in_err-push-in-Some-clause-err : goal.returns-in_err-push-in-Some-clause-err
returns-in_err-push-in-Some-clause-err c =
    on_err c.from_residual-in_err-push-in-Some.result _
    (way_on c.args.plan.now.problem.points c.args.plan.now.plan c.follow_in_turn.new.plan.plan c.follow_in_turn.new.plan.plan c.in-Some.edges
    (first_follows c.args.plan.now.problem.points c.reserve.new.self.problem.points c.args.plan.now.plan c.reserve.new.self.plan c.follow_in_turn.new.plan.plan c.in-Some.edges c.follow_in_turn.result
    (ap (λ (p : Problem). p.points) c.reserve.ensures.problem) c.reserve.ensures.plan (sym c.in_ok-edges.ensures ∙ c.in-Some.is) c.follow_in_turn.ensures.plan)
    (way_begins c.args.plan.now.problem.points c.follow_in_turn.new.plan.plan))

pub returns-in_ok-push-in-Some-clause-ok : goal.returns-in_ok-push-in-Some-clause-ok
returns-in_ok-push-in-Some-clause-ok c = (
  c.in-Some.edges,
  first_follows c.args.plan.now.problem.points c.reserve.new.self.problem.points c.args.plan.now.plan c.reserve.new.self.plan c.follow_in_turn.new.plan.plan c.in-Some.edges c.follow_in_turn.result
      (ap (λ (p : Problem). p.points) c.reserve.ensures.problem) c.reserve.ensures.plan (sym c.in_ok-edges.ensures ∙ c.in-Some.is) c.follow_in_turn.ensures.plan,
  c.in_ok-push-in-Some.ensures.ok,
)
