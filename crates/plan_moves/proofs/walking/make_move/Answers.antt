use Rattle.std.proofs.Common.{◌∙◌, sym, ap}
use Rattle.tri_check.specs.Problems.{Problem}
use Rattle.plan_moves.proofs.Walked.{makes_move}
use Rattle.plan_moves.proofs.walking.make_move.Goals as goal

pub returns-in_ok-join-in-Some-clause-ok : goal.returns-in_ok-join-in-Some-clause-ok
returns-in_ok-join-in-Some-clause-ok c =
    makes_move c.args.plan.now.problem.points c.reserve.new.self.problem.points c.args.plan.now.problem.inputs c.args.plan.now.plan c.reserve.new.self.plan c.follow_in_turn.new.plan.plan c.args.word c.in-Some.edges c.args.made.now c.join.new.edges
    c.follow_in_turn.result c.total.ensures.problem c.total.ensures.plan (sym c.in-Some.is ∙ c.in_ok-edges.ensures) (ap (λ (p : Problem). p.points) c.reserve.ensures.problem) c.reserve.ensures.plan c.follow_in_turn.ensures.plan c.in_ok-join-in-Some.ensures
