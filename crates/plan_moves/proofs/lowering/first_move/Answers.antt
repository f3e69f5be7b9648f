use Rattle.std.proofs.Common.{◌∙◌, length, subst}
use Rattle.std.proofs.lemmas.Result.{IfOk-weaker}
use Rattle.plan_law.specs.Plans.{lowers}
use Rattle.plan_moves.specs.Singles.{HasLeastSingle}
use Rattle.plan_moves.proofs.LastRounds.{first_alone, first_of_last}
use Rattle.plan_moves.proofs.lowering.first_move.Goals as goal

pub returns-in-Some : goal.returns-in-Some
returns-in-Some c =
    first_alone c.args.plan.now.problem.points c.args.plan.now.problem.inputs c.args.plan.now.plan c.total.ensures.problem c.total.ensures.plan c.in_ok-moves.moves c.in-Some.edges c.in_ok-moves.ensures
    (subst (HasLeastSingle (lowers c.args.plan.now.problem.points c.args.plan.now.plan) c.in_ok-moves.moves (length c.in_ok-moves.moves)) c.in-Some.is c.in_ok-edges.ensures)

pub returns : goal.returns
returns c =
    IfOk-weaker c.first_of.result _ _
    (λ first e. e ∙ first_of_last c.args.plan.now.problem.points c.args.plan.now.problem.inputs c.args.plan.now.plan c.total.ensures.problem c.total.ensures.plan c.in_ok-moves.moves c.in_ok-moves.ensures
    (subst (HasLeastSingle (lowers c.args.plan.now.problem.points c.args.plan.now.plan) c.in_ok-moves.moves (length c.in_ok-moves.moves)) c.in-None.is c.in_ok-edges.ensures)) c.first_of.ensures
