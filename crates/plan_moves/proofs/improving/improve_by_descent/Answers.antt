use Rattle.std.proofs.Common.{◌∙◌, sym, ap}
use Rattle.plan_law.proofs.Proved.{descents_lower}
use Rattle.plan_moves.specs.Answers.{descent_answer}
use Rattle.plan_moves.proofs.Lowered.{instance_of}
use Rattle.plan_moves.proofs.improving.improve_by_descent.Goals as goal

pub put_rounds-requires-clause-better : goal.put_rounds-requires-clause-better
put_rounds-requires-clause-better c =
    descents_lower c.args.plan.now.problem.points c.args.plan.now.problem.inputs c.args.plan.now.plan c.args.t c.in-Better.rounds (instance_of c.args.plan.now.problem.points c.args.plan.now.problem.inputs c.total.ensures.problem) c.total.ensures.plan c.requires
    (sym c.in_ok-rounds.ensures ∙ ap descent_answer c.in-Better.is)
