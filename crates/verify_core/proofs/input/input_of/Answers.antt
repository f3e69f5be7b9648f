use Rattle.verify_core.proofs.Formulas.{input_triangulated}
use Rattle.verify_core.proofs.input.input_of.Goals as goal

pub returns-clause-triangulated : goal.returns-clause-triangulated
returns-clause-triangulated c =
    let problem = c.count.ensures.problem in
    record { few = problem.few_points; in_reach = problem.in_reach; placed = problem.placed; triangulation = input_triangulated c.args.inst.now.points c.args.inst.now.inputs c.args.t problem c.requires }
