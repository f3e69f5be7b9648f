use Rattle.std.proofs.Common.{subst}
use Rattle.bound_law.specs.Bounds.{input_at}
use Rattle.log_law.specs.Clauses.{listed}
use Rattle.sat_search.specs.Answers.{IsAnswer}
use Rattle.pair_rows.proofs.Climbing.{models_satisfy}
use Rattle.pair_rows.proofs.proving.try_rounds.Goals as goal

pub decode2-requires-clause-model : goal.decode2-requires-clause-model
decode2-requires-clause-model c =
    let answer = subst (IsAnswer c.in-Ok.cnf c.args.budget) c.in-Sat.is (c.in_ok-truth.ensures) in
    models_satisfy c.args.inst.now.points c.args.frame.now (input_at c.args.inst.now.inputs c.args.i) (input_at c.args.inst.now.inputs c.args.j) c.args.k c.in-Ok.cnf (listed c.in-Sat.truth) c.in-Ok.ensures.built answer.1
