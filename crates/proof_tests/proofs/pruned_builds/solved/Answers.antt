use Rattle.std.proofs.Common.{subst}
use Rattle.bound_law.specs.Bounds.{input_at}
use Rattle.log_law.specs.Clauses.{listed}
use Rattle.sat_search.specs.Answers.{IsAnswer}
use Rattle.pair_rows.proofs.Climbing.{models_satisfy}
use Rattle.proof_tests.proofs.pruned_builds.solved.Goals as goal

pub decode2-requires-clause-model : goal.decode2-requires-clause-model
decode2-requires-clause-model g c =
    let answer = subst (IsAnswer c.in_ok-cnf.cnf 50_000) c.in-Sat.is c.in_ok-truth.ensures in
    models_satisfy c.args.inst.now.points c.in_ok-frame.frame (input_at c.args.inst.now.inputs 0) (input_at c.args.inst.now.inputs c.args.to) c.args.k c.in_ok-cnf.cnf (listed c.in-Sat.truth) c.in_ok-cnf.ensures.built answer.1
