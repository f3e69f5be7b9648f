use Rattle.bound_law.specs.Bounds.{input_at}
use Rattle.log_law.specs.Clauses.{listed}
use Rattle.flip_cnf.proofs.Meaning.{satisfied}
use Rattle.proof_tests.proofs.formulas.decoded.Goals as goal

pub decode-requires-clause-model : goal.decode-requires-clause-model
decode-requires-clause-model g c =
    satisfied c.in_ok-frame.frame (input_at c.args.inst.now.inputs 0) (input_at c.args.inst.now.inputs 1) c.args.k c.in-Ok.cnf (listed c.args.truth.now) c.in-Ok.ensures.built (c.is_model.ensures c.if-not-is_model.false)
