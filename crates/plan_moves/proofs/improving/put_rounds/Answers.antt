use Rattle.plan_moves.proofs.Faultless.{memory_alone}
use Rattle.plan_moves.proofs.improving.put_rounds.Goals as goal

pub missing-requires : goal.missing-requires
missing-requires c = memory_alone c.args.plan.now.problem c.args.plan.now.plan c.args.t c.args.rounds.now c.total.ensures.problem c.total.ensures.plan c.requires.input c.requires.better c.in-Err.fault c.in-Err.ensures.err
