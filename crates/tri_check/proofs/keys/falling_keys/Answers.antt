use Rattle.std.proofs.Common.{arith}
use Rattle.tri_check.proofs.KeyOrder.{falling}
use Rattle.tri_check.proofs.keys.falling_keys.Goals as goal

pub returns-clause-keys : goal.returns-clause-keys
returns-clause-keys c = falling c.args.points.now c.loop-i.keys.items c.loop-i.i (omega arith) c.loop-i.invariant
