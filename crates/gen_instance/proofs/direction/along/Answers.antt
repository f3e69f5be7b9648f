use Rattle.gen_instance.proofs.Bounds.{along_fits, along_is}
use Rattle.gen_instance.proofs.direction.along.Goals as goal

pub overflow_add-result : goal.overflow_add-result
overflow_add-result c = along_fits c.args.direction.a c.args.direction.b c.args.p c.requires.direction c.requires.reach

pub returns : goal.returns
returns c = along_is c.args.direction.a c.args.direction.b c.args.p c.requires.direction c.requires.reach
