use Rattle.gen_instance.proofs.Bounds.{aside_fits, aside_is}
use Rattle.gen_instance.proofs.direction.aside.Goals as goal

pub overflow_sub-result : goal.overflow_sub-result
overflow_sub-result c = aside_fits c.args.direction.a c.args.direction.b c.args.p c.requires.direction c.requires.reach

pub returns : goal.returns
returns c = aside_is c.args.direction.a c.args.direction.b c.args.p c.requires.direction c.requires.reach
