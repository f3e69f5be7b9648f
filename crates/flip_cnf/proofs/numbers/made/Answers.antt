use Rattle.std.proofs.Common.{arith}
use Rattle.flip_cnf.proofs.Variables.{made_few}
use Rattle.flip_cnf.proofs.numbers.made.Goals as goal

pub overflow_cast-result : goal.overflow_cast-result
overflow_cast-result c = let l = made_few c.requires.frame.points c.args.lists.now c.requires.frame.frame c.args.k c.args.t c.args.n 400_000 c.requires.round c.requires.within c.requires.few in omega (arith, l, c.place.ensures)

pub overflow_add-result : goal.overflow_add-result
overflow_add-result c = let l = made_few c.requires.frame.points c.args.lists.now c.requires.frame.frame c.args.k c.args.t c.args.n 400_000 c.requires.round c.requires.within c.requires.few in omega (arith, l, c.place.ensures)
