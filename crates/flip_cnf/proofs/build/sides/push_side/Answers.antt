use Rattle.std.proofs.Common.{refl, arith}
use Rattle.flip_cnf.proofs.build.sides.push_side.Goals as goal

pub unreachable-requires : goal.unreachable-requires
unreachable-requires c = let i = c.in-None.ensures.none.0 refl in let l = ((c.requires.frame.frame.segments _).0 c.requires.segment).low_first in omega (arith, i, l)
