use Rattle.std.proofs.Common.{arith}
use Rattle.tri_check.proofs.Outline.{hull_all}
use Rattle.tri_check.proofs.hull.plain_hull.Goals as goal

pub returns : goal.returns
returns c = hull_all _ _ c.loop-a.a (omega arith) c.loop-a.invariant
