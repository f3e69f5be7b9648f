use Rattle.std.proofs.Common.{arith}
use Rattle.tri_check.proofs.Nets.{corner_in}
use Rattle.tri_check.proofs.network.has_triangle.Goals as goal

pub returns : goal.returns
returns c = λ k t. c.loop-c.invariant k (omega (arith, corner_in c.args.points.now c.args.edges.now c.args.a c.args.b k c.requires.edges t)) t
