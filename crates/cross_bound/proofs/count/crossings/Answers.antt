use Rattle.std.proofs.Common.{sym}
use Rattle.crossing_law.proofs.Crossed.{member_uncrossed}
use Rattle.cross_bound.proofs.count.crossings.Goals as goal

pub returns-then-has : goal.returns-then-has
returns-then-has c = sym (member_uncrossed c.args.mesh.now.points c.args.mesh.now.edges c.points.ensures.triangulation.triangulation c.args.e (c.has.ensures.0 c.if-has.true))
