use Rattle.std.proofs.Common.{length}
use Rattle.tri_theory.specs.Points.{Separates}
use Rattle.tri_check.proofs.Searches.{none_test}
use Rattle.tri_check.proofs.points.is_clear.Goals as goal

pub returns : goal.returns
returns c = none_test (length c.args.points.now) (Separates c.args.points.now c.args.a c.args.b) c.blocker.result c.is_none.result c.is_none.ensures c.blocker.ensures
