use Rattle.std.proofs.Common.{subst₂}
use Rattle.tri_check.specs.Faults.{IsOpen}
use Rattle.tri_check.specs.Stages.{IsClosed}
use Rattle.tri_check.proofs.Searches.{on_false}
use Rattle.tri_check.proofs.network.has_open_side.Goals as goal

pub returns : goal.returns
returns c = (
  subst₂ (λ x y. IsClosed c.args.points.now c.args.edges.now x y) c.low-a.ensures.low c.high-b.ensures.high (on_false c.is_open.result (IsOpen c.args.points.now c.args.edges.now c.low-a.result c.high-b.result) (IsClosed c.args.points.now c.args.edges.now c.low-a.result c.high-b.result) c.is_open.ensures c.if-is_open.false),
  subst₂ (λ x y. IsClosed c.args.points.now c.args.edges.now x y) c.high-b.ensures.high c.low-a.ensures.low (on_false c.is_open-2.result (IsOpen c.args.points.now c.args.edges.now c.high-b.result c.low-a.result) (IsClosed c.args.points.now c.args.edges.now c.high-b.result c.low-a.result) c.is_open-2.ensures c.if-is_open-2.false),
)
