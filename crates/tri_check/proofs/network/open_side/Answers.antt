use Rattle.std.proofs.Common.{arith}
use Rattle.tri_check.specs.Stages.{IsClosed, HasOpenSide}
use Rattle.tri_check.proofs.Searches.{on_true, on_false, all_before_more, all_at_end, first_at}
use Rattle.tri_check.proofs.Nets.{not_open}
use Rattle.tri_check.proofs.network.open_side.Goals as goal

pub returns-then-has_open_side : goal.returns-then-has_open_side
returns-then-has_open_side c =
    first_at c.args.edges.now (HasOpenSide c.args.points.now c.args.edges.now) c.loop-i.i c.at-e.result c.len-i-end.ensures.ascending (omega (arith, c.len-i-end.ensures.len)) c.at-e.ensures (λ k d h. not_open c.args.points.now c.args.edges.now _ (c.loop-i.invariant k d h))
    (on_true c.has_open_side.result (HasOpenSide c.args.points.now c.args.edges.now c.at-e.result) (IsClosed c.args.points.now c.args.edges.now c.at-e.result.0 c.at-e.result.1 × IsClosed c.args.points.now c.args.edges.now c.at-e.result.1 c.at-e.result.0) c.has_open_side.ensures c.if-has_open_side.true)

pub loop-i-preserved : goal.loop-i-preserved
loop-i-preserved c =
    all_before_more c.args.edges.now (λ e. IsClosed c.args.points.now c.args.edges.now e.0 e.1 × IsClosed c.args.points.now c.args.edges.now e.1 e.0) c.loop-i.i c.at-e.result c.at-e.ensures c.loop-i.invariant
    (on_false c.has_open_side.result (HasOpenSide c.args.points.now c.args.edges.now c.at-e.result) (IsClosed c.args.points.now c.args.edges.now c.at-e.result.0 c.at-e.result.1 × IsClosed c.args.points.now c.args.edges.now c.at-e.result.1 c.at-e.result.0) c.has_open_side.ensures c.if-has_open_side.false)

pub returns : goal.returns
returns c = all_at_end c.args.edges.now (λ e. IsClosed c.args.points.now c.args.edges.now e.0 e.1 × IsClosed c.args.points.now c.args.edges.now e.1 e.0) c.loop-i.i (omega (arith, c.len-i-end.ensures.len)) c.loop-i.invariant
