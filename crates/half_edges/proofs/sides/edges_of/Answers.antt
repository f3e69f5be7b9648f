use Rattle.half_edges.proofs.Halves.{edge_more}
use Rattle.half_edges.proofs.sides.edges_of.Goals as goal

pub loop-i-preserved : goal.loop-i-preserved
loop-i-preserved c = edge_more c.args.t.now.edges c.loop-i.i c.edge_at-e.result c.low.result c.high.result c.loop-i.edges.items _ c.loop-i.invariant c.edge_at-e.ensures c.low.ensures.low c.high.ensures.high c.in_ok-push.ensures.items
