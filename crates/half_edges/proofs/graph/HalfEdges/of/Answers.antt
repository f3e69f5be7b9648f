use Rattle.half_edges.proofs.Halves.{made}
use Rattle.half_edges.proofs.graph.HalfEdges.of.Goals as goal

pub returns : goal.returns
returns c =
    made c.args.t.now c.in_ok-mesh.mesh c.in_ok-ways.ways.items _ _ _ _ _ c.in_ok-mesh.ensures c.in_ok-ways.ensures c.deref-2.ensures.value c.deref-3.ensures.value c.in_ok-halves.ensures.ways c.in_ok-halves.ensures.halves c.count_of.ensures c.in_ok-begins.ensures
