use Rattle.std.proofs.Common.{◌<◌, length, arith}
use Rattle.std.proofs.lemmas.Option.{get_or_from_slice_get}
use Rattle.edge_table.specs.declared.edge.Edge.{Edge}
use Rattle.flip_mesh.proofs.Built.{both_joined, both_there}
use Rattle.half_edges.proofs.sides.way_table.Goals as goal

pub loop-i-preserved : goal.loop-i-preserved
loop-i-preserved c =
    let a = c.in_ok-add_way.ensures in
    let b = c.in_ok-add_way-2.ensures in
    let at = λ (d : Edge). get_or_from_slice_get c.args.t.now.edges c.loop-i.i c.edge_at-e.result d c.edge_at-e.ensures in
    let l : c.loop-i.i < length c.args.t.now.edges = (let h = c.loop-i-test.true in let e = c.len-i-end.ensures.len in omega arith) in
    record {
      ordered = b.ordered;
      joined = both_joined _ _ _ _ c.edge_at-e.result _ _ c.low-u.ensures.low c.high-v.ensures.high c.low-u.ensures.below (c.loop-i.i, l, at c.edge_at-e.result) a b c.loop-i.invariant.joined;
      there = both_there _ _ _ _ c.edge_at-e.result _ _ _ c.low-u.ensures.low c.high-v.ensures.high at a b c.loop-i.invariant.there;
    }
