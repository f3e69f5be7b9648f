use Rattle.half_edges.proofs.Halves.{joined_at, ways_more, halves_more}
use Rattle.half_edges.proofs.build.halves_of.Goals as goal

pub half-requires-clause-joined : goal.half-requires-clause-joined
half-requires-clause-joined c = joined_at _ _ c.requires.directed c.loop-i.i (0, 0) c.loop-i-test.true

pub loop-i-preserved : goal.loop-i-preserved
loop-i-preserved c = record {
  ways = ways_more c.args.ways.now c.loop-i.i c.loop-i.halves.items _ c.half.result (0, 0) c.loop-i.invariant.ways c.loop-i-test.true c.half.ensures.from c.half.ensures.to c.in_ok-push.ensures.items;
  halves = halves_more _ _ _ c.loop-i.halves.items _ c.half.result c.loop-i.invariant.halves c.half.ensures.half c.in_ok-push.ensures.items;
}
