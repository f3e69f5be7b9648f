use Rattle.std.proofs.Common.{arith}
use Rattle.flip_mesh.proofs.Built.{end_in_range, end_is, begin_there, end_there, reached_at, seen_more, all_seen}
use Rattle.flip_mesh.proofs.build.apex_from.Goals as goal

pub bounds-begins-p_at : goal.bounds-begins-p_at
bounds-begins-p_at c =
    let r = end_in_range _ _ _ _ c.requires.triangulated c.requires.ways c.requires.begins _ _ _ _ c.requires.side c.requires.ends in let l = c.requires.begins.long in omega arith

pub bounds-begins-p_at-2 : goal.bounds-begins-p_at-2
bounds-begins-p_at-2 c =
    let r = end_in_range _ _ _ _ c.requires.triangulated c.requires.ways c.requires.begins _ _ _ _ c.requires.side c.requires.ends in let l = c.requires.begins.long in omega arith

pub bounds-items-i : goal.bounds-items-i
bounds-items-i c =
    let E = end_there _ _ _ _ c.requires.triangulated c.requires.ways c.requires.begins _ _ _ _ c.requires.side c.requires.ends in let w = E.within in let t = c.loop-i-test.true in omega arith

pub nearer-best-requires-clause-reached : goal.nearer-best-requires-clause-reached
nearer-best-requires-clause-reached c =
    reached_at _ _ _ _ c.requires.triangulated c.requires.ways c.requires.begins _ _ _ _ c.requires.side c.requires.ends c.loop-i.i _ c.loop-i.auto.i c.loop-i-test.true

pub loop-i-preserved : goal.loop-i-preserved
loop-i-preserved c = record {
  corner = c.nearer-best.ensures.corner;
  nearest = seen_more _ _ _ _ _ _ _ _ _ _ (let E = end_there _ _ _ _ c.requires.triangulated c.requires.ways c.requires.begins _ _ _ _ c.requires.side c.requires.ends in let w = E.within in let t = c.loop-i-test.true in omega arith) c.nearer-best.ensures.keeps c.nearer-best.ensures.here c.loop-i.invariant.nearest;
}

pub returns : goal.returns
returns c =
    all_seen _ _ _ _ _ _ _ _ _ _ (end_is _ _ _ _ c.requires.triangulated c.requires.ways c.requires.begins _ _ _ _ c.requires.side c.requires.ends) c.requires.triangulated c.requires.ways c.requires.side c.loop-i.invariant.corner c.loop-i.invariant.nearest
    (begin_there _ _ _ _ c.requires.triangulated c.requires.ways c.requires.begins _ _ _ _ c.requires.side c.requires.ends)
    (end_there _ _ _ _ c.requires.triangulated c.requires.ways c.requires.begins _ _ _ _ c.requires.side c.requires.ends) c.loop-i-test.false
