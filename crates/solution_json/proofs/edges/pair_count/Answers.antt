use Rattle.std.proofs.Common.{◌≡◌, ◌<◌, ◌+◌, length, take, arith}
use Rattle.solution_json.specs.Edges.{pairs_within}
use Rattle.solution_json.proofs.Schedules.{count_more, at_place}
use Rattle.solution_json.proofs.edges.pair_count.Goals as goal

pub loop-i-preserved : goal.loop-i-preserved
loop-i-preserved c =
    let lt : c.loop-i.i < length c.args.raw.now = omega (arith, c.loop-i-test.true, c.len-i-end.ensures) in
    let more = count_more c.args.raw.now c.loop-i.i c.at.result.now lt (at_place c.args.raw.now c.loop-i.i c.at.result.now c.at.ensures) in
    let next : c.in_ok-count.count ≡ length (pairs_within (take (c.loop-i.i + 1) c.args.raw.now)) = omega (arith, more, c.in_ok-count.ensures.1, c.len.ensures, c.loop-i.invariant) in
    next
