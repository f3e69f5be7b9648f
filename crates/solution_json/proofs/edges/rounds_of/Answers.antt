use Rattle.std.proofs.Common.{◌≡◌, ◌<◌, ◌≤◌, ◌+◌, length, refl, arith}
use Rattle.std.specs.List.{AllZip}
use Rattle.json_value.proofs.Steps.{steps_more, steps_all}
use Rattle.solution_json.specs.Edges.{NamesEdge, IsEdgeOf}
use Rattle.solution_json.proofs.Schedules.{at_place, all_name, moved_on}
use Rattle.solution_json.proofs.edges.rounds_of.Goals as goal

pub returns-in-Err-clause-fault : goal.returns-in-Err-clause-fault
returns-in-Err-clause-fault c =
    let lt : c.loop-i.i < length c.args.raw.now = omega (arith, c.loop-i-test.true, c.len-i-end.ensures) in
    moved_on (AllZip IsEdgeOf) c.args.raw.now c.loop-i.i c.at-pairs.result.now c.loop-i.rounds c.loop-i.place c.in-Err.fault c.moved.result
    lt (at_place c.args.raw.now c.loop-i.i c.at-pairs.result.now c.at-pairs.ensures) c.moved.ensures c.in-Err.ensures.fault c.loop-i.invariant

pub loop-i-preserved : goal.loop-i-preserved
loop-i-preserved c =
    let lt : c.loop-i.i < length c.args.raw.now = omega (arith, c.loop-i-test.true, c.len-i-end.ensures) in
    let more = steps_more NamesEdge (AllZip IsEdgeOf) (λ pairs. pairs) c.args.raw.now c.loop-i.i c.at-pairs.result.now c.loop-i.rounds c.in-Ok.edges c.loop-i.place (length c.at-pairs.result.now)
    lt (at_place c.args.raw.now c.loop-i.i c.at-pairs.result.now c.at-pairs.ensures) c.in-Ok.ensures.ok (all_name c.at-pairs.result.now c.in-Ok.edges c.in-Ok.ensures.ok) refl c.loop-i.invariant in
    let next : c.in-Some.next ≡ c.loop-i.place + length c.at-pairs.result.now = omega (arith, c.in-Some.ensures.1, c.len.ensures) in
    rw (c.in_ok-push-in-Ok.ensures.ok, next) more

pub returns-clause-ok : goal.returns-clause-ok
returns-clause-ok c =
    let le : length c.args.raw.now ≤ c.loop-i.i = omega (arith, c.loop-i-test.false, c.len-i-end.ensures) in
    steps_all NamesEdge (AllZip IsEdgeOf) (λ pairs. pairs) c.args.raw.now c.loop-i.i c.loop-i.rounds c.loop-i.place le c.loop-i.invariant
