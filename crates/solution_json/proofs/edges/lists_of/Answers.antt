use Rattle.std.proofs.Common.{◌≡◌, ◌+◌, length, refl}
use Rattle.std.specs.List.{AllZip}
use Rattle.json_value.proofs.Steps.{steps_more, steps_all}
use Rattle.solution_json.specs.Edges.{NamesEdge, IsEdgeOf, pairs_within}
use Rattle.solution_json.proofs.Schedules.{all_name_within, pairs_on}
use Rattle.solution_json.proofs.edges.lists_of.Goals as goal

pub returns-in-Err-clause-fault : goal.returns-in-Err-clause-fault
returns-in-Err-clause-fault c =
    pairs_on (AllZip (AllZip IsEdgeOf)) c.args.raws.now c.loop-raw.raw-index c.raw-item.result c.loop-raw.lists c.loop-raw.place c.in-Err.fault c.pair_fault.result
    c.loop-raw-test.true c.raw-item.is c.pair_fault.ensures c.in-Err.ensures.fault c.loop-raw.invariant

pub loop-raw-preserved : goal.loop-raw-preserved
loop-raw-preserved c =
    let more = steps_more NamesEdge (AllZip (AllZip IsEdgeOf)) pairs_within c.args.raws.now c.loop-raw.raw-index c.raw-item.result c.loop-raw.lists c.in-Ok.rounds c.loop-raw.place (length (pairs_within c.raw-item.result))
    c.loop-raw-test.true c.raw-item.is c.in-Ok.ensures.ok (all_name_within c.raw-item.result c.in-Ok.rounds c.in-Ok.ensures.ok) refl c.loop-raw.invariant in
    let next : c.in-Some.next ≡ c.loop-raw.place + length (pairs_within c.raw-item.result) = c.in-Some.ensures in
    rw (c.in_ok-push-in-Ok.ensures.ok, next) more

pub returns-clause-ok : goal.returns-clause-ok
returns-clause-ok c = steps_all NamesEdge (AllZip (AllZip IsEdgeOf)) pairs_within c.args.raws.now c.loop-raw.raw-index c.loop-raw.lists c.loop-raw.place c.loop-raw-test.false c.loop-raw.invariant
