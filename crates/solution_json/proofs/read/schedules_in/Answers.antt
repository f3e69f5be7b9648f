use Rattle.std.proofs.Common.{◌≡◌, ◌*◌, length, map, sym, subst, ap}
use Rattle.std.specs.Prelude.{All}
use Rattle.std.specs.List.{AllZip, flat_map}
use Rattle.serde_json.specs.View.{view}
use Rattle.json_value.specs.Faults.{OnOther}
use Rattle.json_value.specs.Values.{IsPair, IsListOf, IsPairOf, Lists, numbers_of_pairs, numbers_of_lists}
use Rattle.json_value.proofs.Steps.{elements_are}
use Rattle.json_value.proofs.Rows.{step_more, step_all, one_of, is_list, not_list}
use Rattle.solution_json.specs.Edges.{pairs_within}
use Rattle.solution_json.proofs.Whole.{numbers_on, rounds_whole, rounds_count}
use Rattle.solution_json.proofs.read.schedules_in.Goals as goal

pub unreachable-requires : goal.unreachable-requires
unreachable-requires c =
    not_list (IsListOf IsPair) (view c.value-item.result) c.in_default.ensures
    (one_of (IsListOf (IsListOf IsPair)) c.args.values.now c.loop-value.value-index c.value-item.result c.loop-value-test.true c.value-item.is c.requires)

pub pair_lists_in-requires : goal.pair_lists_in-requires
pair_lists_in-requires c =
    let list = one_of (IsListOf (IsListOf IsPair)) c.args.values.now c.loop-value.value-index c.value-item.result c.loop-value-test.true c.value-item.is c.requires in
    subst (λ vs. All (IsListOf IsPair) (map view vs)) (sym c.deref.ensures.value) (is_list (IsListOf IsPair) (view c.value-item.result) c.in-Some.list.now.items (sym c.in-Some.ensures) list)

pub returns-in-Err-clause-fault : goal.returns-in-Err-clause-fault
returns-in-Err-clause-fault c =
    let es = map view c.in-Some.list.now.items in
    let here : OnOther c.in-Err.fault (flat_map numbers_of_pairs es) = subst (λ vs. OnOther c.in-Err.fault (flat_map numbers_of_pairs (map view vs))) c.deref.ensures.value c.in-Err.ensures.other in
    let same : flat_map numbers_of_pairs es ≡ numbers_of_lists (view c.value-item.result) = sym (ap (flat_map numbers_of_pairs) (elements_are (view c.value-item.result) es (sym c.in-Some.ensures))) in
    numbers_on (Lists (Lists IsPairOf)) numbers_of_lists c.args.values.now c.loop-value.value-index c.value-item.result c.loop-value.raws.items c.loop-value.place c.in-Err.fault c.number_fault.result
    c.loop-value-test.true c.value-item.is c.number_fault.ensures (subst (OnOther c.in-Err.fault) same here) c.loop-value.invariant

pub loop-value-preserved : goal.loop-value-preserved
loop-value-preserved c =
    let is = sym c.in-Some.ensures in
    let es = map view c.in-Some.list.now.items in
    let zip : AllZip (Lists IsPairOf) es c.in-Ok.raw = subst (λ vs. AllZip (Lists IsPairOf) (map view vs) c.in-Ok.raw) c.deref.ensures.value c.in-Ok.ensures.ok in
    let more = step_more (Lists (Lists IsPairOf)) numbers_of_lists c.args.values.now c.loop-value.value-index c.value-item.result c.loop-value.raws.items c.in-Ok.raw c.loop-value.place (2 * length (pairs_within c.in-Ok.raw))
    c.loop-value-test.true c.value-item.is (es, is, zip) (rounds_whole (view c.value-item.result) c.in-Ok.raw (es, is, zip)) (rounds_count (view c.value-item.result) es c.in-Ok.raw is zip) c.loop-value.invariant in
    rw (c.in_ok-push.ensures.items, c.in-Some-place_after.ensures) more

pub returns-clause-ok : goal.returns-clause-ok
returns-clause-ok c =
    step_all (Lists (Lists IsPairOf)) numbers_of_lists c.args.values.now c.loop-value.value-index c.loop-value.raws.items c.loop-value.place c.loop-value-test.false c.loop-value.invariant
