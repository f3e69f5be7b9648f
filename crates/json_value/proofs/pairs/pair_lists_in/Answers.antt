use Rattle.std.proofs.Common.{◌≡◌, ◌+◌, ◌*◌, length, map, sym, subst, arith}
use Rattle.std.specs.Prelude.{All}
use Rattle.std.specs.List.{AllZip, flat_map}
use Rattle.std.proofs.lemmas.List.{length-map}
use Rattle.serde_json.specs.View.{view}
use Rattle.json_value.specs.Faults.{OnOther}
use Rattle.json_value.specs.Values.{IsPair, IsListOf, IsPairOf, Lists, elements, numbers_of_pairs}
use Rattle.json_value.proofs.Rows.{step_more, step_all, one_of, is_list, not_list, lists_are, numbers_are, numbers_whole, numbers_length, moved_other}
use Rattle.json_value.proofs.pairs.pair_lists_in.Goals as goal

pub unreachable-requires : goal.unreachable-requires
unreachable-requires c =
    not_list IsPair (view c.value-item.result) c.in_default.ensures
    (one_of (IsListOf IsPair) c.args.values.now c.loop-value.value-index c.value-item.result c.loop-value-test.true c.value-item.is c.requires)

pub pairs_in-requires : goal.pairs_in-requires
pairs_in-requires c =
    let list = one_of (IsListOf IsPair) c.args.values.now c.loop-value.value-index c.value-item.result c.loop-value-test.true c.value-item.is c.requires in
    subst (λ vs. All IsPair (map view vs)) (sym c.deref.ensures.value) (is_list IsPair (view c.value-item.result) c.in-Some.list.now.items (sym c.in-Some.ensures) list)

pub loop-value-preserved : goal.loop-value-preserved
loop-value-preserved c =
    let is = sym c.in-Some.ensures in
    let es = map view c.in-Some.list.now.items in
    let zip : AllZip IsPairOf es c.in-Ok.pairs = subst (λ vs. AllZip IsPairOf (map view vs) c.in-Ok.pairs) c.deref.ensures.value c.in-Ok.ensures.ok in
    let more = step_more (Lists IsPairOf) numbers_of_pairs c.args.values.now c.loop-value.value-index c.value-item.result c.loop-value.lists c.in-Ok.pairs c.loop-value.place (2 * length es)
    c.loop-value-test.true c.value-item.is (lists_are _ es _ is zip) (numbers_whole _ es _ is zip) (numbers_length _ es _ is zip) c.loop-value.invariant in
    let next : c.in-Some-checked_add.next ≡ c.loop-value.place + 2 * length es =
    omega (arith, c.in-Some-checked_add.ensures.1, c.len.ensures, c.in-Some.list.now.ok, length-map c.in-Some.list.now.items view) in
    rw (c.in_ok-push-in-Ok.ensures.ok, next) more

pub returns-in-Err-clause-other : goal.returns-in-Err-clause-other
returns-in-Err-clause-other c =
    let is = sym c.in-Some.ensures in
    let es = map view c.in-Some.list.now.items in
    let here : OnOther c.in-Err.fault (flat_map elements es) = subst (λ vs. OnOther c.in-Err.fault (flat_map elements (map view vs))) c.deref.ensures.value c.in-Err.ensures.other in
    moved_other (Lists IsPairOf) numbers_of_pairs c.args.values.now c.loop-value.value-index c.value-item.result c.loop-value.lists c.loop-value.place c.in-Err.fault c.moved.result
    c.loop-value-test.true c.value-item.is c.moved.ensures (subst (OnOther c.in-Err.fault) (sym (numbers_are _ es is)) here) c.loop-value.invariant

pub returns-clause-ok : goal.returns-clause-ok
returns-clause-ok c =
    step_all (Lists IsPairOf) numbers_of_pairs c.args.values.now c.loop-value.value-index c.loop-value.lists c.loop-value.place c.loop-value-test.false c.loop-value.invariant
