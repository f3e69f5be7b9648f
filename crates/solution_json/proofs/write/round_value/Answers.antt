use Rattle.std.proofs.Common.{◌≡◌, ◌∙◌, ◌<◌, ◌≤◌, length, map, take, ap, arith}
use Rattle.std.proofs.lemmas.List.{take_all}
use Rattle.serde_json.specs.Data.{array}
use Rattle.serde_json.specs.View.{view, items_of}
use Rattle.serde_json.specs.declared.value.Value.{the_lemmas}
use Rattle.solution_json.specs.Texts.{pair_data, IsEdge}
use Rattle.solution_json.proofs.Schedules.{at_place}
use Rattle.solution_json.proofs.Written.{items_more, holds_more}
use Rattle.solution_json.proofs.write.round_value.Goals as goal

pub loop-i-preserved : goal.loop-i-preserved
loop-i-preserved c =
    let lt : c.loop-i.i < length c.args.round.now = omega (arith, c.loop-i-test.true, c.len-i-end.ensures) in
    let here = at_place c.args.round.now c.loop-i.i c.at.result.now c.at.ensures in
    let more = items_more pair_data c.loop-i.items.items c.args.round.now c.loop-i.i c.in_ok-pair_value.field-0 c.at.result.now lt here c.in_ok-pair_value.ensures.value c.loop-i.invariant.0 in
    (ap (map view) c.in_ok-push.ensures.items ∙ more, holds_more IsEdge c.args.round.now c.loop-i.i c.at.result.now lt here c.in_ok-pair_value.ensures.edge c.loop-i.invariant.1)

pub returns-clause-value : goal.returns-clause-value
returns-clause-value c =
    let le : length c.args.round.now ≤ c.loop-i.i = omega (arith, c.loop-i-test.false, c.len-i-end.ensures) in
    let whole : take c.loop-i.i c.args.round.now ≡ c.args.round.now = take_all _ c.args.round.now le in
    simp the_lemmas (ap array (ap items_of (c.loop-i.invariant.0 ∙ ap (map pair_data) whole)))
