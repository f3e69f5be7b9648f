use Rattle.std.proofs.Common.{◌≡◌, ◌*◌, map, drop}
use Rattle.serde_json.specs.View.{view}
use Rattle.json_value.specs.Values.{IsWhole, IsPairOf, elements}
use Rattle.json_value.proofs.Steps.{Reading}
use Rattle.json_value.proofs.pairs.pairs_in.Given as goal

-- each value has two numbers
abbrev pub invariant-loop-value : goal.invariant-loop-value
invariant-loop-value l =
    (l.place ≡ 2 * l.value-index) × Reading IsWhole IsPairOf elements (map view l.values) (map view (drop l.value-index l.values)) l.pairs l.place
