use Rattle.std.proofs.Common.{All, map, take}
use Rattle.serde_json.specs.View.{view}
use Rattle.json_value.specs.Values.{IsPair}
use Rattle.json_value.proofs.pairs.are_pairs.Given as goal

-- the values so far are pairs
abbrev pub invariant-loop-value : goal.invariant-loop-value
invariant-loop-value l = All IsPair (map view (take l.value-index l.values))
