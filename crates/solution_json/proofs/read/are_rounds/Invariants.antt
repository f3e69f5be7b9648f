use Rattle.std.proofs.Common.{All, map, take}
use Rattle.serde_json.specs.View.{view}
use Rattle.json_value.specs.Values.{IsPair, IsListOf}
use Rattle.solution_json.proofs.read.are_rounds.Given as goal

-- the values so far are lists of rounds
abbrev pub invariant-loop-value : goal.invariant-loop-value
invariant-loop-value l = All (IsListOf (IsListOf IsPair)) (map view (take l.value-index l.values))
