use Rattle.std.proofs.Common.{◌≡◌, All, map, take}
use Rattle.serde_json.specs.View.{view}
use Rattle.solution_json.specs.Texts.{pair_data, IsEdge}
use Rattle.solution_json.proofs.write.round_value.Given as goal

-- the values so far
abbrev pub invariant-loop-i : goal.invariant-loop-i
invariant-loop-i l = (map view l.items.items ≡ map pair_data (take l.i l.round)) × All IsEdge (take l.i l.round)
