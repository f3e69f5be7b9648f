use Rattle.std.proofs.Common.{◌≡◌, All, map, take}
use Rattle.serde_json.specs.View.{view}
use Rattle.solution_json.specs.Texts.{round_data}
use Rattle.solution_json.proofs.Written.{AreEdges}
use Rattle.solution_json.proofs.write.rounds_value.Given as goal

-- the values so far
abbrev pub invariant-loop-i : goal.invariant-loop-i
invariant-loop-i l = (map view l.items.items ≡ map round_data (take l.i l.rounds)) × All AreEdges (take l.i l.rounds)
