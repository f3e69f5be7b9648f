use Rattle.std.proofs.Common.{◌≡◌, All, map, take}
use Rattle.serde_json.specs.View.{view}
use Rattle.solution_json.specs.Texts.{rounds_data}
use Rattle.solution_json.proofs.Written.{AreRounds}
use Rattle.solution_json.proofs.write.lists_value.Given as goal

-- the values so far
abbrev pub invariant-loop-i : goal.invariant-loop-i
invariant-loop-i l = (map view l.items.items ≡ map rounds_data (take l.i l.lists)) × All AreRounds (take l.i l.lists)
