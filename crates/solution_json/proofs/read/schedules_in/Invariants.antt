use Rattle.std.proofs.Common.{map, drop}
use Rattle.serde_json.specs.View.{view}
use Rattle.json_value.specs.Values.{IsWhole, Lists, IsPairOf, numbers_of_lists}
use Rattle.json_value.proofs.Steps.{Reading}
use Rattle.solution_json.proofs.read.schedules_in.Given as goal

-- the place counts the numbers of the lists so far
abbrev pub invariant-loop-value : goal.invariant-loop-value
invariant-loop-value l =
    Reading IsWhole (Lists (Lists IsPairOf)) numbers_of_lists (map view l.values) (map view (drop l.value-index l.values)) l.raws.items l.place
