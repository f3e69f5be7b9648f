use Rattle.std.proofs.Common.{map, drop}
use Rattle.serde_json.specs.View.{view}
use Rattle.json_value.specs.Values.{IsWhole, Lists, IsPairOf, numbers_of_pairs}
use Rattle.json_value.proofs.Steps.{Reading}
use Rattle.json_value.proofs.pairs.pair_lists_in.Given as goal

-- the place counts the numbers of the lists so far
abbrev pub invariant-loop-value : goal.invariant-loop-value
invariant-loop-value l = Reading IsWhole (Lists IsPairOf) numbers_of_pairs (map view l.values) (map view (drop l.value-index l.values)) l.lists l.place
