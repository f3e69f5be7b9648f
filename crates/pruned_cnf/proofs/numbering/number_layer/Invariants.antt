use Rattle.std.proofs.Common.{◌≡◌, ◌+◌, ◌++◌, length, take, map}
use Rattle.std.specs.List.{filter}
use Rattle.pruned_cnf.specs.Queries.{live_in, place_number}
use Rattle.pruned_cnf.specs.Numbered.{places_before}
use Rattle.pruned_cnf.proofs.numbering.number_layer.Given as goal

abbrev pub invariant-loop-n : goal.invariant-loop-n
invariant-loop-n l = record {
  entries : l.numbers.entries.items ≡ l.initial.numbers.entries.items ++ map (place_number l.query l.t) (take l.n l.query.frame.segments);
  last : l.numbers.last ≡ places_before l.query l.t + length (filter (live_in l.query l.t) (take l.n l.query.frame.segments));
}
