use Rattle.std.proofs.Common.{◌≡◌}
use Rattle.pruned_cnf.specs.Numbered.{layers_numbers, places_before}
use Rattle.pruned_cnf.proofs.numbering.number_places.Given as goal

abbrev pub invariant-loop-t : goal.invariant-loop-t
invariant-loop-t l = record {
  entries : l.numbers.entries.items ≡ layers_numbers l.query l.t;
  last : l.numbers.last ≡ places_before l.query l.t;
}
