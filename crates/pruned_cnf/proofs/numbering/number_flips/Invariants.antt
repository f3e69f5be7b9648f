use Rattle.std.proofs.Common.{◌≡◌}
use Rattle.pruned_cnf.specs.Numbered.{rounds_numbers, flips_before}
use Rattle.pruned_cnf.proofs.numbering.number_flips.Given as goal

abbrev pub invariant-loop-t : goal.invariant-loop-t
invariant-loop-t l = record {
  entries : l.numbers.entries.items ≡ rounds_numbers l.query l.t;
  last : l.numbers.last ≡ flips_before l.query l.t;
}
