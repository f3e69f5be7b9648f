use Rattle.std.proofs.Common.{◌≡◌, ◌+◌, ◌++◌, length, take, map}
use Rattle.std.specs.List.{filter}
use Rattle.pruned_cnf.specs.Queries.{is_live_flip_in, flip_number}
use Rattle.pruned_cnf.specs.Numbered.{flips_before}
use Rattle.pruned_cnf.proofs.numbering.number_round.Given as goal

abbrev pub invariant-loop-n : goal.invariant-loop-n
invariant-loop-n l = record {
  entries : l.numbers.entries.items ≡ l.initial.numbers.entries.items ++ map (flip_number l.query l.t) (take l.n l.query.frame.flips);
  last : l.numbers.last ≡ flips_before l.query l.t + length (filter (is_live_flip_in l.query l.t) (take l.n l.query.frame.flips));
}
