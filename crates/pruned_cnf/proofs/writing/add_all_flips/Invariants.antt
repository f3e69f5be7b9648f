use Rattle.std.specs.List.{range_with_len}
use Rattle.formula_parts.proofs.Appending.{Upto}
use Rattle.pruned_cnf.specs.Groups.{flips_in}
use Rattle.pruned_cnf.proofs.writing.add_all_flips.Given as goal

abbrev pub invariant-loop-t : goal.invariant-loop-t
invariant-loop-t l = Upto (flips_in l.numbering) (range_with_len 0 l.numbering.rounds) l.initial.cnf l.t l.cnf
