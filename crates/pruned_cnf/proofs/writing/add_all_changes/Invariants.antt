use Rattle.std.specs.List.{range_with_len}
use Rattle.formula_parts.proofs.Appending.{Upto}
use Rattle.pruned_cnf.specs.Groups.{changes_in}
use Rattle.pruned_cnf.proofs.writing.add_all_changes.Given as goal

abbrev pub invariant-loop-t : goal.invariant-loop-t
invariant-loop-t l = Upto (changes_in l.numbering) (range_with_len 0 l.numbering.rounds) l.initial.cnf l.t l.cnf
