use Rattle.formula_parts.proofs.Appending.{Upto}
use Rattle.pruned_cnf.specs.Groups.{crossing_clause}
use Rattle.pruned_cnf.proofs.writing.crossings.add_crossings.Given as goal

abbrev pub invariant-loop-n : goal.invariant-loop-n
invariant-loop-n l = Upto (crossing_clause l.numbering l.t) l.numbering.frame.crossings l.initial.cnf l.n l.cnf
