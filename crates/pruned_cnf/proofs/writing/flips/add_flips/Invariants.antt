use Rattle.formula_parts.proofs.Appending.{Upto}
use Rattle.pruned_cnf.specs.Groups.{asked}
use Rattle.pruned_cnf.proofs.writing.flips.add_flips.Given as goal

abbrev pub invariant-loop-n : goal.invariant-loop-n
invariant-loop-n l = Upto (asked l.numbering l.t) l.numbering.frame.flips l.initial.cnf l.n l.cnf
