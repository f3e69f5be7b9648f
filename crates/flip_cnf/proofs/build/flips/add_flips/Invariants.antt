use Rattle.flip_cnf.specs.Building.{asked}
use Rattle.formula_parts.proofs.Appending.{Upto}
use Rattle.flip_cnf.proofs.build.flips.add_flips.Given as goal

abbrev pub invariant-loop-n : goal.invariant-loop-n
invariant-loop-n l = Upto (asked l.lists l.k l.t) l.lists.flips l.initial.cnf l.n l.cnf
