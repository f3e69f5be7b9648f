use Rattle.flip_cnf.specs.Building.{changes}
use Rattle.formula_parts.proofs.Appending.{Upto}
use Rattle.flip_cnf.proofs.build.changes.add_changes.Given as goal

abbrev pub invariant-loop-e : goal.invariant-loop-e
invariant-loop-e l = Upto (changes l.lists l.k l.t) l.lists.segments l.initial.cnf l.e l.cnf
