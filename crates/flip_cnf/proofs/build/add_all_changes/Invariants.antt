use Rattle.std.specs.List.{range_with_len}
use Rattle.formula_law.specs.Formula.{change_clauses, there, made}
use Rattle.formula_parts.proofs.Appending.{Upto}
use Rattle.flip_cnf.proofs.build.add_all_changes.Given as goal

abbrev pub invariant-loop-t : goal.invariant-loop-t
invariant-loop-t l = Upto (change_clauses l.lists (there l.lists) (made l.lists l.k)) (range_with_len 0 l.k) l.initial.cnf l.t l.cnf
