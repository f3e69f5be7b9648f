use Rattle.std.proofs.Common.{◌+◌}
use Rattle.std.specs.List.{range_with_len}
use Rattle.formula_law.specs.Formula.{crossing_clauses, there}
use Rattle.formula_parts.proofs.Appending.{Upto}
use Rattle.flip_cnf.proofs.build.add_all_crossings.Given as goal

abbrev pub invariant-loop-t : goal.invariant-loop-t
invariant-loop-t l = Upto (crossing_clauses l.lists (there l.lists)) (range_with_len 0 (l.k + 1)) l.initial.cnf l.t l.cnf
