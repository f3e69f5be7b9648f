use Rattle.std.proofs.Common.{[], ◌∷◌}
use Rattle.formula_parts.specs.Building.{asks}
use Rattle.formula_parts.proofs.Appending.{Upto}
use Rattle.formula_parts.proofs.clauses.add_asked.Given as goal

abbrev pub invariant-loop-i : goal.invariant-loop-i
invariant-loop-i l = Upto (λ demand. asks l.unmade demand ∷ []) l.lits l.initial.cnf l.i l.cnf
