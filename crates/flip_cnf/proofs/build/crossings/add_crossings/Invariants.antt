use Rattle.std.proofs.Common.{[], ◌∷◌}
use Rattle.flip_cnf.specs.Building.{not_both}
use Rattle.formula_parts.proofs.Appending.{Upto}
use Rattle.flip_cnf.proofs.build.crossings.add_crossings.Given as goal

abbrev pub invariant-loop-n : goal.invariant-loop-n
invariant-loop-n l = Upto (λ g. not_both l.lists l.t g ∷ []) l.lists.crossings l.initial.cnf l.n l.cnf
