use Rattle.flip_cnf.specs.Building.{told_by}
use Rattle.std.proofs.Common.{[], ◌∷◌}
use Rattle.formula_parts.proofs.Appending.{Upto}
use Rattle.flip_cnf.proofs.build.layers.add_layer.Given as goal

abbrev pub invariant-loop-n : goal.invariant-loop-n
invariant-loop-n l = Upto (λ e. told_by l.lists l.t l.edges.edges e ∷ []) l.lists.segments l.initial.cnf l.n l.cnf
