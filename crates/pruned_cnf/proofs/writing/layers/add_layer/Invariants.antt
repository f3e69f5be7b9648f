use Rattle.std.proofs.Common.{true, [], ◌∷◌}
use Rattle.formula_parts.proofs.Appending.{Upto}
use Rattle.pruned_cnf.specs.Groups.{place_literal}
use Rattle.pruned_cnf.proofs.writing.layers.add_layer.Given as goal

abbrev pub invariant-loop-i : goal.invariant-loop-i
invariant-loop-i l = Upto (λ e. place_literal l.numbering l.t e true ∷ []) l.edges.edges l.initial.cnf l.i l.cnf
