use Rattle.std.proofs.Common.{◌≡◌, map, take}
use Rattle.std.specs.List.{filter}
use Rattle.log_law.specs.Clauses.{listed}
use Rattle.formula_law.specs.Formula.{made}
use Rattle.flip_cnf.proofs.decode.round.Given as goal

abbrev pub invariant-loop-n : goal.invariant-loop-n
invariant-loop-n l = (l.edges ≡ map (λ g. g.0) (filter (λ g. listed l.truth (made l.lists l.k l.t g)) (take l.n l.lists.flips)))
