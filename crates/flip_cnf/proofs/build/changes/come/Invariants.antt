use Rattle.std.proofs.Common.{◌≡◌, take}
use Rattle.formula_parts.specs.Lists.{edge_at}
use Rattle.flip_cnf.specs.Building.{coming}
use Rattle.flip_cnf.proofs.build.changes.come.Given as goal

abbrev pub invariant-loop-n : goal.invariant-loop-n
invariant-loop-n l = (l.clause ≡ coming l.lists l.k l.t (edge_at l.lists.segments l.e) (take l.n l.lists.flips))
