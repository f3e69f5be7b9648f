use Rattle.std.proofs.Common.{◌≡◌, take}
use Rattle.formula_parts.specs.Lists.{edge_at}
use Rattle.flip_cnf.specs.Building.{leaving}
use Rattle.flip_cnf.proofs.build.changes.leave.Given as goal

abbrev pub invariant-loop-n : goal.invariant-loop-n
invariant-loop-n l = (l.clause ≡ leaving l.lists l.k l.t (edge_at l.lists.segments l.e) (take l.n l.lists.flips))
