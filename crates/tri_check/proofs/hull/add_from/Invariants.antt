use Rattle.tri_check.specs.Hulls.{IsHullBelow}
use Rattle.tri_check.proofs.hull.add_from.Given as goal

abbrev pub invariant-loop-b : goal.invariant-loop-b
invariant-loop-b l = IsHullBelow l.points l.edges l.a l.b
