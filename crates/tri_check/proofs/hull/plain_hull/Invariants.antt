use Rattle.tri_check.specs.Hulls.{IsHullBelow}
use Rattle.tri_check.proofs.hull.plain_hull.Given as goal

abbrev pub invariant-loop-a : goal.invariant-loop-a
invariant-loop-a l = IsHullBelow l.points l.edges l.a 0
