use Rattle.std.proofs.Common.{ℕ, ◌<◌}
use Rattle.geo_orient.specs.Reach.{IsInReach}
use Rattle.tri_theory.specs.Points.{point}
use Rattle.tri_check.proofs.points.out_of_reach.Given as goal

abbrev pub invariant-loop-i : goal.invariant-loop-i
invariant-loop-i l = (k : ℕ) → k < l.i → IsInReach (point l.points k)
