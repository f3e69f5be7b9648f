use Rattle.std.proofs.Common.{ℕ, ◌<◌}
use Rattle.tri_theory.specs.Points.{IsLeft}
use Rattle.tri_check.proofs.points.are_collinear.Given as goal

abbrev pub invariant-loop-c : goal.invariant-loop-c
invariant-loop-c l = (k : ℕ) → k < l.c → ¬ IsLeft l.points 0 1 k × ¬ IsLeft l.points 1 0 k
