use Rattle.std.proofs.Common.{ℕ, ◌<◌}
use Rattle.tri_theory.specs.Points.{IsLeft}
use Rattle.tri_check.proofs.points.has_left.Given as goal

abbrev pub invariant-loop-p : goal.invariant-loop-p
invariant-loop-p l = (k : ℕ) → k < l.p → ¬ IsLeft l.points l.a l.b k
