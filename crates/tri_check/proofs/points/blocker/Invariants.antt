use Rattle.std.proofs.Common.{ℕ, ◌<◌}
use Rattle.tri_theory.specs.Points.{Separates}
use Rattle.tri_check.proofs.points.blocker.Given as goal

abbrev pub invariant-loop-p : goal.invariant-loop-p
invariant-loop-p l = (k : ℕ) → k < l.p → ¬ Separates l.points l.a l.b k
