use Rattle.std.proofs.Common.{◌≡◌, ℕ, ◌<◌}
use Rattle.tri_theory.specs.Points.{point}
use Rattle.tri_check.proofs.points.repeat_of.Given as goal

abbrev pub invariant-loop-j : goal.invariant-loop-j
invariant-loop-j l = (k : ℕ) → l.i < k → k < l.j → ¬ (point l.points l.i ≡ point l.points k)
