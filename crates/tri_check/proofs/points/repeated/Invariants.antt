use Rattle.std.proofs.Common.{◌≢◌, ℕ, ◌<◌, length}
use Rattle.tri_theory.specs.Points.{point}
use Rattle.tri_check.proofs.points.repeated.Given as goal

abbrev pub invariant-loop-i : goal.invariant-loop-i
invariant-loop-i l = (k j : ℕ) → k < l.i → k < j → j < length l.points → point l.points k ≢ point l.points j
