use Rattle.std.proofs.Common.{ℕ, ◌<◌}
use Rattle.tri_theory.specs.Triangulations.{IsEmptyTriangle}
use Rattle.tri_check.proofs.network.has_triangle.Given as goal

abbrev pub invariant-loop-c : goal.invariant-loop-c
invariant-loop-c l = (k : ℕ) → k < l.c → ¬ IsEmptyTriangle l.points l.edges l.a l.b k
