use Rattle.std.proofs.Common.{ℕ, ◌+◌, ◌<◌, length}
use Rattle.tri_theory.specs.Points.{IsLeft}
use Rattle.planar_law.specs.Chains.{link}
use Rattle.tri_check.proofs.hull.turns.Given as goal

abbrev pub invariant-loop-j : goal.invariant-loop-j
invariant-loop-j l = (k : ℕ) → k < l.j → k + 2 < length l.chain → (IsLeft l.points (link l.chain (k + 1)) (link l.chain k) (link l.chain (k + 2)) → ⊥)
