use Rattle.std.proofs.Common.{◌≡◌, ℕ, ◌<◌, length}
use Rattle.planar_law.specs.Chains.{link}
use Rattle.tri_check.proofs.keys.all_stand.Given as goal

abbrev pub invariant-loop-i : goal.invariant-loop-i
invariant-loop-i l = ((k : ℕ) → k < l.i → link l.ranks k < length l.order) × ((k : ℕ) → k < l.i → link l.order (link l.ranks k) ≡ k)
