use Rattle.std.proofs.Common.{ℕ, ◌<◌, length}
use Rattle.planar_law.specs.Chains.{link}
use Rattle.tri_check.proofs.hull.are_named.Given as goal

abbrev pub invariant-loop-j : goal.invariant-loop-j
invariant-loop-j l = (k : ℕ) → k < l.j → link l.chain k < length l.points
