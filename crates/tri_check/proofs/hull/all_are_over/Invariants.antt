use Rattle.std.proofs.Common.{ℕ, ◌<◌}
use Rattle.planar_law.specs.Chains.{IsOver}
use Rattle.tri_check.proofs.hull.all_are_over.Given as goal

abbrev pub invariant-loop-t : goal.invariant-loop-t
invariant-loop-t l = (k : ℕ) → k < l.t → (j : ℕ) × IsOver l.points l.keys l.chain k j
