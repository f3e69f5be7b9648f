use Rattle.std.proofs.Common.{ℕ, ◌<◌}
use Rattle.tri_check.specs.Faults.{IsWeight}
use Rattle.tri_check.specs.Stages.{weight_at}
use Rattle.tri_check.proofs.weights.out_of_range.Given as goal

abbrev pub invariant-loop-t : goal.invariant-loop-t
invariant-loop-t l = (k : ℕ) → k < l.t → IsWeight (weight_at l.weights k)
