use Rattle.std.proofs.Common.{ℕ, ◌<◌}
use Rattle.tri_check.specs.Stages.{IsLoop}
use Rattle.tri_check.proofs.members.first_loop.Given as goal

abbrev pub invariant-loop-p : goal.invariant-loop-p
invariant-loop-p l = (k : ℕ) → k < l.p → ¬ IsLoop l.pairs k
