use Rattle.std.proofs.Common.{ℕ, ◌<◌}
use Rattle.tri_check.specs.Stages.{IsEnd}
use Rattle.tri_check.proofs.table.all_are_ends.Given as goal

abbrev pub invariant-loop-p : goal.invariant-loop-p
invariant-loop-p l = (k : ℕ) → k < l.p → IsEnd l.edges k
