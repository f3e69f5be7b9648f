use Rattle.std.proofs.Common.{ℕ, ◌<◌}
use Rattle.tri_check.specs.Stages.{IsApart}
use Rattle.tri_check.proofs.network.is_empty.Given as goal

abbrev pub invariant-loop-p : goal.invariant-loop-p
invariant-loop-p l = (k : ℕ) → k < l.p → IsApart l.points l.a l.b l.c k
