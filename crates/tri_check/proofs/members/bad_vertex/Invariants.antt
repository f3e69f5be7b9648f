use Rattle.std.proofs.Common.{ℕ, ◌<◌}
use Rattle.tri_check.specs.Stages.{NamesPoints, pair_at}
use Rattle.tri_check.proofs.members.bad_vertex.Given as goal

abbrev pub invariant-loop-p : goal.invariant-loop-p
invariant-loop-p l = (k : ℕ) → k < l.p → NamesPoints l.points (pair_at l.pairs k)
