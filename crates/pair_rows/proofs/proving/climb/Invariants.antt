use Rattle.std.proofs.Common.{◌≤◌, ◌-◌}
use Rattle.bound_law.specs.Bounds.{input_at}
use Rattle.pair_rows.specs.Tries.{IsBound}
use Rattle.pair_rows.proofs.proving.climb.Given as goal

abbrev pub invariant-loop-bound : goal.invariant-loop-bound
invariant-loop-bound l = record {
  rounds : l.bound.lower ≤ 400_000;
  bound : IsBound l.inst.points l.frame (input_at l.inst.inputs l.i) (input_at l.inst.inputs l.j) l.budget l.bound.lower l.bound.evidence;
}

abbrev pub decreases-loop-bound : goal.decreases-loop-bound
decreases-loop-bound l = 400_001 - l.bound.lower
