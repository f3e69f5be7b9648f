use Rattle.std.proofs.Common.{◌≡◌, ℕ, ◌≤◌, ◌-◌, [], length}
use Rattle.sat_state.specs.Tables.{uses_at}
use Rattle.sat_state.proofs.uses.no_uses.Given as goal

abbrev pub invariant-loop-alloc : goal.invariant-loop-alloc
invariant-loop-alloc l = record {
  within : length l.made.items ≤ l.count;
  empty : (s : ℕ) → uses_at l.made.items s ≡ [];
}

abbrev pub decreases-loop-alloc : goal.decreases-loop-alloc
decreases-loop-alloc l = l.count - length l.made.items
