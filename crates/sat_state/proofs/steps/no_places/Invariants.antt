use Rattle.std.proofs.Common.{◌≡◌, ℕ, ◌≤◌, ◌-◌, None, length, get_or}
use Rattle.sat_state.proofs.steps.no_places.Given as goal

abbrev pub invariant-loop-made : goal.invariant-loop-made
invariant-loop-made l = record {
  within : length l.made.items ≤ l.count;
  empty : (v : ℕ) → get_or l.made.items v None ≡ None;
}

abbrev pub decreases-loop-made : goal.decreases-loop-made
decreases-loop-made l = l.count - length l.made.items
