use Rattle.std.proofs.Common.{◌≡◌, ℕ, ◌<◌, ◌≤◌, List, length, take}
use Rattle.std.specs.Prelude.{All}
use Rattle.sat_state.specs.Tables.{slots, enlisted}
use Rattle.sat_state.proofs.uses.strike.Given as goal

abbrev pub invariant-loop-left : goal.invariant-loop-left
invariant-loop-left l = record {
  within : l.left ≤ length l.clause;
  struck : (before : List (List ℕ)) → (number : ℕ) → All (λ s. s < length before) (slots l.clause) → l.fn.uses ≡ enlisted before (take l.count (slots l.clause)) number → l.uses ≡ enlisted before (take l.left (slots l.clause)) number;
}

abbrev pub decreases-loop-left : goal.decreases-loop-left
decreases-loop-left l = l.left
