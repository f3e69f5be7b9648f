use Rattle.std.proofs.Common.{◌≡◌, ◌+◌, ℕ, None, length, get_or}
use Rattle.side_table.proofs.chain.no_heads.Given as goal

abbrev pub invariant-loop-left : goal.invariant-loop-left
invariant-loop-left l = record { long : length l.heads.items + l.left ≡ l.count; none : (b : ℕ) → get_or l.heads.items b None ≡ None }

abbrev pub decreases-loop-left : goal.decreases-loop-left
decreases-loop-left l = l.left
