use Rattle.std.proofs.Common.{◌≡◌, ℕ, ◌+◌, take, get_or}
use Rattle.sat_state.specs.Tables.{times}
use Rattle.sat_state.proofs.count.count_down.Given as goal

abbrev pub invariant-loop-k : goal.invariant-loop-k
invariant-loop-k l = (c : ℕ) → get_or l.fn.left c 0 ≡ get_or l.left c 0 + times c (take l.k l.list)
