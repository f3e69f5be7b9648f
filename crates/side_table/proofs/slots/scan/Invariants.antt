use Rattle.std.proofs.Common.{◌≢◌, ◌<◌, ℕ, get_or}
use Rattle.side_table.specs.declared.side.Side.{Side}
use Rattle.side_table.proofs.slots.scan.Given as goal

abbrev pub invariant-loop-i : goal.invariant-loop-i
invariant-loop-i l = (k : ℕ) (d : Side) → k < l.i → ((get_or l.slots k d).from ≢ l.u)
