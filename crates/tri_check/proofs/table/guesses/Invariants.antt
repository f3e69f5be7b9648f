use Rattle.std.proofs.Common.{◌≡◌, length}
use Rattle.tri_check.proofs.table.guesses.Given as goal

abbrev pub invariant-loop-i : goal.invariant-loop-i
invariant-loop-i l = length l.table.items ≡ l.i
