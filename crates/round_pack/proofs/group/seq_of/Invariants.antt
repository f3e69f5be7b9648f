use Rattle.std.proofs.Common.{◌≡◌, take}
use Rattle.round_pack.proofs.group.seq_of.Given as goal

abbrev pub invariant-loop-i : goal.invariant-loop-i
invariant-loop-i l = l.seq ≡ take l.i l.set
