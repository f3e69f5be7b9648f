use Rattle.std.proofs.Common.{◌≡◌, take}
use Rattle.tri_check.proofs.members.listed.Given as goal

abbrev pub invariant-loop-i : goal.invariant-loop-i
invariant-loop-i l = l.items.items ≡ take l.i l.hull
