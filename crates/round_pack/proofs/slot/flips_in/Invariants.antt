use Rattle.std.proofs.Common.{◌≡◌, take}
use Rattle.round_pack.specs.Slots.{flips_in}
use Rattle.round_pack.proofs.slot.flips_in.Given as goal

abbrev pub invariant-loop-i : goal.invariant-loop-i
invariant-loop-i l = l.flips.items ≡ flips_in (take l.i l.slots)
