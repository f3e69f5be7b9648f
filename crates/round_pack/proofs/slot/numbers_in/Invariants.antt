use Rattle.std.proofs.Common.{◌≡◌, take}
use Rattle.round_pack.specs.Slots.{numbers_in}
use Rattle.round_pack.proofs.slot.numbers_in.Given as goal

abbrev pub invariant-loop-i : goal.invariant-loop-i
invariant-loop-i l = l.numbers.items ≡ numbers_in (take l.i l.slots)
