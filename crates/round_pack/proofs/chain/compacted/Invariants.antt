use Rattle.std.proofs.Common.{◌≡◌, take}
use Rattle.round_pack.specs.Slots.{flips_in, numbers_in}
use Rattle.round_pack.specs.Chains.{AreChained}
use Rattle.round_pack.proofs.chain.compacted.Given as goal

abbrev pub invariant-loop-i : goal.invariant-loop-i
invariant-loop-i l = record { chained : AreChained l.heads.items l.before.items l.kept.items; flips : flips_in l.kept.items ≡ flips_in (take l.i l.slots); numbers : numbers_in l.kept.items ≡ numbers_in (take l.i l.slots) }
