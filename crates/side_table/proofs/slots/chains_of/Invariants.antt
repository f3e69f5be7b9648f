use Rattle.std.proofs.Common.{◌≡◌, ◌<◌, length, take}
use Rattle.side_table.specs.Chains.{AreChained}
use Rattle.side_table.specs.Slots.{keys_of}
use Rattle.side_table.proofs.slots.chains_of.Given as goal

abbrev pub invariant-loop-i : goal.invariant-loop-i
invariant-loop-i l = record { buckets : 0 < length l.heads.items; chained : AreChained l.heads.items l.before.items (keys_of (length l.heads.items) l.slots.items); same : l.slots.items ≡ take l.i l.sides }
