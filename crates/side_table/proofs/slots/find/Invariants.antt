use Rattle.std.proofs.Common.{length, suc, Some, None}
use Rattle.side_table.specs.Slots.{bucket, keys_of, IsWalked}
use Rattle.side_table.proofs.slots.find.Given as goal

abbrev pub invariant-loop-at : goal.invariant-loop-at
invariant-loop-at l = IsWalked (bucket (length l.heads) l.u l.v) (keys_of (length l.heads) l.slots) l.slots l.u l.v l.at

abbrev pub decreases-loop-at : goal.decreases-loop-at
decreases-loop-at l = elim l.at [ Some place ↦ suc place | None ↦ 0 ]
