use Rattle.std.proofs.Common.{length, suc, Some, None}
use Rattle.round_pack.specs.Chains.{IsWalked, bucket}
use Rattle.round_pack.proofs.chain.walk.Given as goal

abbrev pub invariant-loop-at : goal.invariant-loop-at
invariant-loop-at l = IsWalked (length l.heads) (bucket (length l.heads) l.low l.high) l.slots l.t l.at

abbrev pub decreases-loop-at : goal.decreases-loop-at
decreases-loop-at l = elim l.at [ Some place ↦ suc place | None ↦ 0 ]
