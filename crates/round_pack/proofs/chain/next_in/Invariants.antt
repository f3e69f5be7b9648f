use Rattle.std.proofs.Common.{length, suc, Some, None}
use Rattle.round_pack.specs.Chains.{IsSought}
use Rattle.round_pack.proofs.chain.next_in.Given as goal

abbrev pub invariant-loop-at : goal.invariant-loop-at
invariant-loop-at l = IsSought (length l.heads) l.b l.slots l.place l.next l.at

abbrev pub decreases-loop-at : goal.decreases-loop-at
decreases-loop-at l = elim l.at [ Some place ↦ suc place | None ↦ 0 ]
