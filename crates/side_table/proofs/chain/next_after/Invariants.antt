use Rattle.std.proofs.Common.{List, suc, Some, None}
use Rattle.side_table.specs.Chains.{Key, AreChained, IsSought}
use Rattle.side_table.proofs.chain.next_after.Given as goal

abbrev pub invariant-loop-at : goal.invariant-loop-at
invariant-loop-at l = (keys : List Key) → AreChained l.heads l.before keys → IsSought l.b keys l.place l.next l.at

abbrev pub decreases-loop-at : goal.decreases-loop-at
decreases-loop-at l = elim l.at [ Some place ↦ suc place | None ↦ 0 ]
