use Rattle.tri_check.proofs.KeyOrder.{Ascends}
use Rattle.tri_check.proofs.keys.ascend.Given as goal

abbrev pub invariant-loop-k : goal.invariant-loop-k
invariant-loop-k l = Ascends l.keys l.numbers l.k
