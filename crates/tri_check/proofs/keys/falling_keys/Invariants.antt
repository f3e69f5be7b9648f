use Rattle.tri_check.proofs.KeyOrder.{AreFirst, negative}
use Rattle.tri_check.proofs.keys.falling_keys.Given as goal

abbrev pub invariant-loop-i : goal.invariant-loop-i
invariant-loop-i l = AreFirst l.points l.keys.items negative l.i
