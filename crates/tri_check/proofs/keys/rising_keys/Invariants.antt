use Rattle.planar_law.specs.Chains.{key}
use Rattle.tri_check.proofs.KeyOrder.{AreFirst}
use Rattle.tri_check.proofs.keys.rising_keys.Given as goal

abbrev pub invariant-loop-i : goal.invariant-loop-i
invariant-loop-i l = AreFirst l.points l.keys.items key l.i
