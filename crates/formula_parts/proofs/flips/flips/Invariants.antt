use Rattle.formula_parts.specs.Found.{AreFound, IsSwap}
use Rattle.formula_parts.proofs.flips.flips.Given as goal

abbrev pub invariant-loop-i : goal.invariant-loop-i
invariant-loop-i l = AreFound (IsSwap l.inst.points l.segments) 4096 l.found.items l.i 0
