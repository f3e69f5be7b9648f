use Rattle.formula_parts.specs.Found.{AreFound, IsCrossing}
use Rattle.formula_parts.proofs.crossings.crossings.Given as goal

abbrev pub invariant-loop-i : goal.invariant-loop-i
invariant-loop-i l = AreFound (IsCrossing l.inst.points l.segments) 4096 l.found.items l.i 0
