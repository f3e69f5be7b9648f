use Rattle.formula_parts.specs.Found.{AreFound, IsSwap}
use Rattle.formula_parts.proofs.flips.add_from.Given as goal

abbrev pub invariant-loop-j : goal.invariant-loop-j
invariant-loop-j l = AreFound (IsSwap l.inst.points l.segments) 4096 l.pairs.items l.i l.j
