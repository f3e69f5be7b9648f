use Rattle.tri_theory.specs.Triangulations.{IsSegment}
use Rattle.formula_parts.specs.Found.{AreFound}
use Rattle.formula_parts.proofs.segments.segments.Given as goal

abbrev pub invariant-loop-a : goal.invariant-loop-a
invariant-loop-a l = AreFound (IsSegment l.inst.points) 64 l.found.items l.a 0
