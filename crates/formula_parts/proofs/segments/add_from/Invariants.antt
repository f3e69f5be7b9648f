use Rattle.tri_theory.specs.Triangulations.{IsSegment}
use Rattle.formula_parts.specs.Found.{AreFound}
use Rattle.formula_parts.proofs.segments.add_from.Given as goal

abbrev pub invariant-loop-b : goal.invariant-loop-b
invariant-loop-b l = AreFound (IsSegment l.inst.points) 64 l.segments.items l.a l.b
