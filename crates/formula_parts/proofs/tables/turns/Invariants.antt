use Rattle.std.proofs.Common.{length}
use Rattle.tri_theory.specs.Points.{IsLeft}
use Rattle.formula_parts.specs.Tables.{IsTableUpto}
use Rattle.formula_parts.proofs.tables.turns.Given as goal

abbrev pub invariant-loop-i : goal.invariant-loop-i
invariant-loop-i l = IsTableUpto (IsLeft l.inst.points) (length l.inst.points) l.table.items l.i
