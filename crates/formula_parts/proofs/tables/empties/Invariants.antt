use Rattle.std.proofs.Common.{length}
use Rattle.formula_parts.specs.Tables.{IsEmptyOfPoints, IsTableUpto}
use Rattle.formula_parts.proofs.tables.empties.Given as goal

abbrev pub invariant-loop-i : goal.invariant-loop-i
invariant-loop-i l = IsTableUpto (IsEmptyOfPoints l.inst.points) (length l.inst.points) l.table.items l.i
