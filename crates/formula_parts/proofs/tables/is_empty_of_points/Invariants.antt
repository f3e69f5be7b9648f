use Rattle.std.proofs.Common.{ℕ, ◌<◌}
use Rattle.formula_parts.specs.Tables.{IsApart}
use Rattle.formula_parts.proofs.tables.is_empty_of_points.Given as goal

abbrev pub invariant-loop-p : goal.invariant-loop-p
invariant-loop-p l = (k : ℕ) → k < l.p → IsApart l.inst.points l.a l.b l.c k
