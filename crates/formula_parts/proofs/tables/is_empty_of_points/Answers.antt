use Rattle.formula_parts.specs.Tables.{IsApart}
use Rattle.tri_check.proofs.Searches.{all_more}
use Rattle.formula_parts.proofs.tables.is_empty_of_points.Goals as goal

pub loop-p-preserved : goal.loop-p-preserved
loop-p-preserved c = all_more (IsApart c.args.inst.now.points c.args.a c.args.b c.args.c) c.loop-p.p c.loop-p.invariant (c.is_apart.ensures.0 c.if-not-is_apart.false)
