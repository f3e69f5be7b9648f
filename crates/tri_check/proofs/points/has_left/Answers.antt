use Rattle.tri_theory.specs.Points.{IsLeft}
use Rattle.tri_check.proofs.Searches.{refuted, none_more}
use Rattle.tri_check.proofs.points.has_left.Goals as goal

pub loop-p-preserved : goal.loop-p-preserved
loop-p-preserved c = none_more (IsLeft c.args.points.now c.args.a c.args.b) c.loop-p.p c.loop-p.invariant (refuted _ _ c.is_left.ensures c.if-is_left.false)
