use Rattle.tri_theory.specs.Points.{Separates}
use Rattle.tri_check.proofs.Searches.{refuted, none_more}
use Rattle.tri_check.proofs.points.blocker.Goals as goal

pub loop-p-preserved : goal.loop-p-preserved
loop-p-preserved c = none_more (Separates c.args.points.now c.args.a c.args.b) c.loop-p.p c.loop-p.invariant (refuted _ _ c.separates.ensures c.if-separates.false)
