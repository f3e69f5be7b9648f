use Rattle.tri_check.specs.Stages.{IsEnd}
use Rattle.tri_check.proofs.Searches.{all_more}
use Rattle.tri_check.proofs.table.all_are_ends.Goals as goal

pub loop-p-preserved : goal.loop-p-preserved
loop-p-preserved c = all_more (λ p. IsEnd c.args.edges.now p) c.loop-p.p c.loop-p.invariant (c.is_end.ensures c.if-not-is_end.false)
