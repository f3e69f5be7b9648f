use Rattle.std.proofs.Common.{ℕ}
use Rattle.planar_law.specs.Chains.{IsOver}
use Rattle.tri_check.proofs.Searches.{all_more}
use Rattle.tri_check.proofs.hull.all_are_over.Goals as goal

pub loop-t-preserved : goal.loop-t-preserved
loop-t-preserved c = all_more (λ t. (j : ℕ) × IsOver c.args.points.now c.args.keys.now c.args.chain.now t j) c.loop-t.t c.loop-t.invariant (c.number_at.result, c.is_over.ensures c.if-not-is_over.false)
