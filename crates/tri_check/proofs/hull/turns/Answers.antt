use Rattle.std.proofs.Common.{◌+◌, ◌<◌, length}
use Rattle.tri_theory.specs.Points.{IsLeft}
use Rattle.planar_law.specs.Chains.{link}
use Rattle.tri_check.proofs.Searches.{all_more}
use Rattle.tri_check.proofs.hull.turns.Goals as goal

pub loop-j-preserved : goal.loop-j-preserved
loop-j-preserved c = all_more (λ k. k + 2 < length c.args.chain.now → IsLeft c.args.points.now (link c.args.chain.now (k + 1)) (link c.args.chain.now k) (link c.args.chain.now (k + 2)) → ⊥) c.loop-j.j c.loop-j.invariant (c.turns_at.ensures c.if-not-turns_at.false)
