use Rattle.std.proofs.Common.{subst, arith}
use Rattle.tri_check.specs.Stages.{AreGathered}
use Rattle.tri_check.proofs.Pairs.{gathered_begin}
use Rattle.tri_check.proofs.members.gathered.Goals as goal

pub loop-p-init : goal.loop-p-init
loop-p-init c = gathered_begin _ _ c.args.hull.now _ c.requires.hull c.in_ok-items.ensures

pub returns : goal.returns
returns c = subst (λ p. AreGathered c.args.points.now c.args.pairs.now c.loop-p.items.items p) (omega arith) c.loop-p.invariant
