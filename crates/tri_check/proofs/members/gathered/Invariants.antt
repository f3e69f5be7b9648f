use Rattle.tri_check.specs.Stages.{AreGathered}
use Rattle.tri_check.proofs.members.gathered.Given as goal

abbrev pub invariant-loop-p : goal.invariant-loop-p
invariant-loop-p l = AreGathered l.points l.pairs l.items.items l.p
