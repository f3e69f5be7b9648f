use Rattle.tri_check.specs.Stages.{HasFirst}
use Rattle.tri_check.proofs.members.set_of.Given as goal

abbrev pub invariant-loop-i : goal.invariant-loop-i
invariant-loop-i l = HasFirst l.items l.edges l.i
