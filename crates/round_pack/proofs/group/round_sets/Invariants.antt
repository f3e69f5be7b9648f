use Rattle.round_pack.specs.Groups.{AreRoundSets}
use Rattle.round_pack.proofs.group.round_sets.Given as goal

abbrev pub invariant-loop-i : goal.invariant-loop-i
invariant-loop-i l = AreRoundSets l.sets.items l.flips l.numbers l.i
