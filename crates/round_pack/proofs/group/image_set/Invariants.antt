use Rattle.round_pack.specs.Groups.{IsImageSet}
use Rattle.round_pack.proofs.group.image_set.Given as goal

abbrev pub invariant-loop-i : goal.invariant-loop-i
invariant-loop-i l = IsImageSet l.set l.flips l.numbers l.wanted l.i
