use Rattle.std.proofs.Common.{◌≡◌, take}
use Rattle.round_pack.specs.Groups.{AreAscendingSets}
use Rattle.round_pack.proofs.group.rounds_of.Given as goal

abbrev pub invariant-loop-i : goal.invariant-loop-i
invariant-loop-i l = record { same : l.rounds ≡ take l.i l.sets; ascending : AreAscendingSets l.sets l.i }
