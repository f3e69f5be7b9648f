use Rattle.std.proofs.Common.{All, take}
use Rattle.plan_core.specs.Steps.{IsLed}
use Rattle.plan_core.proofs.plan.group_all.Given as goal

abbrev pub invariant-loop-i : goal.invariant-loop-i
invariant-loop-i l = All IsLed (take l.i l.tracks)
