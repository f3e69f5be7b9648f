use Rattle.std.proofs.Common.{◌≡◌, ◌++◌, take}
use Rattle.plan_law.specs.Plans.{last_moves}
use Rattle.plan_core.specs.HeldPlans.{lists_of}
use Rattle.plan_core.proofs.moves.add_lasts.Given as goal

-- the tracks so far
abbrev pub invariant-loop-i : goal.invariant-loop-i
invariant-loop-i l = l.moves ≡ l.initial.moves ++ last_moves (lists_of (take l.i l.tracks))
