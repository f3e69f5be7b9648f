use Rattle.plan_core.specs.Steps.{IsFollowed}
use Rattle.plan_core.proofs.Through.{IsThrough}
use Rattle.plan_core.proofs.follow.follow_all.Given as goal

abbrev pub invariant-loop-i : goal.invariant-loop-i
invariant-loop-i l = IsThrough (IsFollowed l.e) l.i l.initial.tracks l.tracks
