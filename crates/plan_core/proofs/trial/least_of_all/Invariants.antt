use Rattle.std.proofs.Common.{◌≤◌, take}
use Rattle.std.specs.List.{AllZip}
use Rattle.plan_core.specs.Trials.{rounds_then}
use Rattle.plan_core.proofs.trial.least_of_all.Given as goal

-- a number for each track so far
abbrev pub invariant-loop-i : goal.invariant-loop-i
invariant-loop-i l = AllZip (λ track n. n ≤ rounds_then l.edges track) (take l.i l.tracks) l.least
