use Rattle.std.proofs.Common.{◌≡◌, take, length}
use Rattle.log_law.specs.Units.{remaining}
use Rattle.log_law.specs.Trails.{literals}
use Rattle.sat_state.proofs.count.count_open.Given as goal

abbrev pub invariant-loop-i : goal.invariant-loop-i
invariant-loop-i l = (l.open ≡ length (remaining (literals l.steps.steps) (take l.i l.clause)))
