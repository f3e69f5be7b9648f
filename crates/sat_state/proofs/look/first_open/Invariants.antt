use Rattle.std.proofs.Common.{◌≡◌, take, []}
use Rattle.log_law.specs.Units.{remaining}
use Rattle.log_law.specs.Trails.{literals}
use Rattle.sat_state.proofs.look.first_open.Given as goal

abbrev pub invariant-loop-i : goal.invariant-loop-i
invariant-loop-i l = (remaining (literals l.steps.steps) (take l.i l.clause) ≡ [])
