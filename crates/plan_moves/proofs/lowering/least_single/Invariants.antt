use Rattle.plan_law.specs.Plans.{lowers}
use Rattle.plan_moves.specs.Singles.{HasLeastSingle}
use Rattle.plan_moves.proofs.lowering.least_single.Given as goal

-- the least of the moves so far
abbrev pub invariant-loop-i : goal.invariant-loop-i
invariant-loop-i l = HasLeastSingle (lowers l.plan.problem.points l.plan.plan) l.moves l.i l.least
