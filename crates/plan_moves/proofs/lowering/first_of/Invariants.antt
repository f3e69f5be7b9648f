use Rattle.std.proofs.Common.{◌≡◌, drop}
use Rattle.std.specs.Prelude.{find}
use Rattle.plan_law.specs.Plans.{lowers}
use Rattle.plan_moves.proofs.lowering.first_of.Given as goal

-- none of those so far lowers the total
abbrev pub invariant-loop-i : goal.invariant-loop-i
invariant-loop-i l = find (lowers l.plan.problem.points l.plan.plan) l.moves ≡ find (lowers l.plan.problem.points l.plan.plan) (drop l.i l.moves)
