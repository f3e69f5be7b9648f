use Rattle.std.proofs.Common.{◌≡◌}
use Rattle.plan_law.specs.Plans.{plan_total}
use Rattle.plan_moves.specs.Ways.{IsBegun}
use Rattle.plan_moves.proofs.settling.settle.Given as goal

-- the moves made so far lead to the plan
abbrev pub invariant-loop-made : goal.invariant-loop-made
invariant-loop-made l = record {
  problem : l.plan.problem ≡ l.initial.plan.problem;
  begun : IsBegun l.initial.plan.problem.points l.initial.plan.plan l.made l.plan.plan;
}

abbrev pub decreases-loop-made : goal.decreases-loop-made
decreases-loop-made l = plan_total l.plan.plan
