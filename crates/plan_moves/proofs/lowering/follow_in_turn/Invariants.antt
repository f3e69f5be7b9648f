use Rattle.std.proofs.Common.{◌≡◌, ◌≤◌, ◌+◌, length, drop}
use Rattle.plan_law.specs.Plans.{followed_all}
use Rattle.plan_moves.proofs.lowering.follow_in_turn.Given as goal

-- following what is left leads where following all does
abbrev pub invariant-loop-i : goal.invariant-loop-i
invariant-loop-i l = record {
  problem : l.plan.problem ≡ l.initial.plan.problem;
  room : length l.edges ≤ l.i + l.plan.spare;
  rest : followed_all l.initial.plan.problem.points l.initial.plan.plan l.edges ≡ followed_all l.initial.plan.problem.points l.plan.plan (drop l.i l.edges);
}
