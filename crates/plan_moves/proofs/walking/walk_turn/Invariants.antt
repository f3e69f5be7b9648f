use Rattle.std.proofs.Common.{◌≡◌}
use Rattle.plan_moves.proofs.Walked.{IsWalking}
use Rattle.plan_moves.proofs.walking.walk_turn.Given as goal

-- so many words are drawn, and the moves that they pick don't make the total lower
abbrev pub invariant-loop : goal.invariant-loop
invariant-loop g l = record {
  problem : l.walked.problem ≡ l.plan.problem;
  walking : IsWalking l.plan.problem.points l.plan.plan (g.R.Rng.stream l.initial.words) l.counter l.made l.walked.plan (g.R.Rng.stream l.words);
}
