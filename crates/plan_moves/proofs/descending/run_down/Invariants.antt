use Rattle.std.proofs.Common.{◌≡◌}
use Rattle.plan_law.specs.Improvers.{weight_of}
use Rattle.plan_moves.specs.Rounds.{HasEachLower, run}
use Rattle.plan_moves.proofs.Descents.{all_preceded}
use Rattle.plan_moves.proofs.descending.run_down.Given as goal

-- the rounds made so far, and then those of a descent from here
abbrev pub invariant-loop-rounds : goal.invariant-loop-rounds
invariant-loop-rounds l = record {
  points : l.mesh.points ≡ l.initial.mesh.points;
  candidates : HasEachLower l.mesh.points l.centre.edges l.mesh.edges l.candidates;
  rest : run l.initial.mesh.points l.centre.edges l.initial.mesh.edges ≡ all_preceded l.rounds (run l.initial.mesh.points l.centre.edges l.mesh.edges);
}

abbrev pub decreases-loop-rounds : goal.decreases-loop-rounds
decreases-loop-rounds l = weight_of l.mesh.points l.centre.edges l.mesh.edges
