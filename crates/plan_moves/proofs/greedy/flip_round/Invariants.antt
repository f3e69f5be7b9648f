use Rattle.std.proofs.Common.{◌≡◌, take}
use Rattle.tri_theory.specs.Rounds.{IsRound}
use Rattle.plan_moves.proofs.greedy.flip_round.Given as goal

-- the edges so far are flipped
abbrev pub invariant-loop-e : goal.invariant-loop-e
invariant-loop-e l = record {
  points : l.mesh.points ≡ l.initial.mesh.points;
  round : IsRound l.initial.mesh.points l.initial.mesh.edges (take l.e-index l.e-items) l.mesh.edges;
}
