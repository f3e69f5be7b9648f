use Rattle.std.proofs.Common.{drop}
use Rattle.plan_moves.proofs.GreedyRounds.{Going}
use Rattle.plan_moves.proofs.greedy.greedy_round.Given as goal

-- the edges so far are taken or passed over
abbrev pub invariant-loop-i : goal.invariant-loop-i
invariant-loop-i l = Going l.mesh.points l.mesh.edges l.centre.edges l.taken (drop l.i l.candidates)
