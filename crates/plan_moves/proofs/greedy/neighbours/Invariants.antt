use Rattle.std.proofs.Common.{take}
use Rattle.plan_moves.specs.Rounds.{HasEachNeighbour}
use Rattle.plan_moves.proofs.greedy.neighbours.Given as goal

-- the sides at the edges so far
abbrev pub invariant-loop-e : goal.invariant-loop-e
invariant-loop-e l = HasEachNeighbour l.mesh.points l.mesh.edges (take l.e-index l.e-items) l.sides.items
