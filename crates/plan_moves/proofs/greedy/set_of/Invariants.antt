use Rattle.std.proofs.Common.{take}
use Rattle.plan_moves.specs.Rounds.{HaveSameMembers}
use Rattle.plan_moves.proofs.greedy.set_of.Given as goal

-- the edges so far
abbrev pub invariant-loop-e : goal.invariant-loop-e
invariant-loop-e l = HaveSameMembers l.edges (take l.e-index l.items)
