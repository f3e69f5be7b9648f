use Rattle.std.proofs.Common.{◌≡◌, take}
use Rattle.plan_moves.proofs.greedy.listed.Given as goal

-- the edges so far
abbrev pub invariant-loop-i : goal.invariant-loop-i
invariant-loop-i l = l.list ≡ take l.i l.edges
