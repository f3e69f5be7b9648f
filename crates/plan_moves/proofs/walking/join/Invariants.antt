use Rattle.std.proofs.Common.{◌≡◌, ◌++◌, take}
use Rattle.plan_moves.proofs.walking.join.Given as goal

-- the edges so far
abbrev pub invariant-loop-e : goal.invariant-loop-e
invariant-loop-e l = l.edges ≡ l.initial.edges ++ take l.e-index l.e-items
