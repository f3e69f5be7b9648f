use Rattle.std.proofs.Common.{◌≡◌, take}
use Rattle.flip_list_law.specs.FlipLists.{in_turn}
use Rattle.plan_core.proofs.swap.edges_in_turn.Given as goal

-- the rounds so far
abbrev pub invariant-loop-i : goal.invariant-loop-i
invariant-loop-i l = l.edges ≡ in_turn (take l.i l.rounds)
