use Rattle.std.proofs.Common.{◌≡◌, ◌+◌, sum, take}
use Rattle.tri_check.proofs.weights.owner.Given as goal

abbrev pub invariant-loop-t : goal.invariant-loop-t
invariant-loop-t l = l.c ≡ sum (take l.t l.weights) + l.left
