use Rattle.std.proofs.Common.{◌≡◌, pos, replicate}
use Rattle.tri_check.proofs.raw.ones.Given as goal

abbrev pub invariant-loop : goal.invariant-loop
invariant-loop l = l.weights ≡ replicate l.counter (pos 1)
