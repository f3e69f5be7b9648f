use Rattle.std.proofs.Common.{◌≡◌, ◌+◌}
use Rattle.crossing_law.specs.Digits.{digits}
use Rattle.cross_bound.proofs.count.digits.Given as goal

-- the digits taken off so far, and those of the rest
abbrev pub invariant-loop-rest : goal.invariant-loop-rest
invariant-loop-rest l = digits l.n ≡ l.digits + digits l.rest

abbrev pub decreases-loop-rest : goal.decreases-loop-rest
decreases-loop-rest l = l.rest
