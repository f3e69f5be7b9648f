use Rattle.std.proofs.Common.{◌≡◌}
use Rattle.sat_search.proofs.left.hints_of.Given as goal

abbrev pub invariant-loop-reason : goal.invariant-loop-reason
invariant-loop-reason l = (l.hints ≡ l.yielded)
