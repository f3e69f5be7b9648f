use Rattle.std.proofs.Common.{◌≡◌}
use Rattle.sat_search.proofs.left.clause_of.Given as goal

abbrev pub invariant-loop-l : goal.invariant-loop-l
invariant-loop-l l = (l.clause ≡ l.yielded)
