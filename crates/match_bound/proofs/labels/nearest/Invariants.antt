use Rattle.match_bound.specs.Searches.{NearestBefore}
use Rattle.match_bound.proofs.labels.nearest.Given as goal

abbrev pub invariant-loop-i : goal.invariant-loop-i
invariant-loop-i l = NearestBefore l.labels l.i l.found
