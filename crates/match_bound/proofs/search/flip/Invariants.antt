use Rattle.match_bound.specs.Searches.{label_at}
use Rattle.match_bound.proofs.Flips.{Flipping}
use Rattle.match_bound.proofs.search.flip.Given as goal

abbrev pub invariant-loop-hole : goal.invariant-loop-hole
invariant-loop-hole l = Flipping l.labels l.end l.target l.initial.image l.image l.hole

abbrev pub decreases-loop-hole : goal.decreases-loop-hole
decreases-loop-hole l = (label_at l.labels l.hole).depth
