use Rattle.std.proofs.Common.{length}
use Rattle.match_bound.specs.Searches.{open_count, IsTree, IsNearest}
use Rattle.match_bound.specs.Tables.{weight}
use Rattle.match_bound.proofs.search.search.Given as goal

abbrev pub invariant-loop-near : goal.invariant-loop-near
invariant-loop-near l = record {
  tree : IsTree (weight l.w) (length l.w) l.target l.image l.u l.v l.labels l.reach;
  nearest : IsNearest l.labels l.near;
}

abbrev pub decreases-loop-near : goal.decreases-loop-near
decreases-loop-near l = open_count l.labels
