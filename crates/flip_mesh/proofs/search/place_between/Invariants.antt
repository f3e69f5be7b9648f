use Rattle.std.proofs.Common.{◌-◌}
use Rattle.flip_mesh.specs.Places.{LiesBetween}
use Rattle.flip_mesh.proofs.search.place_between.Given as goal

-- the way lies between the bounds
abbrev pub invariant-loop-low : goal.invariant-loop-low
invariant-loop-low l = record {
  between : LiesBetween l.items l.u l.v l.low l.high;
}

abbrev pub decreases-loop-low : goal.decreases-loop-low
decreases-loop-low l = l.high - l.low
