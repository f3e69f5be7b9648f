use Rattle.std.proofs.Common.{◌≡◌, ◌++◌, ◌*◌, ◌-◌}
use Rattle.rand_core.specs.Steps.{first_words}
use Rattle.rand_pcg.specs.Pcg.{pcg32}
use Rattle.gen_instance.specs.Generated.{points_by, points_of}
use Rattle.gen_instance.proofs.points.points_of.Given as goal

-- the points so far, and those by the words that are left, are all points
abbrev pub invariant-loop-i : goal.invariant-loop-i
invariant-loop-i l = l.points ++ points_by l.i (first_words pcg32 (2 * (l.count - l.i)) l.words) ≡ points_of l.seed l.count
