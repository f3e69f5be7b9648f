use Rattle.std.proofs.Common.{◌≡◌}
use Rattle.plan_tests.proofs.openings.track_from.Given as goal

abbrev pub invariant-loop-i : goal.invariant-loop-i
invariant-loop-i g l = (l.track.points ≡ l.input.points) × (l.track.start ≡ l.input.edges)
