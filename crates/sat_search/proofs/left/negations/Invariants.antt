use Rattle.std.proofs.Common.{◌≡◌}
use Rattle.log_law.specs.Trails.{negated_at}
use Rattle.sat_search.proofs.left.negations.Given as goal

abbrev pub invariant-loop-place : goal.invariant-loop-place
invariant-loop-place l = (l.lits.items ≡ negated_at l.state.trail l.yielded)
