use Rattle.std.proofs.Common.{◌≡◌, ◌⊎◌, ℕ, ◌<◌, Contains}
use Rattle.log_law.specs.Trails.{step_at}
use Rattle.sat_search.specs.Resolutions.{IsResolving}
use Rattle.sat_search.proofs.Resolving.{end_of}
use Rattle.sat_search.proofs.resolution.go_over_ground.Given as goal

abbrev pub invariant-loop-place : goal.invariant-loop-place
invariant-loop-place l = record {
  conflict : l.r.conflict ≡ l.initial.r.conflict;
  stay : (p : ℕ) → Contains l.initial.r.left.items p → Contains l.r.left.items p;
  left : (p : ℕ) → Contains l.r.left.items p → Contains l.initial.r.left.items p ⊎ (Contains l.initial.r.pending.keys p × (0 < (step_at l.state.trail p).level));
  pending : (p : ℕ) → Contains l.r.pending.keys p → Contains l.initial.r.pending.keys p ⊎ ((step_at l.state.trail p).level ≡ 0);
  resolving : IsResolving l.state l.r.conflict l.r.pending.keys l.r.left.items l.r.reasons.items;
}

abbrev pub decreases-loop-place : goal.decreases-loop-place
decreases-loop-place l = end_of l.r.pending.keys
