use Rattle.std.proofs.Common.{◌≡◌, []}
use Rattle.sat_search.specs.Resolutions.{IsResolving}
use Rattle.sat_search.proofs.Resolving.{end_of}
use Rattle.sat_search.proofs.resolution.go_to_last.Given as goal

abbrev pub invariant-loop-place : goal.invariant-loop-place
invariant-loop-place l = record {
  conflict : l.r.conflict ≡ l.initial.r.conflict;
  left : l.r.left.items ≡ [];
  resolving : IsResolving l.state l.r.conflict l.r.pending.keys l.r.left.items l.r.reasons.items;
}

abbrev pub decreases-loop-place : goal.decreases-loop-place
decreases-loop-place l = end_of l.r.pending.keys
