use Rattle.std.proofs.Common.{◌≡◌, ℕ, ◌<◌, length, slice_index_or}
use Rattle.flip_mesh.specs.Places.{BeginsAt}
use Rattle.flip_mesh.proofs.search.begins_of.Given as goal

-- the places of the points so far
abbrev pub invariant-loop-u : goal.invariant-loop-u
invariant-loop-u l = record {
  long : length l.begins.items ≡ l.u;
  begin : (k d : ℕ) → k < l.u → BeginsAt l.items k (slice_index_or l.begins.items k d);
}
