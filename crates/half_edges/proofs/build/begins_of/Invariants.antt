use Rattle.std.proofs.Common.{◌≡◌, ℕ, length, slice_get, Some}
use Rattle.half_edges.specs.Graphs.{IsBegin}
use Rattle.half_edges.proofs.build.begins_of.Given as goal

-- where the ways from the points before u begin
abbrev pub invariant-loop-u : goal.invariant-loop-u
invariant-loop-u l = record {
  long : length l.begins.items ≡ l.u;
  places : (k i : ℕ) → slice_get l.begins.items k ≡ Some i → IsBegin l.ways k i;
}
