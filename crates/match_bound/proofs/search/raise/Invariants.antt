use Rattle.std.proofs.Common.{◌≡◌, ℕ, ◌+◌, ◌<◌, ◌≤◌, length, slice_index}
use Rattle.match_bound.specs.Searches.{label_at, rise}
use Rattle.match_bound.proofs.search.raise.Given as goal

abbrev pub invariant-loop-i : goal.invariant-loop-i
invariant-loop-i l = record {
  long : length l.u ≡ length l.initial.u;
  passed : (a : ℕ) → a < l.i → slice_index l.u a ≡ slice_index l.initial.u a + rise l.end (label_at l.labels a);
  left : (a : ℕ) → l.i ≤ a → slice_index l.u a ≡ slice_index l.initial.u a;
}
