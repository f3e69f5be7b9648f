use Rattle.std.proofs.Common.{◌≡◌, ℕ, ◌+◌, ◌<◌, ◌≤◌, length, slice_index}
use Rattle.match_bound.specs.Searches.{reach_of, fall}
use Rattle.match_bound.proofs.search.lower.Given as goal

abbrev pub invariant-loop-j : goal.invariant-loop-j
invariant-loop-j l = record {
  long : length l.v ≡ length l.initial.v;
  passed : (a : ℕ) → a < l.j → slice_index l.v a + fall l.end (reach_of l.reach a) ≡ slice_index l.initial.v a;
  left : (a : ℕ) → l.j ≤ a → slice_index l.v a ≡ slice_index l.initial.v a;
}
