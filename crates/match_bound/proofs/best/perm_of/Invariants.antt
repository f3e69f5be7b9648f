use Rattle.std.proofs.Common.{◌≡◌, ℕ, ◌<◌, Some, length, slice_index}
use Rattle.match_bound.specs.Matchings.{image_of}
use Rattle.match_bound.proofs.best.perm_of.Given as goal

abbrev pub invariant-loop-i : goal.invariant-loop-i
invariant-loop-i l = record {
  long : length l.perm ≡ l.i;
  passed : (a : ℕ) → a < l.i → image_of l.image a ≡ Some (slice_index l.perm a);
}
