use Rattle.std.proofs.Common.{◌≡◌, ℕ, ◌<◌, length}
use Rattle.match_bound.specs.Searches.{label_at, IsFirst}
use Rattle.match_bound.specs.Tables.{weight}
use Rattle.match_bound.proofs.labels.begin.Given as goal

abbrev pub invariant-loop-i : goal.invariant-loop-i
invariant-loop-i l = record {
  long : length l.labels ≡ length l.w;
  first : (a : ℕ) → a < l.i → IsFirst (weight l.w) l.u l.v l.target a (label_at l.labels a);
}
