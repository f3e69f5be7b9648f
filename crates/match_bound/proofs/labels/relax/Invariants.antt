use Rattle.std.proofs.Common.{◌≡◌, ℕ, ◌<◌, ◌≤◌, length}
use Rattle.match_bound.specs.Searches.{label_at, open_count, Relaxes}
use Rattle.match_bound.specs.Tables.{weight}
use Rattle.match_bound.proofs.labels.relax.Given as goal

abbrev pub invariant-loop-i : goal.invariant-loop-i
invariant-loop-i l = record {
  long : length l.labels ≡ length l.w;
  passed : (a : ℕ) → a < l.i → Relaxes (weight l.w) l.u l.v l.k l.j l.near a (label_at l.initial.labels a) (label_at l.labels a);
  left : (a : ℕ) → l.i ≤ a → label_at l.labels a ≡ label_at l.initial.labels a;
  same_count : open_count l.labels ≡ open_count l.initial.labels;
}
