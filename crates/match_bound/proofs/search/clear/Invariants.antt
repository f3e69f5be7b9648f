use Rattle.std.proofs.Common.{◌≡◌, ℕ, ◌<◌, None, length}
use Rattle.match_bound.specs.Searches.{reach_of}
use Rattle.match_bound.proofs.search.clear.Given as goal

abbrev pub invariant-loop-j : goal.invariant-loop-j
invariant-loop-j l = record {
  long : length l.reach ≡ length l.initial.reach;
  passed : (a : ℕ) → a < l.j → reach_of l.reach a ≡ None;
}
