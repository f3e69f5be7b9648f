-- The laws of splits. Each is the contract of a function of the crate, so each is proved.
use Rattle.std.specs.Prelude.{◌≡◌, ◌↔◌, ℕ, ◌+◌, ◌*◌, ◌/◌, ◌<◌, List, length, Contains, AllPairs}
use Rattle.geo_orient.specs.declared.Point.{Point}
use Rattle.edge_table.specs.declared.edge.Edge.{Edge}
use Rattle.tri_theory.specs.Points.{ArePlaced}
use Rattle.tri_theory.specs.Triangulations.{IsTriangulation}
use Rattle.tri_theory.specs.Rounds.{Within}
use Rattle.star_law.specs.Splits.{Split, split_sum, splits, IsSplitBefore, SplitMeets, IsLowerOfThree}

-- the splits of n are all that there are, in order, so each once
abbrev pub SplitsAreAll : Type 0
SplitsAreAll = (n : ℕ) (split : Split) → Contains (splits n) split ↔ (split_sum split ≡ n)

abbrev pub SplitsAscend : Type 0
SplitsAscend = (n : ℕ) → AllPairs IsSplitBefore (splits n)

abbrev pub SplitsAreCounted : Type 0
SplitsAreCounted = (n : ℕ) → 2 * length (splits n) ≡ (n + 1) * (n + 2)

-- no split of n meets exactly where the three need at least n + 1 rounds together
abbrev pub SplitsBoundThree : Type 0
SplitsBoundThree =
    (points : List Point) (A B C : List Edge) (n : ℕ) → ArePlaced points → IsTriangulation points A
    → ((split : Split) → Contains (splits n) split → ¬ SplitMeets points A B C split) ↔ IsLowerOfThree points A B C (n + 1)

-- where fewer rounds than these don't lead from each to each other, half of their sum, rounded up, is a lower bound for the three
abbrev pub PairsBoundThree : Type 0
PairsBoundThree =
    (points : List Point) (A B C : List Edge) (ab bc ac : ℕ) → ArePlaced points → IsTriangulation points A → IsTriangulation points B → IsTriangulation points C
    → ((k : ℕ) → k < ab → ¬ Within points A B k) → ((k : ℕ) → k < bc → ¬ Within points B C k) → ((k : ℕ) → k < ac → ¬ Within points A C k)
    → IsLowerOfThree points A B C ((ab + bc + ac + 1) / 2)
