-- How many flips each round has.
use Rattle.std.specs.Prelude.{◌≡◌, ◌≢◌, ℕ, suc, ◌<◌, ◌==◌, cond, List, [], ◌∷◌, length, slice_index}
use Rattle.flip_list_law.specs.FlipLists.{greatest}

-- how often a number stands in a list
abbrev pub how_many : ℕ → List ℕ → ℕ
how_many n [] = 0
how_many n (m ∷ ms) = cond (m == n) (suc (how_many n ms)) (how_many n ms)

-- each number from 1 to the greatest stands in the list
abbrev pub AreFilled : List ℕ → Type 0
AreFilled numbers = (k : ℕ) → k < greatest numbers → 0 < how_many (suc k) numbers

-- there is a count for each number from 1 to the greatest, and none is 0
pub record AreCounted (counts numbers : List ℕ) : Type 0 where
  pub as_many : length counts ≡ greatest numbers
  pub each : (k : ℕ) → k < length counts → slice_index counts k ≡ how_many (suc k) numbers
  pub filled : (k : ℕ) → k < length counts → 0 < slice_index counts k

-- what is left of the numbers once one n is taken out
pub record IsRest (numbers rest : List ℕ) (n : ℕ) : Type 0 where
  pub one_less : how_many n numbers ≡ suc (how_many n rest)
  pub others : (k : ℕ) → k ≢ n → how_many k numbers ≡ how_many k rest
