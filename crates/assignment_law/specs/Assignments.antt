-- Assignments: permutations, their sums under weights for pairs, and the bound that half of a sum is.
use Rattle.std.specs.Prelude.{◌≡◌, ◌≢◌, ℕ, ◌+◌, ◌/◌, ◌<◌, ◌≤◌, List, length, All, AllPairs, sum_by}
use Rattle.std.specs.List.{enumerate_from}

-- a permutation of the numbers below n, as the list of what each goes to
pub record IsAssignment (n : ℕ) (assignment : List ℕ) : Type 0 where
  pub long : length assignment ≡ n
  pub below : All (λ j. j < n) assignment
  pub distinct : AllPairs (λ i j. i ≢ j) assignment

-- what the pairs of each number and what it goes to weigh together
abbrev pub assignment_sum : (ℕ → ℕ → ℕ) → List ℕ → ℕ
assignment_sum weight assignment = sum_by (λ place. weight place.0 place.1) (enumerate_from 0 assignment)

-- half the sum, rounded up
abbrev pub assignment_bound : (ℕ → ℕ → ℕ) → List ℕ → ℕ
assignment_bound weight assignment = (assignment_sum weight assignment + 1) / 2

-- no assignment has a greater sum
abbrev pub HasGreatestSum : (ℕ → ℕ → ℕ) → ℕ → List ℕ → Type 0
HasGreatestSum weight n assignment = IsAssignment n assignment × ((other : List ℕ) → IsAssignment n other → assignment_sum weight other ≤ assignment_sum weight assignment)

-- no assignment has a greater bound
abbrev pub IsBest : (ℕ → ℕ → ℕ) → ℕ → List ℕ → Type 0
IsBest weight n assignment = IsAssignment n assignment × ((other : List ℕ) → IsAssignment n other → assignment_bound weight other ≤ assignment_bound weight assignment)
