-- The laws of assignments. Each is the contract of a function of the crate, so each is proved.
use Rattle.std.specs.Prelude.{◌≡◌, ℕ, ◌+◌, ◌<◌, ◌≤◌, List, slice_index}
use Rattle.assignment_law.specs.Assignments.{IsAssignment, HasGreatestSum, IsBest}

-- potentials that no pair exceeds, and that each assigned pair meets, show that an assignment has the greatest sum
abbrev pub PotentialsShowGreatestSum : Type 0
PotentialsShowGreatestSum =
    (weight : ℕ → ℕ → ℕ) (n : ℕ) (assignment : List ℕ) (u v : ℕ → ℕ) → IsAssignment n assignment → ((i j : ℕ) → i < n → j < n → weight i j ≤ u i + v j)
    → ((i : ℕ) → i < n → weight i (slice_index assignment i) ≡ u i + v (slice_index assignment i)) → HasGreatestSum weight n assignment

-- and an assignment with the greatest sum is best
abbrev pub GreatestSumIsBest : Type 0
GreatestSumIsBest = (weight : ℕ → ℕ → ℕ) (n : ℕ) (assignment : List ℕ) → HasGreatestSum weight n assignment → IsBest weight n assignment
