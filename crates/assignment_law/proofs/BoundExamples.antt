-- A bound that computes: of three inputs, each pair of which is at least one round apart.
use Rattle.std.proofs.Common.{◌≡◌, ℕ, [], ◌∷◌, refl}
use Rattle.assignment_law.specs.Assignments.{assignment_sum, assignment_bound}

abbrev ones : ℕ → ℕ → ℕ
ones i j = 1

odd_bound : (assignment_sum ones (1 ∷ 2 ∷ 0 ∷ []) ≡ 3) × (assignment_bound ones (1 ∷ 2 ∷ 0 ∷ []) ≡ 2)
odd_bound = (refl, refl)
