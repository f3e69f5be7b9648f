-- Copies and their bounds on small examples.
use Rattle.std.proofs.Common.{◌≡◌, ℕ, zero, suc, [], ◌∷◌, map, refl}
use Rattle.assignment_law.specs.Assignments.{assignment_bound}
use Rattle.bound_law.specs.Copies.{copied, copy_of, copy_lower}

items : copied {X = ℕ} (1 ∷ 3 ∷ []) (7 ∷ 8 ∷ []) ≡ 7 ∷ 8 ∷ 8 ∷ 8 ∷ []
items = refl

whose : map (copy_of (1 ∷ 3 ∷ 2 ∷ [])) (0 ∷ 1 ∷ 2 ∷ 3 ∷ 4 ∷ 5 ∷ []) ≡ 0 ∷ 1 ∷ 1 ∷ 1 ∷ 2 ∷ 2 ∷ []
whose = refl

-- two inputs that need one round from each other, none from themselves
abbrev one_round : ℕ → ℕ → ℕ
one_round zero zero = 0
one_round zero (suc j) = 1
one_round (suc i) zero = 1
one_round (suc i) (suc j) = 0

-- with weights 2 and 2 each copy of the one is assigned to a copy of the other: half of 4
both : assignment_bound (copy_lower (2 ∷ 2 ∷ []) one_round) (2 ∷ 3 ∷ 0 ∷ 1 ∷ []) ≡ 2
both = refl

-- with weights 1 and 3 two copies of the second are left: half of 2
one_and_three : assignment_bound (copy_lower (1 ∷ 3 ∷ []) one_round) (1 ∷ 0 ∷ 2 ∷ 3 ∷ []) ≡ 1
one_and_three = refl
