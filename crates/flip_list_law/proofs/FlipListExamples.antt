-- Worked lists of flips, for which the definitions compute.
use Rattle.std.proofs.Common.{◌≡◌, ℕ, List, [], ◌∷◌, ◌++◌, refl}
use Rattle.flip_list_law.specs.declared.Flip.{Flip}
use Rattle.flip_list_law.specs.FlipLists.{triangle, is_same, makes, round_numbers, round_count, grouped, last_images, follow}

abbrev flip : ℕ → ℕ → ℕ → ℕ → Flip
flip a b c d = record { edge = (a, b); image = (c, d) }

-- a square: the diagonal flips, and following its image takes the flip out again
square_follow : follow [] (flip 0 2 1 3) ≡ flip 0 2 1 3 ∷ []
unfolding triangle is_same makes
square_follow = refl

square_rounds : round_count (flip 0 2 1 3 ∷ []) ≡ 1
unfolding triangle is_same makes
square_rounds = refl

square_back : follow (flip 0 2 1 3 ∷ []) (flip 1 3 0 2) ≡ []
unfolding triangle is_same makes
square_back = refl

-- a hexagon, from the fan at 1 to the fan at 0: each flip has to wait for the one before
hexagon : List Flip
hexagon = flip 1 5 0 4 ∷ flip 1 4 0 3 ∷ flip 1 3 0 2 ∷ []

hexagon_rounds : grouped hexagon ≡ ((1, 5) ∷ []) ∷ ((1, 4) ∷ []) ∷ ((1, 3) ∷ []) ∷ []
unfolding triangle is_same makes hexagon
hexagon_rounds = refl

-- an octagon, from the fan at 1 to the fan at 0 in four rounds
octagon : List Flip
octagon = flip 1 6 5 7 ∷ flip 1 4 3 5 ∷ flip 1 7 0 5 ∷ flip 5 7 0 6 ∷ flip 1 5 0 3 ∷ flip 1 3 0 2 ∷ flip 3 5 0 4 ∷ []

octagon_numbers : round_numbers octagon ≡ 1 ∷ 1 ∷ 2 ∷ 3 ∷ 3 ∷ 4 ∷ 4 ∷ []
unfolding triangle is_same makes octagon
octagon_numbers = refl

octagon_rounds : grouped octagon ≡ ((1, 4) ∷ (1, 6) ∷ []) ∷ ((1, 7) ∷ []) ∷ ((1, 5) ∷ (5, 7) ∷ []) ∷ ((1, 3) ∷ (3, 5) ∷ []) ∷ []
unfolding triangle is_same makes octagon
octagon_rounds = refl

-- the first of two independent flips is taken out, and the second keeps its number
octagon_follow : follow (flip 1 4 3 5 ∷ flip 1 6 5 7 ∷ []) (flip 3 5 1 4) ≡ flip 1 6 5 7 ∷ []
unfolding triangle is_same makes
octagon_follow = refl

-- a flip whose triangles two flips made is appended
octagon_append : follow octagon (flip 0 5 4 6) ≡ octagon ++ (flip 0 5 4 6 ∷ [])
unfolding triangle is_same makes octagon
octagon_append = refl

octagon_last_images : last_images octagon ≡ (0, 2) ∷ (0, 4) ∷ []
unfolding triangle is_same makes octagon
octagon_last_images = refl

no_last_images : last_images [] ≡ []
no_last_images = refl
