-- Potentials as whole numbers: no pair weighs more than its two, and all of them add up to a sum.
use Rattle.std.specs.Prelude.{◌≡◌, ℕ, ℤ, pos, ◌+ℤ◌, ◌≤ℤ◌, ◌<◌, List, [], ◌∷◌, length, slice_index_or}

abbrev pub potential : List ℤ → ℕ → ℤ
potential u i = slice_index_or u i (pos 0)

abbrev pub total : List ℤ → ℤ
total [] = pos 0
total (x ∷ xs) = x +ℤ total xs

pub record ArePotentials (weight : ℕ → ℕ → ℕ) (m : ℕ) (u v : List ℤ) (sum : ℕ) : Type 0 where
  pub u_long : length u ≡ m
  pub v_long : length v ≡ m
  pub above : (i j : ℕ) → i < m → j < m → pos (weight i j) ≤ℤ (potential u i +ℤ potential v j)
  pub add_up : (total u +ℤ total v) ≡ pos sum
