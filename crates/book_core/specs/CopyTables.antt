-- Tables over the copies of inputs, in which the copies of two inputs get a weight.
use Rattle.std.specs.Prelude.{◌≡◌, ℕ, ◌<◌, List, length, sum}
use Rattle.bound_law.specs.Copies.{copy_of}
use Rattle.match_bound.specs.Tables.{Table, weight}

-- the copy c and each copy below n of input j have this weight in both orders, and all other pairs the weight that they had
pub record SetsRow (weights : List ℕ) (old new : Table) (c j w n : ℕ) : Type 0 where
  pub side : length new ≡ length old
  pub pairs : (d : ℕ) → d < n → copy_of weights d ≡ j → (weight new c d ≡ w) × (weight new d c ≡ w)
  pub others : (a b : ℕ) → ¬ ((a ≡ c) × (copy_of weights b ≡ j)) → ¬ ((copy_of weights a ≡ j) × (b ≡ c)) → weight new a b ≡ weight old a b

-- each copy below n of input i and each copy of input j have this weight in both orders, and all other pairs the weight that they had
pub record SetsCopies (weights : List ℕ) (old new : Table) (i j w n : ℕ) : Type 0 where
  pub side : length new ≡ length old
  pub pairs : (c d : ℕ) → c < n → d < sum weights → copy_of weights c ≡ i → copy_of weights d ≡ j → (weight new c d ≡ w) × (weight new d c ≡ w)
  pub others : (a b : ℕ) → ¬ ((copy_of weights a ≡ i) × (copy_of weights b ≡ j)) → ¬ ((copy_of weights a ≡ j) × (copy_of weights b ≡ i)) → weight new a b ≡ weight old a b
