-- Square tables of weights that equal their mirror and have zeros on their diagonal.
use Rattle.std.specs.Prelude.{◌≡◌, ℕ, ◌<◌, ◌≤◌, ◌^◌, List, [], length, slice_index, slice_index_or, All}

abbrev pub Table : Type 0
Table = List (List ℕ)

-- row i, column j
abbrev pub weight : Table → ℕ → ℕ → ℕ
weight table i j = slice_index (slice_index_or table i []) j

pub record IsTable (table : Table) : Type 0 where
  pub few : (1 ≤ length table) × (length table ≤ 256)
  pub square : All (λ row. length row ≡ length table) table
  pub mirrored : (i j : ℕ) → weight table i j ≡ weight table j i
  pub hollow : (i : ℕ) → weight table i i ≡ 0
  pub small : (i j : ℕ) → weight table i j < 2 ^ 32

-- the pair has this weight in both orders, and each other pair the weight that it had
pub record SetsPair (old new : Table) (i j w : ℕ) : Type 0 where
  pub side : length new ≡ length old
  pub pair : weight new i j ≡ w
  pub mirror : weight new j i ≡ w
  pub others : (a b : ℕ) → ¬ ((a ≡ i) × (b ≡ j)) → ¬ ((a ≡ j) × (b ≡ i)) → weight new a b ≡ weight old a b
