-- The sides of a mesh: each edge in both directions, with the third corner of the triangle on its left, where there is one.
use Rattle.std.specs.Prelude.{◌≡◌, ◌⊎◌, ◌↔◌, ℕ, List, Option, Contains, AllPairs}
use Rattle.edge_table.specs.Edges.{IsBefore}
use Rattle.side_table.specs.declared.side.Side.{Side}

abbrev pub side : ℕ → ℕ → Option ℕ → Side
side u v x = record { from = u; to = v; apex = x }

-- s is the way from u to v
abbrev pub IsWay : Side → ℕ → ℕ → Type 0
IsWay s u v = (s.from ≡ u) × (s.to ≡ v)

-- one of the sides is the way from u to v
pub record HasSide (sides : List Side) (u v : ℕ) : Type 0 where
  pub apex : Option ℕ
  pub there : Contains sides (side u v apex)

-- ordered as edges are, without repeats
abbrev pub IsOrderedSides : List Side → Type 0
IsOrderedSides sides = AllPairs (λ s t. IsBefore (s.from, s.to) (t.from, t.to)) sides

-- t comes to the sides
pub record AddsSide (old new : List Side) (t : Side) : Type 0 where
  pub ordered : IsOrderedSides new
  pub members : (s : Side) → Contains new s ↔ (Contains old s ⊎ (s ≡ t))

-- t comes in the place of the way from u to v
pub record PutsSide (old new : List Side) (u v : ℕ) (t : Side) : Type 0 where
  pub ordered : IsOrderedSides new
  pub members : (s : Side) → Contains new s ↔ ((Contains old s × ¬ IsWay s u v) ⊎ (s ≡ t))
