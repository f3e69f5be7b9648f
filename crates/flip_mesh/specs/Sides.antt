-- The edges of the sides of a mesh, and what a flip makes of the sides.
use Rattle.std.specs.Prelude.{◌≡◌, ◌≢◌, ◌⊎◌, ℕ, List, [], ◌∷◌, Some, Contains, cond, nat_lt}
use Rattle.edge_table.specs.declared.edge.Edge.{Edge}
use Rattle.side_table.specs.declared.side.Side.{Side}
use Rattle.side_table.specs.Sides.{side, IsWay, HasSide, IsOrderedSides}

-- the edges: the sides that go from the lower end to the higher one
abbrev pub edges_of : List Side → List Edge
edges_of [] = []
edges_of (s ∷ sides) = cond (nat_lt s.from s.to) ((s.from, s.to) ∷ edges_of sides) (edges_of sides)

-- the ways round a, b, c, d and between a and c are there, and those between b and d aren't
pub record CanTurn (sides : List Side) (a b c d : ℕ) : Type 0 where
  pub a_b : a ≢ b
  pub b_c : b ≢ c
  pub c_d : c ≢ d
  pub d_a : d ≢ a
  pub a_c : a ≢ c
  pub b_d : b ≢ d
  pub ac : HasSide sides a c
  pub ca : HasSide sides c a
  pub ab : HasSide sides a b
  pub bc : HasSide sides b c
  pub cd : HasSide sides c d
  pub da : HasSide sides d a
  pub no_bd : ¬ HasSide sides b d
  pub no_db : ¬ HasSide sides d b

-- s is no way on the quadrilateral a, b, c, d, nor between a and c
pub record IsElsewhere (s : Side) (a b c d : ℕ) : Type 0 where
  pub ac : ¬ IsWay s a c
  pub ca : ¬ IsWay s c a
  pub ab : ¬ IsWay s a b
  pub bc : ¬ IsWay s b c
  pub cd : ¬ IsWay s c d
  pub da : ¬ IsWay s d a

-- the sides of the triangles a, b, d and b, c, d in place of those of a, b, c and a, c, d
pub record IsTurned (old new : List Side) (a b c d : ℕ) : Type 0 where
  pub ordered : IsOrderedSides new
  pub kept : (s : Side) → Contains old s → IsElsewhere s a b c d → Contains new s
  pub bd : Contains new (side b d (Some a))
  pub db : Contains new (side d b (Some c))
  pub ab : Contains new (side a b (Some d))
  pub bc : Contains new (side b c (Some d))
  pub cd : Contains new (side c d (Some b))
  pub da : Contains new (side d a (Some b))
  pub split : (s : Side) → Contains new s
      → (Contains old s × IsElsewhere s a b c d) ⊎ ((s ≡ side b d (Some a)) ⊎ ((s ≡ side d b (Some c)) ⊎ ((s ≡ side a b (Some d)) ⊎ ((s ≡ side b c (Some d)) ⊎ ((s ≡ side c d (Some b)) ⊎ (s ≡ side d a (Some b)))))))
