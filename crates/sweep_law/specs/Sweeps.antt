-- Sweeps: points are taken in the order of a direction, and each is joined with all points before it that no pair hides from it.
use Rattle.std.specs.Prelude.{◌≡◌, ◌⊎◌, ℕ, ◌<◌, ℤ, pos, ◌+ℤ◌, ◌-ℤ◌, ◌*ℤ◌, ◌<ℤ◌, int_lt, Bool, ◌&&◌, not, List, [], ◌∷◌, ◌++◌, length, cond, Contains}
use Rattle.std.specs.List.{AllPairs, list_any, fold}
use Rattle.std.specs.Ordering.{int_eq}
use Rattle.geo_orient.specs.declared.Point.{Point}
use Rattle.geo_orient.specs.Predicates.{scalar}
use Rattle.edge_table.specs.Edges.{edge}
use Rattle.tri_theory.specs.Points.{point, turn}
use Rattle.tri_theory.specs.Crossings.{crosses}

-- how far a point lies along the direction (a, b), and how far to its right
abbrev pub along : ℤ → ℤ → Point → ℤ
along a b p = a *ℤ p.x +ℤ b *ℤ p.y

abbrev pub aside : ℤ → ℤ → Point → ℤ
aside a b p = b *ℤ p.x -ℤ a *ℤ p.y

-- p comes before q in a sweep along the direction: it lies less far along it, or as far along it and less far to its right
abbrev pub ComesBefore : ℤ → ℤ → Point → Point → Type 0
ComesBefore a b p q = (along a b p <ℤ along a b q) ⊎ ((along a b p ≡ along a b q) × (aside a b p <ℤ aside a b q))

-- the numbers of all points in the order of the sweep, each once
pub record IsSweepOrder (points : List Point) (a b : ℤ) (order : List ℕ) : Type 0 where
  pub named : (i : ℕ) → Contains order i → i < length points
  pub all : (i : ℕ) → i < length points → Contains order i
  pub ascends : AllPairs (λ i j. ComesBefore a b (point points i) (point points j)) order

-- a pair of points as it is listed: the one that came before, and the one that was joined with it
pub record Pair : Type 0 where
  pub before : ℕ
  pub joined : ℕ

-- the test of `Separates`: s lies strictly between r and p
abbrev pub separates : List Point → ℕ → ℕ → ℕ → Bool
separates points r p s = int_eq (turn points r p s) (pos 0) && int_lt (scalar (point points s) (point points r) (point points p)) (pos 0)

-- p is joined with the earlier point r: their pair crosses no pair that is listed, and no earlier point lies strictly between them
abbrev pub sees : List Point → List ℕ → List Pair → ℕ → ℕ → Bool
sees points earlier listed p r =
    not (list_any (λ f. crosses points (edge r p) (edge f.before f.joined)) listed) && not (list_any (λ s. separates points r p s) earlier)

-- the earlier point r is tried with p
abbrev pub tried : List Point → List ℕ → ℕ → List Pair → ℕ → List Pair
tried points earlier p listed r = cond (sees points earlier listed p r) (listed ++ record { before = r; joined = p } ∷ []) listed

-- the earlier points are tried with p, in their order
abbrev pub joined : List Point → List ℕ → ℕ → List Pair → List Pair
joined points earlier p listed = fold (tried points earlier p) listed earlier

-- the points that are left are joined one after the other
abbrev pub swept : List Point → List ℕ → List Pair → List ℕ → List Pair
swept points earlier listed [] = listed
swept points earlier listed (p ∷ rest) = swept points (earlier ++ p ∷ []) (joined points earlier p listed) rest

-- the pairs of a sweep, as they are listed
abbrev pub sweep_pairs : List Point → List ℕ → List Pair
sweep_pairs points order = swept points [] [] order
