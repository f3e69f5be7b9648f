-- Tables with an entry for each three points, of which there are at most 64.
use Rattle.std.specs.Prelude.{◌≡◌, ◌≢◌, ◌↔◌, ℕ, ◌+◌, ◌*◌, ◌/◌, ◌%◌, ◌<◌, ◌≤◌, Bool, false, IsTrue, List, length, slice_index_or}
use Rattle.geo_orient.specs.declared.Point.{Point}
use Rattle.tri_theory.specs.Points.{IsLeft}
use Rattle.tri_theory.specs.Triangulations.{IsOutside}

-- where the entry of a, b, c stands
abbrev pub place : ℕ → ℕ → ℕ → ℕ
place a b c = a * 4096 + b * 64 + c

-- the entry of three of n points tells whether they have the property
pub record IsTable (P : ℕ → ℕ → ℕ → Type 0) (n : ℕ) (table : List Bool) : Type 0 where
  pub long : length table ≡ n * 4096
  pub entries : (a b c : ℕ) → a < n → b < n → c < n → IsTrue (slice_index_or table (place a b c) false) ↔ P a b c

-- the entry at place i does
abbrev pub Tells : (ℕ → ℕ → ℕ → Type 0) → ℕ → ℕ → Bool → Type 0
Tells P n i entry = i / 64 % 64 < n → i % 64 < n → IsTrue entry ↔ P (i / 4096) (i / 64 % 64) (i % 64)

-- the first i entries do
pub record IsTableUpto (P : ℕ → ℕ → ℕ → Type 0) (n : ℕ) (table : List Bool) (i : ℕ) : Type 0 where
  pub long : length table ≡ i
  pub entries : (k : ℕ) → k < i → Tells P n k (slice_index_or table k false)

-- no other point lies in the closed triangle a, b, c, whose corners are named counter-clockwise
abbrev pub IsEmptyOfPoints : List Point → ℕ → ℕ → ℕ → Type 0
IsEmptyOfPoints points a b c = (p : ℕ) → p < length points → p ≢ a → p ≢ b → p ≢ c → IsOutside points a b c p

-- which three points turn left, and which triangles hold no other point
pub record AreTables (points : List Point) (turns empties : List Bool) : Type 0 where
  pub few : length points ≤ 64
  pub left : IsTable (IsLeft points) (length points) turns
  pub empty : IsTable (IsEmptyOfPoints points) (length points) empties

-- p is a corner, or lies outside the closed triangle
abbrev pub IsApart : List Point → ℕ → ℕ → ℕ → ℕ → Type 0
IsApart points a b c p = p ≢ a → p ≢ b → p ≢ c → IsOutside points a b c p
