-- Chains of points that rise in one direction and turn left, with all points on their left: the two halves of a hull.
use Rattle.std.specs.Prelude.{◌≡◌, ◌⊎◌, ℕ, ◌+◌, ◌<◌, ℤ, pos, ◌+ℤ◌, ◌*ℤ◌, neg_ℤ, ◌<ℤ◌, ◌≤ℤ◌, List, length, slice_index_or}
use Rattle.geo_orient.specs.declared.Point.{Point}
use Rattle.geo_orient.specs.Reach.{IsInReach}
use Rattle.tri_theory.specs.Points.{point, IsLeft, Separates}

-- one number for both coordinates, by which points in reach are ordered by x and then by y
abbrev pub key : Point → ℤ
key p = p.x *ℤ pos 2147483648 +ℤ p.y

abbrev pub height : List ℤ → ℕ → ℤ
height keys i = slice_index_or keys i (pos 0)

-- the keys of all points, or all their negatives
pub record AreKeys (points : List Point) (keys : List ℤ) : Type 0 where
  pub count : length keys ≡ length points
  pub values : ((i : ℕ) → i < length points → height keys i ≡ key (point points i)) ⊎ ((i : ℕ) → i < length points → height keys i ≡ neg_ℤ (key (point points i)))

abbrev pub link : List ℕ → ℕ → ℕ
link chain j = slice_index_or chain j 0

-- the place of a side of the chain over or under which the point lies, which is on its left or an end
pub record IsOver (points : List Point) (keys : List ℤ) (chain : List ℕ) (t j : ℕ) : Type 0 where
  pub within : j + 1 < length chain
  pub from : height keys (link chain j) ≤ℤ height keys t
  pub to : height keys t ≤ℤ height keys (link chain (j + 1))
  pub left : (t ≡ link chain j) ⊎ ((t ≡ link chain (j + 1)) ⊎ IsLeft points (link chain j) (link chain (j + 1)) t)

-- the chain rises and turns left, and each point is over a side
pub record IsChain (points : List Point) (keys : List ℤ) (chain : List ℕ) : Type 0 where
  pub named : (j : ℕ) → j < length chain → link chain j < length points
  pub rises : (j : ℕ) → j + 1 < length chain → height keys (link chain j) <ℤ height keys (link chain (j + 1))
  pub turns : (j : ℕ) → j + 2 < length chain → ¬ IsLeft points (link chain (j + 1)) (link chain j) (link chain (j + 2))
  pub over : (t : ℕ) → t < length points → (j : ℕ) × IsOver points keys chain t j

-- the way from a to b rises, has all points on its left or on its line, and no point between its ends
pub record IsHullWay (points : List Point) (keys : List ℤ) (a b : ℕ) : Type 0 where
  pub from : a < length points
  pub to : b < length points
  pub rises : height keys a <ℤ height keys b
  pub closed : (p : ℕ) → p < length points → ¬ IsLeft points b a p
  pub clear : (p : ℕ) → p < length points → ¬ Separates points a b p

-- the way from a to b is a side of the chain
abbrev pub IsLinked : List ℕ → ℕ → ℕ → Type 0
IsLinked chain a b = (j : ℕ) × (j + 1 < length chain) × (a ≡ link chain j) × (b ≡ link chain (j + 1))

abbrev pub AreReachable : List Point → Type 0
AreReachable points = (i : ℕ) → i < length points → IsInReach (point points i)
