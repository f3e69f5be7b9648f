-- Numbers of points in the order of a sweep.
use Rattle.std.specs.Prelude.{ℕ, ◌<◌, ℤ, List, length, Contains}
use Rattle.std.specs.List.{AllPairs}
use Rattle.geo_orient.specs.declared.Point.{Point}
use Rattle.tri_theory.specs.Points.{point}
use Rattle.sweep_law.specs.Sweeps.{along, aside, ComesBefore}
use Rattle.gen_instance.specs.declared.direction.Direction.{Direction}
use Rattle.gen_instance.specs.declared.order.Key.{Key}

-- the numbers name points
abbrev pub AreNamed : List Point → List ℕ → Type 0
AreNamed points numbers = (i : ℕ) → Contains numbers i → i < length points

-- where the point i stands in a sweep, and its number
abbrev pub key_of : List Point → Direction → ℕ → Key
key_of points direction i = record { along = along direction.a direction.b (point points i); aside = aside direction.a direction.b (point points i); number = i }

-- the second list is the first in the order of the sweep, each number once
pub record AreInOrder (points : List Point) (a b : ℤ) (numbers ordered : List ℕ) : Type 0 where
  pub ascend : AllPairs (λ i j. ComesBefore a b (point points i) (point points j)) ordered
  pub kept : (i : ℕ) → Contains numbers i → Contains ordered i
  pub no_other : (i : ℕ) → Contains ordered i → Contains numbers i
