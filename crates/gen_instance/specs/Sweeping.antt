-- Sweeps and inputs, as far as they have come.
use Rattle.std.specs.Prelude.{◌≡◌, ℕ, ℤ, List, length, map, take, drop, slice_get, Some}
use Rattle.geo_orient.specs.declared.Point.{Point}
use Rattle.tri_check.specs.declared.raw.RawPair.{RawPair}
use Rattle.sweep_law.specs.Sweeps.{Pair, swept, sweep_pairs}
use Rattle.sweep_law.specs.Boundaries.{IsSwept}
use Rattle.gen_instance.specs.declared.sweep.Sweep.{Sweep}
use Rattle.gen_instance.specs.Generated.{raw_pair, direction_of, IsSweptAlong}

-- the sweep has passed the first k points of the order
pub record IsSweeping (points : List Point) (a b : ℤ) (order : List ℕ) (k : ℕ) (sweep : Sweep) : Type 0 where
  pub listed : List Pair
  pub pairs : sweep.pairs ≡ map raw_pair listed
  pub passed : IsSwept points a b (take k order) listed sweep.rights.items sweep.lefts.items
  pub rest : swept points (take k order) listed (drop k order) ≡ sweep_pairs points order

-- the first n inputs
pub record AreInputs (points : List Point) (seed n : ℕ) (inputs : List (List RawPair)) : Type 0 where
  pub count : length inputs ≡ n
  pub each : (t : ℕ) (pairs : List RawPair) → slice_get inputs t ≡ Some pairs → IsSweptAlong points (direction_of seed t) pairs
