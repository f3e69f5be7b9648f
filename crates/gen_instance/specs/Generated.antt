-- Generated instances: points and sweeps by the words of one seed.
use Rattle.std.specs.Prelude.{◌≡◌, ℕ, suc, ◌+◌, ◌-◌, ◌*◌, ◌%◌, ◌&&◌, ℤ, pos, ◌-ℤ◌, Some, List, [], ◌∷◌, ◌++◌, length, map, cond, replicate, slice_get, slice_index_or, codes}
use Rattle.std.specs.Ordering.{int_eq}
use Rattle.rand_core.specs.Steps.{first_words}
use Rattle.rand_pcg.specs.Lcg.{started, increment_of}
use Rattle.rand_pcg.specs.Pcg.{multiplier_64, pcg32}
use Rattle.geo_orient.specs.declared.Point.{Point}
use Rattle.tri_check.specs.declared.raw.RawPair.{RawPair}
use Rattle.tri_check.specs.declared.raw.RawInstance.{RawInstance}
use Rattle.sweep_law.specs.Sweeps.{IsSweepOrder, Pair, sweep_pairs}
use Rattle.gen_instance.specs.declared.direction.Direction.{Direction}

-- the first words of a stream of a seed
abbrev pub words_of : ℕ → ℕ → ℕ → List ℕ
words_of seed stream count = first_words pcg32 count (started 64 multiplier_64 seed (increment_of 64 stream))

-- the point i by two words: somewhere in a strip of its own, above the strips of the points before it
abbrev pub point_by : ℕ → ℕ → ℕ → Point
point_by i x y = record { x = pos (x % 1048576); y = pos (1000 * i + y % 1000) }

-- the points from the point i on, each by the next two words
abbrev pub points_by : ℕ → List ℕ → List Point
points_by i [] = []
points_by i (x ∷ []) = []
points_by i (x ∷ y ∷ words) = point_by i x y ∷ points_by (suc i) words

-- three points that aren't on one line
abbrev pub first_points : List Point
first_points = record { x = pos 0; y = pos 0 } ∷ record { x = pos 1; y = pos 1000 } ∷ record { x = pos 0; y = pos 2000 } ∷ []

-- n points: the first three, and then those by the words of stream 0
abbrev pub points_of : ℕ → ℕ → List Point
points_of seed n = first_points ++ points_by 3 (words_of seed 0 (2 * (n - 3)))

-- a part of a direction by a word
abbrev pub part_by : ℕ → ℤ
part_by word = pos (word % 1001) -ℤ pos 500

-- the direction of the input t by the first two words of stream t + 1. It is (0, 1) where both parts would be 0
abbrev pub direction_by : ℕ → ℕ → Direction
direction_by v w = record { a = part_by v; b = cond (int_eq (part_by v) (pos 0) && int_eq (part_by w) (pos 0)) (pos 1) (part_by w) }

abbrev pub direction_of : ℕ → ℕ → Direction
direction_of seed t = direction_by (slice_index_or (words_of seed (t + 1) 2) 0 0) (slice_index_or (words_of seed (t + 1) 2) 1 0)

abbrev pub raw_pair : Pair → RawPair
raw_pair f = record { a = pos f.before; b = pos f.joined }

-- the pairs are those of the sweep of the points along a direction
pub record IsSweptAlong (points : List Point) (direction : Direction) (pairs : List RawPair) : Type 0 where
  pub order : List ℕ
  pub orders : IsSweepOrder points direction.a direction.b order
  pub lists : pairs ≡ map raw_pair (sweep_pairs points order)

-- the generated instance of a seed with n points and m inputs, each of weight 1
pub record IsGenerated (seed n m : ℕ) (raw : RawInstance) : Type 0 where
  pub uid : raw.uid ≡ codes "bench"
  pub points : raw.points ≡ points_of seed n
  pub count : length raw.inputs ≡ m
  pub inputs : (t : ℕ) (pairs : List RawPair) → slice_get raw.inputs t ≡ Some pairs → IsSweptAlong (points_of seed n) (direction_of seed t) pairs
  pub weights : raw.weights ≡ replicate m (pos 1)
