-- Lower bounds for the rounds between pairs of inputs.
use Rattle.std.specs.Prelude.{ℕ, ◌<◌, List, [], length, slice_index_or}
use Rattle.geo_orient.specs.declared.Point.{Point}
use Rattle.edge_table.specs.declared.edge.Edge.{Edge}
use Rattle.tri_theory.specs.Rounds.{Within}

abbrev pub input_at : List (List Edge) → ℕ → List Edge
input_at inputs i = slice_index_or inputs i []

-- from input i to input j fewer than `lower i j` rounds don't lead
abbrev pub AreLowerBounds : List Point → List (List Edge) → (ℕ → ℕ → ℕ) → Type 0
AreLowerBounds points inputs lower = (i j k : ℕ) → i < length inputs → j < length inputs → k < lower i j → ¬ Within points (input_at inputs i) (input_at inputs j) k
