-- Stars: star rows without a common copy, and a permutation of the copies that are in none. What they bound.
use Rattle.std.specs.Prelude.{◌≡◌, ◌≢◌, ℕ, ◌+◌, ◌*◌, ◌/◌, ◌<◌, ◌≤◌, not, eqb, List, [], ◌∷◌, length, map, slice_index_or, sum_by, flat_map, filter, All, AllPairs, Contains}
use Rattle.std.specs.List.{list_any, range_with_len}
use Rattle.geo_orient.specs.declared.Point.{Point}
use Rattle.edge_table.specs.declared.edge.Edge.{Edge}
use Rattle.formula_law.specs.Frames.{Frame}
use Rattle.star_law.specs.StarRows.{StarRow, triple_budget, IsJustified, IsEarned}

-- the copies in the rows, one row after the other
abbrev pub taken : List StarRow → List ℕ
taken rows = flat_map (λ row. row.first ∷ row.second ∷ row.third ∷ []) rows

-- the copies in none, in order
abbrev pub rest_of : ℕ → List StarRow → List ℕ
rest_of count rows = filter (λ c. not (list_any (eqb c) (taken rows))) (range_with_len 0 count)

-- ---- permutations of some numbers

-- a permutation of the numbers, as the list of what each goes to
pub record IsRearranged (numbers images : List ℕ) : Type 0 where
  pub long : length images ≡ length numbers
  pub among : (c : ℕ) → Contains images c → Contains numbers c
  pub distinct : AllPairs (λ i j. i ≢ j) images

-- the permutation that an assignment of their places gives
abbrev pub rearranged : List ℕ → List ℕ → List ℕ
rearranged numbers assignment = map (λ i. slice_index_or numbers i 0) assignment

-- lower bounds of numbers, by their places
abbrev pub place_lower : (ℕ → ℕ → ℕ) → List ℕ → ℕ → ℕ → ℕ
place_lower lower numbers i j = lower (slice_index_or numbers i 0) (slice_index_or numbers j 0)

-- the sum of the lower bounds of each number and its image
abbrev pub paired_sum : (ℕ → ℕ → ℕ) → List ℕ → List ℕ → ℕ
paired_sum lower [] images = 0
paired_sum lower (c ∷ cs) [] = 0
paired_sum lower (c ∷ cs) (d ∷ ds) = lower c d + paired_sum lower cs ds

-- ---- stars

-- justified rows, no copy in two of them, and the images of the rest
pub record IsStar (points : List Point) (F : Frame) (copies : List (List Edge)) (lower : ℕ → ℕ → ℕ) (rows : List StarRow) (images : List ℕ) : Type 0 where
  pub justified : All (λ row. IsJustified points F copies lower row) rows
  pub distinct : AllPairs (λ c d. c ≢ d) (taken rows)
  pub rest : IsRearranged (rest_of (length copies) rows) images

-- the numbers of the rows, and half the sum of the rest's lower bounds, rounded up
abbrev pub star_bound : (ℕ → ℕ → ℕ) → ℕ → List StarRow → List ℕ → ℕ
star_bound lower count rows images = sum_by (λ row. row.lower) rows + (paired_sum lower (rest_of count rows) images + 1) / 2

-- the rows are those of copies 0, 1, 2, then 3, 4, 5 and so on, as many as there are copies for
pub record AreInRow (count : ℕ) (rows : List StarRow) : Type 0 where
  pub row : taken rows ≡ range_with_len 0 (3 * length rows)
  pub within : 3 * length rows ≤ count
  pub most : count < 3 * length rows + 3

-- a star of rows in a row, each earned with the budget of a triple, whose rest is permuted with the greatest bound
pub record IsBestStar (points : List Point) (F : Frame) (copies : List (List Edge)) (lower : ℕ → ℕ → ℕ) (rows : List StarRow) (images : List ℕ) : Type 0 where
  pub star : IsStar points F copies lower rows images
  pub in_row : AreInRow (length copies) rows
  pub earned : All (λ row. IsEarned points F copies lower (triple_budget (length rows)) row) rows
  pub best : (other : List ℕ) → IsRearranged (rest_of (length copies) rows) other → star_bound lower (length copies) rows other ≤ star_bound lower (length copies) rows images
