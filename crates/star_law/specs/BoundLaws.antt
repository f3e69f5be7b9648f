-- The laws of star rows and of what a star bounds. Each is the contract of a function of the crate, so each is proved.
use Rattle.std.specs.Prelude.{◌≡◌, ◌≢◌, ℕ, ◌+◌, ◌-◌, ◌*◌, ◌<◌, ◌≤◌, List, length, sum, All, AllPairs}
use Rattle.std.specs.List.{range_with_len}
use Rattle.geo_orient.specs.declared.Point.{Point}
use Rattle.edge_table.specs.declared.edge.Edge.{Edge}
use Rattle.tri_theory.specs.Points.{ArePlaced}
use Rattle.tri_theory.specs.Triangulations.{IsTriangulation}
use Rattle.tri_theory.specs.Rounds.{IsPlan, AreWeights, total}
use Rattle.assignment_law.specs.Assignments.{IsAssignment, IsBest, assignment_sum}
use Rattle.bound_law.specs.Copies.{copied}
use Rattle.bound_law.specs.Bounds.{input_at, AreLowerBounds}
use Rattle.formula_law.specs.Frames.{Frame, IsFrame}
use Rattle.star_law.specs.Splits.{Split, SplitMeets}
use Rattle.star_law.specs.StarRows.{StarRow, Met, triple_budget, IsJustified, IsEarned, IsTrue}
use Rattle.star_law.specs.Stars.{taken, rest_of, IsRearranged, rearranged, place_lower, paired_sum, IsStar, star_bound, AreInRow, IsBestStar}

-- a justified row is true
abbrev pub JustifiedRowsAreTrue : Type 0
JustifiedRowsAreTrue =
    (points : List Point) (F : Frame) (copies : List (List Edge)) (lower : ℕ → ℕ → ℕ) (row : StarRow) → ArePlaced points → IsFrame points F → All (λ edges. IsTriangulation points edges) copies
    → AreLowerBounds points copies lower → IsJustified points F copies lower row → IsTrue points copies row

-- where its end is met, the legs of the split meet, so no greater number is true
abbrev pub MetRowsAreExact : Type 0
MetRowsAreExact =
    (points : List Point) (F : Frame) (copies : List (List Edge)) (lower : ℕ → ℕ → ℕ) (row : StarRow) (split : Split) (legs : List (List (List Edge))) → IsJustified points F copies lower row → row.end ≡ Met split legs
    → SplitMeets points (input_at copies row.first) (input_at copies row.second) (input_at copies row.third) split × (split.0 + split.1 + split.2 ≡ row.lower)

-- no plan has a total below the bound of a star of the copies
abbrev pub StarsBoundPlans : Type 0
StarsBoundPlans =
    (points : List Point) (F : Frame) (inputs : List (List Edge)) (weights : List ℕ) (centre : List Edge) (schedules : List (List (List Edge))) (lower : ℕ → ℕ → ℕ) (rows : List StarRow) (images : List ℕ)
    → ArePlaced points → IsFrame points F → All (λ edges. IsTriangulation points edges) inputs → AreWeights inputs weights → IsPlan points inputs centre schedules
    → AreLowerBounds points (copied weights inputs) lower → IsStar points F (copied weights inputs) lower rows images → star_bound lower (sum weights) rows images ≤ total weights schedules

-- ---- the rest

-- the permutations of distinct numbers are the assignments of their places, and have the same sums
abbrev pub AssignmentsRearrange : Type 0
AssignmentsRearrange =
    (lower : ℕ → ℕ → ℕ) (numbers assignment : List ℕ) → AllPairs (λ i j. i ≢ j) numbers → IsAssignment (length numbers) assignment
    → IsRearranged numbers (rearranged numbers assignment) × (paired_sum lower numbers (rearranged numbers assignment) ≡ assignment_sum (place_lower lower numbers) assignment)

abbrev pub RearrangedAreAssignments : Type 0
RearrangedAreAssignments =
    (numbers images : List ℕ) → AllPairs (λ i j. i ≢ j) numbers → IsRearranged numbers images
    → (assignment : List ℕ) × IsAssignment (length numbers) assignment × (rearranged numbers assignment ≡ images)

-- so a best assignment gives the rest the greatest bound
abbrev pub BestAssignmentsAreBest : Type 0
BestAssignmentsAreBest =
    (lower : ℕ → ℕ → ℕ) (count : ℕ) (rows : List StarRow) (assignment images : List ℕ) → IsBest (place_lower lower (rest_of count rows)) (length (rest_of count rows)) assignment → IsRearranged (rest_of count rows) images
    → star_bound lower count rows images ≤ star_bound lower count rows (rearranged (rest_of count rows) assignment)

-- rows of copies in a row are disjoint, and the rest are the copies after them
abbrev pub RowsAreApart : Type 0
RowsAreApart =
    (count : ℕ) (rows : List StarRow) → AreInRow count rows
    → All (λ c. c < count) (taken rows) × AllPairs (λ c d. c ≢ d) (taken rows) × (rest_of count rows ≡ range_with_len (3 * length rows) (count - 3 * length rows))

-- so earned rows in a row, with a best assignment of the places of the rest, are a star, and the best of these rows
abbrev pub EarnedRowsMakeBestStars : Type 0
EarnedRowsMakeBestStars =
    (points : List Point) (F : Frame) (copies : List (List Edge)) (lower : ℕ → ℕ → ℕ) (rows : List StarRow) (assignment : List ℕ) → AreInRow (length copies) rows
    → All (λ row. IsEarned points F copies lower (triple_budget (length rows)) row) rows → IsBest (place_lower lower (rest_of (length copies) rows)) (length (rest_of (length copies) rows)) assignment
    → IsBestStar points F copies lower rows (rearranged (rest_of (length copies) rows) assignment)
