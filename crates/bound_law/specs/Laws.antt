-- The laws of copies and of the assignment bound. Each is the contract of a function of the crate, so each is proved.
use Rattle.std.specs.Prelude.{◌≡◌, ℕ, ◌+◌, ◌<◌, ◌≤◌, List, [], length, take, map, replicate, slice_index_or, sum, All}
use Rattle.geo_orient.specs.declared.Point.{Point}
use Rattle.edge_table.specs.declared.edge.Edge.{Edge}
use Rattle.tri_theory.specs.Points.{ArePlaced}
use Rattle.tri_theory.specs.Triangulations.{IsTriangulation}
use Rattle.tri_theory.specs.Rounds.{Within, IsPlan, AreWeights, total}
use Rattle.assignment_law.specs.Assignments.{IsAssignment, assignment_bound}
use Rattle.bound_law.specs.Copies.{copied, copy_of, copy_lower}
use Rattle.bound_law.specs.Bounds.{input_at, AreLowerBounds}

-- ---- copies

-- there are as many copies as the weights sum up to
abbrev pub CopiesAreCounted : Type 0
CopiesAreCounted = (inputs : List (List Edge)) (weights : List ℕ) → AreWeights inputs weights → length (copied weights inputs) ≡ sum weights

-- the copies of input t come after those of the inputs before it
abbrev pub CopiesAreInOrder : Type 0
CopiesAreInOrder = (weights : List ℕ) (t n : ℕ) → t < length weights → n < slice_index_or weights t 0 → copy_of weights (sum (take t weights) + n) ≡ t

-- each copy is equal to its input
abbrev pub CopiesAreInputs : Type 0
CopiesAreInputs =
    (inputs : List (List Edge)) (weights : List ℕ) (c : ℕ) → AreWeights inputs weights → c < sum weights
    → (copy_of weights c < length inputs) × (input_at (copied weights inputs) c ≡ input_at inputs (copy_of weights c))

-- where each input has the weight 1, it is its one copy
abbrev pub UnitWeightsCopyOnce : Type 0
UnitWeightsCopyOnce = (inputs : List (List Edge)) → copied (replicate (length inputs) 1) inputs ≡ inputs

-- and the bound of an assignment of the copies is that of an assignment of the inputs
abbrev pub UnitWeightsKeepBounds : Type 0
UnitWeightsKeepBounds =
    (n : ℕ) (lower : ℕ → ℕ → ℕ) (assignment : List ℕ) → IsAssignment n assignment → assignment_bound (copy_lower (replicate n 1) lower) assignment ≡ assignment_bound lower assignment

-- a plan's schedules, copied, are a plan of the copies, and its total is the number of their rounds
abbrev pub CopiesArePlans : Type 0
CopiesArePlans =
    (points : List Point) (inputs : List (List Edge)) (weights : List ℕ) (centre : List Edge) (schedules : List (List (List Edge))) → IsPlan points inputs centre schedules
    → IsPlan points (copied weights inputs) centre (copied weights schedules) × (sum (map (λ rounds. length rounds) (copied weights schedules)) ≡ total weights schedules)

-- lower bounds of the inputs are lower bounds of the copies
abbrev pub CopiesKeepBounds : Type 0
CopiesKeepBounds =
    (points : List Point) (inputs : List (List Edge)) (weights : List ℕ) (lower : ℕ → ℕ → ℕ) → AreWeights inputs weights → AreLowerBounds points inputs lower
    → AreLowerBounds points (copied weights inputs) (copy_lower weights lower)

-- ---- bounds

-- two inputs are within the rounds that a plan has for both
abbrev pub PlansJoinInputs : Type 0
PlansJoinInputs =
    (points : List Point) (inputs : List (List Edge)) (centre : List Edge) (schedules : List (List (List Edge))) (i j : ℕ) → ArePlaced points → All (λ edges. IsTriangulation points edges) inputs → IsPlan points inputs centre schedules
    → i < length inputs → j < length inputs → Within points (input_at inputs i) (input_at inputs j) (length (slice_index_or schedules i []) + length (slice_index_or schedules j []))

-- no plan has a total below the bound of an assignment of the copies
abbrev pub AssignmentsBoundPlans : Type 0
AssignmentsBoundPlans =
    (points : List Point) (inputs : List (List Edge)) (weights : List ℕ) (centre : List Edge) (schedules : List (List (List Edge))) (lower : ℕ → ℕ → ℕ) (assignment : List ℕ) → ArePlaced points → All (λ edges. IsTriangulation points edges) inputs
    → AreWeights inputs weights → IsPlan points inputs centre schedules → AreLowerBounds points inputs lower → IsAssignment (sum weights) assignment → assignment_bound (copy_lower weights lower) assignment ≤ total weights schedules
