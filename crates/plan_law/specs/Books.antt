-- Books: an opening plan and a journal of entries. What a state is, which entries are fit, and which journals are legal.
use Rattle.std.specs.Prelude.{◌≡◌, ◌≢◌, ℕ, ◌<◌, min, max, Bool, true, false, ◌&&◌, eqb, Option, Some, None, unwrap_or, List, [], ◌∷◌, ◌++◌, length, sum, find, All, AllPairs, count_by}
use Rattle.std.specs.List.{range_with_len}
use Rattle.geo_orient.specs.declared.Point.{Point}
use Rattle.edge_table.specs.declared.edge.Edge.{Edge}
use Rattle.tri_theory.specs.Rounds.{IsSchedule, Within}
use Rattle.assignment_law.specs.Assignments.{IsAssignment, assignment_bound}
use Rattle.bound_law.specs.Copies.{copy_lower}
use Rattle.bound_law.specs.Bounds.{input_at}
use Rattle.plan_law.specs.Plans.{Plan, IsPlanOf, plan_total, followed_all, swapped}

-- ---- rows

-- a lower bound for two inputs, with its evidence
pub record PairRow (E : Type 0) : Type 0 where
  pub low : ℕ
  pub high : ℕ
  pub lower : ℕ
  pub evidence : E

-- fewer rounds than the lower bound don't lead from the one input to the other
abbrev pub IsTrueRow : {E : Type 0} → List Point → List (List Edge) → PairRow E → Type 0
IsTrueRow points inputs row = (k : ℕ) → k < row.lower → ¬ Within points (input_at inputs row.low) (input_at inputs row.high) k

-- the row of two inputs, the lower one first
abbrev pub row_of : {E : Type 0} → List (PairRow E) → ℕ → ℕ → Option (PairRow E)
row_of rows i j = find (λ row. eqb row.low i && eqb row.high j) rows

-- the lower bound of two inputs in either order: that of their row, and 0 without one
abbrev pub lower_of : {E : Type 0} → List (PairRow E) → ℕ → ℕ → ℕ
lower_of rows i j = elim (row_of rows (min i j) (max i j)) [ Some row ↦ row.lower | None ↦ 0 ]

-- ---- entries

pub data Entry (E : Type 0) : Type 0 where
  Move : (turn : ℕ) → (edges : List Edge) → Entry E
  Swap : (turn : ℕ) → (input : ℕ) → (rounds : List (List Edge)) → Entry E
  Row : (turn : ℕ) → (row : PairRow E) → Entry E
  Pack : (turn : ℕ) → (assignment : List ℕ) → Entry E

-- a move or a swap
abbrev pub is_plan_entry : {E : Type 0} → Entry E → Bool
is_plan_entry (Move turn edges) = true
is_plan_entry (Swap turn input rounds) = true
is_plan_entry (Row turn row) = false
is_plan_entry (Pack turn assignment) = false

-- ---- states

pub record State (E : Type 0) : Type 0 where
  pub plan : Plan
  pub rows : List (PairRow E)
  pub assignment : List ℕ

-- half the sum of the lower bounds that an assignment of the copies has, rounded up
abbrev pub bound_of : {E : Type 0} → State E → List ℕ → ℕ
bound_of state assignment = assignment_bound (copy_lower state.plan.weights (lower_of state.rows)) assignment

-- that of its own assignment
abbrev pub bound : {E : Type 0} → State E → ℕ
bound state = bound_of state state.assignment

-- each copy is assigned to itself
abbrev pub identity : ℕ → List ℕ
identity n = range_with_len 0 n

abbrev pub opening_state : {E : Type 0} → Plan → State E
opening_state plan = record { plan = plan; rows = []; assignment = identity (sum plan.weights) }

-- the plan after an entry, if its edges can be followed, or the edges of its rounds flip in turn
abbrev pub plan_after : {E : Type 0} → List Point → List (List Edge) → Plan → Entry E → Option Plan
plan_after points inputs plan (Move turn edges) = followed_all points plan edges
plan_after points inputs plan (Swap turn input rounds) = swapped points inputs plan input rounds
plan_after points inputs plan (Row turn row) = Some plan
plan_after points inputs plan (Pack turn assignment) = Some plan

abbrev pub rows_after : {E : Type 0} → List (PairRow E) → Entry E → List (PairRow E)
rows_after rows (Move turn edges) = rows
rows_after rows (Swap turn input rounds) = rows
rows_after rows (Row turn row) = rows ++ (row ∷ [])
rows_after rows (Pack turn assignment) = rows

abbrev pub assignment_after : {E : Type 0} → List ℕ → Entry E → List ℕ
assignment_after old (Move turn edges) = old
assignment_after old (Swap turn input rounds) = old
assignment_after old (Row turn row) = old
assignment_after old (Pack turn assignment) = assignment

abbrev pub after_entry : {E : Type 0} → List Point → List (List Edge) → State E → Entry E → State E
after_entry points inputs state entry = record {
  plan = unwrap_or (plan_after points inputs state.plan entry) state.plan;
  rows = rows_after state.rows entry;
  assignment = assignment_after state.assignment entry;
}

-- the state after a journal
abbrev pub state_after : {E : Type 0} → List Point → List (List Edge) → State E → List (Entry E) → State E
state_after points inputs state [] = state
state_after points inputs state (entry ∷ journal) = state_after points inputs (after_entry points inputs state entry) journal

-- ---- fit entries

-- the rounds lead from the input to the centre, and each names an edge once
pub record AreRoundsOf (points : List Point) (input : List Edge) (rounds : List (List Edge)) (centre : List Edge) : Type 0 where
  pub distinct : All (λ round. AllPairs ◌≢◌ round) rounds
  pub leads : IsSchedule points input rounds centre

-- an input that is there, a justified row of two inputs, or an assignment of the copies
abbrev pub MayBeOffered : {E : Type 0} → (PairRow E → Type 0) → ℕ → ℕ → Entry E → Type 0
MayBeOffered justified count copies (Move turn edges) = Unit {0}
MayBeOffered justified count copies (Swap turn input rounds) = input < count
MayBeOffered justified count copies (Row turn row) = (row.low < row.high) × (row.high < count) × justified row
MayBeOffered justified count copies (Pack turn assignment) = IsAssignment copies assignment

-- what comes after the plan is a plan of a lower total
abbrev pub Lowers : Plan → Option Plan → Type 0
Lowers plan after = (next : Plan) × (after ≡ Some next) × (plan_total next < plan_total plan)

abbrev pub IsFit : {E : Type 0} → List Point → List (List Edge) → State E → Entry E → Type 0
IsFit points inputs state (Move turn edges) = Lowers state.plan (followed_all points state.plan edges)
IsFit points inputs state (Swap turn input rounds) = AreRoundsOf points (input_at inputs input) rounds state.plan.centre × Lowers state.plan (swapped points inputs state.plan input rounds)
IsFit points inputs state (Row turn row) = row_of state.rows row.low row.high ≡ None
IsFit points inputs state (Pack turn assignment) = bound state < bound_of state assignment

-- each entry is fit at the state after the earlier ones
abbrev pub IsLegal : {E : Type 0} → (PairRow E → Type 0) → List Point → List (List Edge) → State E → List (Entry E) → Type 0
IsLegal justified points inputs state [] = Unit {0}
IsLegal justified points inputs state (entry ∷ journal) =
    MayBeOffered justified (length inputs) (sum state.plan.weights) entry × IsFit points inputs state entry × IsLegal justified points inputs (after_entry points inputs state entry) journal

-- ---- books

pub record Book (E : Type 0) : Type 0 where
  pub opening : Plan
  pub journal : List (Entry E)

abbrev pub state_of : {E : Type 0} → List Point → List (List Edge) → Book E → State E
state_of points inputs book = state_after points inputs (opening_state book.opening) book.journal

-- the number of plan entries
abbrev pub front : {E : Type 0} → List (Entry E) → ℕ
front journal = count_by is_plan_entry journal

-- the opening is a plan, and the journal is legal from there
pub record IsBook {E : Type 0} (justified : PairRow E → Type 0) (points : List Point) (inputs : List (List Edge)) (book : Book E) : Type 0 where
  pub opens : IsPlanOf points inputs book.opening
  pub legal : IsLegal justified points inputs (opening_state book.opening) book.journal
