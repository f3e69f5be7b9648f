-- The laws of books and worlds, for each kind of evidence and each notion of justified rows.
use Rattle.std.specs.Prelude.{◌≡◌, ◌⊎◌, ◌↔◌, ℕ, ◌+◌, ◌-◌, ◌<◌, ◌≤◌, true, Option, Some, List, [], ◌∷◌, ◌++◌, length, sum, slice_get, take, All, Contains}
use Rattle.geo_orient.specs.declared.Point.{Point}
use Rattle.edge_table.specs.declared.edge.Edge.{Edge}
use Rattle.tri_theory.specs.Rounds.{Within, IsPlan, total}
use Rattle.tri_theory.specs.Crossings.{crossings}
use Rattle.crossing_law.specs.Digits.{digits}
use Rattle.assignment_law.specs.Assignments.{IsAssignment}
use Rattle.bound_law.specs.Bounds.{input_at}
use Rattle.plan_law.specs.Plans.{IsInstance, IsPlanOf, plan_total}
use Rattle.plan_law.specs.Books.{PairRow, IsTrueRow, lower_of, Entry, is_plan_entry, State, bound, after_entry, state_after, MayBeOffered, IsFit, IsLegal, Book, state_of, front, IsBook}
use Rattle.plan_law.specs.Worlds.{Replica, Event, Offer, Reply, World, world_at, Step, Run, IsWorld}

-- what makes a row justified, for the points and inputs of an instance
abbrev pub Justification : Type 0 → Type 1
Justification E = List Point → List (List Edge) → PairRow E → Type 0

-- a justified row is true
abbrev pub JustifiedRowsAreTrue : (E : Type 0) → Justification E → Type 0
JustifiedRowsAreTrue E justified =
    (points : List Point) (inputs : List (List Edge)) (row : PairRow E) → IsInstance points inputs → row.low < row.high → row.high < length inputs → justified points inputs row → IsTrueRow points inputs row

-- ---- one entry

-- a fit entry never raises the total nor lowers the bound, and a plan entry lowers the total
pub record Improves {E : Type 0} (before : State E) (entry : Entry E) (after : State E) : Type 0 where
  pub total_falls : is_plan_entry entry ≡ true → plan_total after.plan < plan_total before.plan
  pub total_kept : plan_total after.plan ≤ plan_total before.plan
  pub bound_kept : bound before ≤ bound after

abbrev pub FitEntriesImprove : Type 0 → Type 0
FitEntriesImprove E =
    (points : List Point) (inputs : List (List Edge)) (state : State E) (entry : Entry E) → IsFit points inputs state entry → Improves state entry (after_entry points inputs state entry)

-- ---- journals

-- a journal with one entry more is legal where the entry is fit after it
abbrev pub JournalsGrow : (E : Type 0) → Justification E → Type 0
JournalsGrow E justified =
    (points : List Point) (inputs : List (List Edge)) (start : State E) (journal : List (Entry E)) (entry : Entry E) → IsLegal (justified points inputs) points inputs start journal
    → MayBeOffered (justified points inputs) (length inputs) (sum start.plan.weights) entry → IsFit points inputs (state_after points inputs start journal) entry → IsLegal (justified points inputs) points inputs start (journal ++ (entry ∷ []))

-- the state after a legal journal has a plan, an assignment of the copies, and justified rows
pub record IsState {E : Type 0} (justified : PairRow E → Type 0) (points : List Point) (inputs : List (List Edge)) (state : State E) : Type 0 where
  pub is_plan : IsPlanOf points inputs state.plan
  pub is_assignment : IsAssignment (sum state.plan.weights) state.assignment
  pub are_justified : All (λ row. (row.low < row.high) × (row.high < length inputs) × justified row) state.rows

abbrev pub BooksKeepPlans : (E : Type 0) → Justification E → Type 0
BooksKeepPlans E justified =
    (points : List Point) (inputs : List (List Edge)) (book : Book E) → IsInstance points inputs → IsBook (justified points inputs) points inputs book → IsState (justified points inputs) points inputs (state_of points inputs book)

-- its plan has the weights of the start
abbrev pub JournalsKeepWeights : Type 0 → Type 0
JournalsKeepWeights E =
    (points : List Point) (inputs : List (List Edge)) (start : State E) (journal : List (Entry E)) → (state_after points inputs start journal).plan.weights ≡ start.plan.weights

-- each entry of a legal journal improves
abbrev pub JournalsImprove : (E : Type 0) → Justification E → Type 0
JournalsImprove E justified =
    (points : List Point) (inputs : List (List Edge)) (start : State E) (journal : List (Entry E)) (k : ℕ) (entry : Entry E) → IsLegal (justified points inputs) points inputs start journal → slice_get journal k ≡ Some entry
    → Improves (state_after points inputs start (take k journal)) entry (state_after points inputs start (take (k + 1) journal))

-- so along a legal journal the total never rises and the bound never falls
abbrev pub JournalsNeverWorsen : (E : Type 0) → Justification E → Type 0
JournalsNeverWorsen E justified =
    (points : List Point) (inputs : List (List Edge)) (start : State E) (earlier later : List (Entry E)) → IsLegal (justified points inputs) points inputs start (earlier ++ later)
    → (plan_total (state_after points inputs start (earlier ++ later)).plan + front later ≤ plan_total (state_after points inputs start earlier).plan)
    × (bound (state_after points inputs start earlier) ≤ bound (state_after points inputs start (earlier ++ later)))

-- the bound of a book is above no plan's total
abbrev pub BooksBoundPlans : (E : Type 0) → Justification E → Type 0
BooksBoundPlans E justified =
    JustifiedRowsAreTrue E justified → (points : List Point) (inputs : List (List Edge)) (book : Book E) (centre : List Edge) (schedules : List (List (List Edge))) → IsInstance points inputs
    → IsBook (justified points inputs) points inputs book → IsPlan points inputs centre schedules → bound (state_of points inputs book) ≤ total book.opening.weights schedules

-- ---- worlds

-- the book has the same opening, and its journal begins with the old one
pub record Extends {E : Type 0} (old new : Book E) : Type 0 where
  pub opening : new.opening ≡ old.opening
  pub more : List (Entry E)
  pub journal : new.journal ≡ old.journal ++ more

-- an event keeps a world: the journal stays legal and begins with the one before, and each replica is the state after a prefix
abbrev pub StepsKeepWorlds : (E : Type 0) → Justification E → Type 0
StepsKeepWorlds E justified =
    (points : List Point) (inputs : List (List Edge)) (old new : World E) (event : Event E) (reply : Option Reply) → IsWorld (justified points inputs) points inputs old → Step (justified points inputs) points inputs old event reply new
    → IsWorld (justified points inputs) points inputs new × Extends old.book new.book

-- and so do events of any number of replicas, in any order
abbrev pub RunsKeepWorlds : (E : Type 0) → Justification E → Type 0
RunsKeepWorlds E justified =
    (points : List Point) (inputs : List (List Edge)) (old new : World E) (events : List (Event E)) (replies : List (Option Reply)) → IsWorld (justified points inputs) points inputs old
    → Run (justified points inputs) points inputs old events replies new → IsWorld (justified points inputs) points inputs new × Extends old.book new.book

-- a world begins with a legal book and no replica
abbrev pub WorldsBegin : (E : Type 0) → Justification E → Type 0
WorldsBegin E justified =
    (points : List Point) (inputs : List (List Edge)) (book : Book E) → IsBook (justified points inputs) points inputs book → IsWorld (justified points inputs) points inputs (world_at book)

-- a reply and the world after it are determined, where memory isn't wanting. So an entry is accepted, or refused for one cause
abbrev pub RepliesAreDetermined : (E : Type 0) → Justification E → Type 0
RepliesAreDetermined E justified =
    (points : List Point) (inputs : List (List Edge)) (old new other : World E) (event : Event E) (reply answer : Reply) → IsInstance points inputs → IsWorld (justified points inputs) points inputs old
    → Step (justified points inputs) points inputs old event (Some reply) new → Step (justified points inputs) points inputs old event (Some answer) other → (reply ≡ answer) × (new ≡ other)

-- and there is one for each entry that may be offered
abbrev pub OffersAreAnswered : (E : Type 0) → Justification E → Type 0
OffersAreAnswered E justified =
    (points : List Point) (inputs : List (List Edge)) (old : World E) (r : ℕ) (replica : Replica) (entry : Entry E) → IsInstance points inputs → IsWorld (justified points inputs) points inputs old
    → slice_get old.replicas r ≡ Some replica → MayBeOffered (justified points inputs) (length inputs) (sum old.book.opening.weights) entry
    → (reply : Reply) × (new : World E) × Step (justified points inputs) points inputs old (Offer r entry) (Some reply) new

-- ---- rows

-- the lower bound of two inputs is that of the two in the other order, and 0 of an input and itself. So it is 0 of two copies of one input
pub record IsSymmetric {E : Type 0} (rows : List (PairRow E)) : Type 0 where
  pub other_order : (i j : ℕ) → lower_of rows i j ≡ lower_of rows j i
  pub itself : All (λ row. row.low < row.high) rows → (i : ℕ) → lower_of rows i i ≡ 0

abbrev pub LowerBoundsAreSymmetric : Type 0 → Type 0
LowerBoundsAreSymmetric E = (rows : List (PairRow E)) → IsSymmetric rows

-- a row is true where an edge of the one input is crossed by so many members of the other that their number has as many binary digits as the lower bound says
abbrev pub CrossedRowsAreTrue : Type 0 → Type 0
CrossedRowsAreTrue E =
    (points : List Point) (inputs : List (List Edge)) (row : PairRow E) (e : Edge) → IsInstance points inputs → row.low < length inputs → row.high < length inputs
    → ((Contains (input_at inputs row.low) e × (row.lower ≡ digits (crossings points (input_at inputs row.high) e))) ⊎ (Contains (input_at inputs row.high) e × (row.lower ≡ digits (crossings points (input_at inputs row.low) e))))
    → IsTrueRow points inputs row

-- and where it says nothing
abbrev pub EmptyRowsAreTrue : Type 0 → Type 0
EmptyRowsAreTrue E = (points : List Point) (inputs : List (List Edge)) (row : PairRow E) → row.lower ≡ 0 → IsTrueRow points inputs row

-- a row is true exactly where one round fewer than it says doesn't lead from the one input to the other
abbrev pub TrueRowsRefuseOneFewer : Type 0 → Type 0
TrueRowsRefuseOneFewer E =
    (points : List Point) (inputs : List (List Edge)) (row : PairRow E) → IsTrueRow points inputs row ↔ (1 ≤ row.lower → ¬ Within points (input_at inputs row.low) (input_at inputs row.high) (row.lower - 1))
