-- Which variables have values, and the list of these. Which of the others wait to be decided.
use Rattle.std.specs.Prelude.{◌≡◌, ◌≢◌, ℕ, ◌+◌, Bool, true, false, Option, Some, None, List, [], ◌∷◌, ◌++◌, map, length, slice_index_or, All, Contains}
use Rattle.log_law.specs.declared.Lit.{Lit}
use Rattle.log_law.specs.Clauses.{IsVariable, listed}
use Rattle.log_law.specs.Units.{Partial, value, IsUnassigned, IsAtRest}
use Rattle.log_law.specs.Trails.{literals}
use Rattle.sat_state.specs.Searches.{Search}
use Rattle.sat_search.specs.declared.order.Rank.{Rank}

-- each variable up to a number has a value
abbrev pub AreAssigned : Search → ℕ → Type 0
AreAssigned search n = (v : ℕ) → IsVariable n v → value (literals search.trail) v ≢ None

-- a literal of an unassigned variable, or none where each variable up to a number has a value
abbrev pub IsChoice : Search → ℕ → Option Lit → Type 0
IsChoice search n None = AreAssigned search n
IsChoice search n (Some l) = IsVariable search.variables l.var × IsUnassigned (literals search.trail) l

-- at rest each variable has a value
abbrev pub IsFull : Search → Type 0
IsFull search = IsAtRest (literals search.trail) search.clauses × AreAssigned search search.variables

-- a list has the value of each variable up to a number
abbrev pub AreTold : Search → ℕ → List Bool → Type 0
AreTold search n truth = (v : ℕ) → IsVariable n v → value (literals search.trail) v ≡ Some (listed truth v)

-- ---- the variables that wait to be decided

-- a number of variables, and which of them wait. Place v of the list is for variable v
pub record Queue : Type 0 where
  pub variables : ℕ
  pub waits : List Bool

abbrev pub IsWaiting : Queue → ℕ → Type 0
IsWaiting queue v = slice_index_or queue.waits v false ≡ true

-- the variables that ranks name
abbrev pub ranked : List Rank → List ℕ
ranked ranks = map (λ rank. rank.var.0) ranks

-- each variable up to a number that waits has a rank
abbrev pub AreRanked : ℕ → List Bool → List Rank → Type 0
AreRanked n waits ranks = (v : ℕ) → IsVariable n v → slice_index_or waits v false ≡ true → Contains (ranked ranks) v

-- what is kept for each variable, and the ranks
pub record IsQueue (queue : Queue) (activity : List ℕ) (phases : List Bool) (ranks : List Rank) : Type 0 where
  pub waits_wide : length queue.waits ≡ queue.variables + 1
  pub activity_wide : length activity ≡ queue.variables + 1
  pub phases_wide : length phases ≡ queue.variables + 1
  pub in_range : All (IsVariable queue.variables) (ranked ranks)
  pub has_rank : AreRanked queue.variables queue.waits ranks

-- each variable that is unassigned waits
pub record IsReady (variables : ℕ) (P : Partial) (queue : Queue) : Type 0 where
  pub same : queue.variables ≡ variables
  pub waits : (v : ℕ) → IsVariable variables v → value P v ≡ None → IsWaiting queue v

-- what waited waits still
pub record KeepsWaiting (old new : Queue) : Type 0 where
  pub same : new.variables ≡ old.variables
  pub still : (v : ℕ) → IsWaiting old v → IsWaiting new v

-- a partial assignment with the literal that was chosen, where there is one
abbrev pub with_choice : Partial → Option Lit → Partial
with_choice P None = P
with_choice P (Some l) = P ++ l ∷ []
