-- How a state finds the clauses that a new literal touches, and what is pending.
use Rattle.std.specs.Prelude.{◌≡◌, ◌≢◌, ℕ, ◌+◌, ◌*◌, ◌<◌, ◌≤◌, ◌^◌, nat_eq, cond, is_none, Option, None, List, [], ◌∷◌, ◌++◌, map, length, take, slice_index_or, slice_set, All, AllPairs, Contains}
use Rattle.log_law.specs.declared.Lit.{Lit}
use Rattle.log_law.specs.Clauses.{Clause, negated, IsVariable, IsClause}
use Rattle.log_law.specs.Units.{Partial, remaining, IsFalsified, IsUnit, IsStill}
use Rattle.log_law.specs.declared.Step.{Step}
use Rattle.log_law.specs.Trails.{step_at, place_of, literals}
use Rattle.sat_state.specs.Searches.{Search, IsSearch}
use Rattle.sat_state.specs.declared.look.Look.{Look}
use Rattle.sat_state.specs.declared.look.Look.TheVariants.{Falsified, Unit as OneLeft, Still}

-- ---- the steps, and for each variable the place of the one about it
pub record Held : Type 0 where
  pub variables : ℕ
  pub steps : List Step

pub record IsHeld (variables : ℕ) (steps : List Step) (places : List (Option ℕ)) : Type 0 where
  pub small : variables < 2 ^ 32
  pub in_range : All (λ step. IsVariable variables step.literal.var) steps
  pub apart : AllPairs (λ s t. s.literal.var ≢ t.literal.var) steps
  pub wide : length places ≡ variables + 1
  pub same : (v : ℕ) → slice_index_or places v None ≡ place_of steps v

-- ---- for each literal the numbers of the clauses that have it
abbrev pub slot : Lit → ℕ
slot l = 2 * l.var + cond l.on 1 0

abbrev pub slots : Clause → List ℕ
slots clause = map slot clause

abbrev pub uses_at : List (List ℕ) → ℕ → List ℕ
uses_at uses s = slice_index_or uses s []

-- one more number at the end of the lists at these slots
abbrev pub enlisted : List (List ℕ) → List ℕ → ℕ → List (List ℕ)
enlisted uses [] number = uses
enlisted uses (s ∷ ss) number = enlisted (slice_set uses s (uses_at uses s ++ number ∷ [])) ss number

-- how often a number stands in a list
abbrev pub times : ℕ → List ℕ → ℕ
times n [] = 0
times n (m ∷ ms) = cond (nat_eq m n) (times n ms + 1) (times n ms)

-- the clause with a number, counted from 0
abbrev pub clause_no : List Clause → ℕ → Clause
clause_no clauses c = slice_index_or clauses c []

-- a literal's list names a clause as often as the clause has the literal
abbrev pub IsIndexed : List Clause → List (List ℕ) → Type 0
IsIndexed clauses uses = (s : ℕ) → (c : ℕ) → times c (uses_at uses s) ≡ times s (slots (clause_no clauses c))

-- a clause's counter tells how many of its literals aren't false
abbrev pub IsCounted : Partial → List Clause → List ℕ → Type 0
IsCounted P clauses left = (c : ℕ) → slice_index_or left c 0 ≡ length (remaining P (clause_no clauses c))

-- ---- clauses under a trail
pub record Table : Type 0 where
  pub variables : ℕ
  pub clauses : List Clause
  pub steps : List Step
  pub uses : List (List ℕ)

pub record IsTable (variables : ℕ) (clauses : List Clause) (steps : List Step) (uses : List (List ℕ)) (left : List ℕ) : Type 0 where
  pub small : variables < 2 ^ 32
  pub clauses_fit : All (IsClause variables) clauses
  pub few : length clauses ≤ 4_000_000_000
  pub wide : length uses ≡ 2 * variables + 2
  pub indexed : IsIndexed clauses uses
  pub counters : length left ≡ length clauses
  pub counted : IsCounted (literals steps) clauses left

abbrev pub search_of : Table → ℕ → Search
search_of table level = record { variables = table.variables; clauses = table.clauses; trail = table.steps; level = level }

-- what a look at a clause tells
abbrev pub Tells : Partial → Clause → Look → Type 0
Tells P clause Falsified = IsFalsified P clause
Tells P clause (OneLeft l) = IsUnit P clause l
Tells P clause Still = IsStill P clause

-- ---- what is pending: clauses from a number on, and those that have a literal that is false by a step from a place on
abbrev pub IsUntouched : ℕ → List Step → Clause → Type 0
IsUntouched from steps clause = (place : ℕ) → from ≤ place → place < length steps → ¬ Contains clause (negated (step_at steps place).literal)

-- all other clauses are still
abbrev pub IsSettled : ℕ → ℕ → Table → Type 0
IsSettled seen looked table =
    (c : ℕ) → c < seen → IsUntouched looked table.steps (clause_no table.clauses c) → IsStill (literals table.steps) (clause_no table.clauses c)

-- ---- levels
abbrev pub decisions : List Step → ℕ
decisions [] = 0
decisions (step ∷ steps) = cond (is_none step.reason) 1 0 + decisions steps

-- a level is the number of decisions up to it
pub record IsLevelled (steps : List Step) (level : ℕ) : Type 0 where
  pub each : (place : ℕ) → place < length steps → (step_at steps place).level ≡ decisions (take (place + 1) steps)
  pub last : level ≡ decisions steps

pub record IsState (table : Table) (level : ℕ) (looked : ℕ) (seen : ℕ) : Type 0 where
  pub small : table.variables < 2 ^ 32
  pub search : IsSearch (search_of table level)
  pub levelled : IsLevelled table.steps level
  pub looked_within : looked ≤ length table.steps
  pub seen_within : seen ≤ length table.clauses
  pub settled : IsSettled seen looked table
