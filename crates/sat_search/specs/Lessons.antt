-- What a conflict teaches, and how far a search has come.
use Rattle.std.specs.Prelude.{◌≡◌, ◌≢◌, ◌⊎◌, ℕ, ◌+◌, ◌<◌, ◌≤◌, List, [], ◌∷◌, All}
use Rattle.log_law.specs.Clauses.{Clause, Formula}
use Rattle.log_law.specs.Logs.{Line, known, clause_at, AllFollow, AllNew, log_cost}
use Rattle.log_law.specs.Trails.{Resolved, IsAsserting, IsLearnt}
use Rattle.log_law.specs.SearchLaws.{IsConflict}
use Rattle.sat_state.specs.Searches.{Search}

-- the clause asserts a literal above level 0, or there is nothing left at level 0
abbrev pub IsEnd : Search → Clause → Type 0
IsEnd search clause = ((0 < search.level) × ((place : ℕ) × IsAsserting search.trail search.level clause place)) ⊎ ((search.level ≡ 0) × (clause ≡ []))

-- the line says what the resolution of the conflict leaves at its end
pub record IsLesson (search : Search) (conflict : ℕ) (line : Line) : Type 0 where
  pub used : List ℕ
  pub clause : Clause
  pub resolved : Resolved search.clauses search.trail (clause_at search.clauses conflict) used clause
  pub learnt : IsLearnt search.clauses search.trail conflict used clause line
  pub ends : IsEnd search clause

-- a conflict teaches a clause
pub record IsTaught (search : Search) (clause : Clause) : Type 0 where
  pub conflict : ℕ
  pub falsified : IsConflict search.clauses search.trail conflict
  pub line : Line
  pub lesson : IsLesson search conflict line
  pub says : line.literals ≡ clause

-- the lines with these clauses and hints, whose identifiers count on from a number
abbrev pub lines_from : ℕ → List Clause → List (List ℕ) → List Line
lines_from id [] hints = []
lines_from id (clause ∷ clauses) [] = []
lines_from id (clause ∷ clauses) (used ∷ hints) = record { id = id; literals = clause; hints = used } ∷ lines_from (id + 1) clauses hints

-- a log within its budget that hasn't refuted the formula, and a state that knows its lines
pub record IsUnderWay (formula : Formula) (budget : ℕ) (search : Search) (log : List Line) (cost : ℕ) : Type 0 where
  pub variables : search.variables ≡ formula.variables
  pub clauses : search.clauses ≡ known formula log
  pub follow : AllFollow formula log
  pub new : AllNew formula log
  pub counted : cost ≡ log_cost log
  pub within : cost ≤ budget
  pub unrefuted : All (λ line. line.literals ≢ []) log
