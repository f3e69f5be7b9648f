-- Logs of new lines that refute within a budget, or that pass it by their last line.
use Rattle.std.specs.Prelude.{◌≡◌, ℕ, ◌<◌, ◌≤◌, List, [], ◌∷◌, ◌++◌}
use Rattle.log_law.specs.Clauses.{Formula}
use Rattle.log_law.specs.Logs.{Line, AllFollow, Refutes, AllNew, log_cost}

-- a log of new lines refutes the formula within the budget
pub record IsRefutation (formula : Formula) (budget : ℕ) (log : List Line) : Type 0 where
  pub refutes : Refutes formula log
  pub new : AllNew formula log
  pub within : log_cost log ≤ budget

-- the last line takes the cost over the budget
pub record PassesAtLast (budget : ℕ) (log : List Line) : Type 0 where
  pub before : List Line
  pub last : Line
  pub ends : log ≡ before ++ last ∷ []
  pub within : log_cost before ≤ budget
  pub over : budget < log_cost log

-- a log of new lines that follow passes the budget by its last line alone
pub record IsSpent (formula : Formula) (budget : ℕ) (log : List Line) : Type 0 where
  pub follow : AllFollow formula log
  pub new : AllNew formula log
  pub passes : PassesAtLast budget log
