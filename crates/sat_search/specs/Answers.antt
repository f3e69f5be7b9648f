-- What a search answers.
use Rattle.std.specs.Prelude.{◌≡◌, ℕ, length}
use Rattle.log_law.specs.Clauses.{Formula, IsModel, listed}
pub use Rattle.log_law.specs.Budgets.{IsRefutation, PassesAtLast, IsSpent}
use Rattle.sat_search.specs.declared.search.Answer.{Answer}
use Rattle.sat_search.specs.declared.search.Answer.TheVariants.{Sat, Refuted, Spent}

abbrev pub IsAnswer : Formula → ℕ → Answer → Type 0
IsAnswer formula budget (Sat truth) = (length truth ≡ formula.variables) × IsModel (listed truth) formula.clauses
IsAnswer formula budget (Refuted log) = IsRefutation formula budget log
IsAnswer formula budget (Spent log) = IsSpent formula budget log
