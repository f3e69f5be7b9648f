-- The laws of what a solver leaves. Each is the contract of a function of the crate, so each is proved.
use Rattle.std.specs.Prelude.{◌≡◌, ◌≢◌, List, slice_get, Some, ℕ}
use Rattle.tri_check.specs.Problems.{Problem, IsProblem}
use Rattle.plan_law.specs.Solving.{turns_of}
use Rattle.book_core.specs.HeldBooks.{HeldBook, now_of}
use Rattle.worker_pool.specs.declared.outcome.Outcome.{Outcome}
use Rattle.worker_pool.specs.declared.outcome.Outcome.TheVariants.{NoMemory}
use Rattle.book_solve.specs.Crews.{IsRun}
use Rattle.worker_pool.specs.Finishes.{IsFinished}
use Rattle.book_solve.specs.declared.order.Order.{Order}
use Rattle.book_solve.specs.Solved.{turns_for, plan_lines, IsSolvedBook}

-- the turns of a run, of which none wanted memory, and then the finish, leave a solved book
abbrev pub TurnsAndFinishSolve : Type 0
TurnsAndFinishSolve =
    (problem : Problem) (order : Order) (run end : HeldBook) (outcomes : List Outcome) → IsProblem problem.points problem.inputs → IsRun problem order run outcomes → ((u : ℕ) → slice_get outcomes u ≢ Some NoMemory)
    → IsFinished (turns_of (turns_for problem order) problem.inputs) run end → IsSolvedBook problem order end

-- where no worker is asked for, the instance and the order decide which moves and swaps a solved book has, and so its plan
abbrev pub PlansAreDetermined : Type 0
PlansAreDetermined =
    (problem : Problem) (order : Order) (book other : HeldBook) → order.workers ≡ 0 → IsProblem problem.points problem.inputs → IsSolvedBook problem order book → IsSolvedBook problem order other
    → (plan_lines book.journal ≡ plan_lines other.journal) × ((now_of book).plan ≡ (now_of other).plan)
