-- What all turns leave, by so many workers.
use Rattle.std.specs.Prelude.{◌≡◌, ℕ, zero, suc, List, length}
use Rattle.flip_cnf.specs.HeldFrames.{HeldFrame, IsHeldFrame}
use Rattle.tri_check.specs.Problems.{Problem}
use Rattle.plan_law.specs.Solving.{turns_of}
use Rattle.plan_core.specs.HeldPlans.{HeldPlan}
use Rattle.book_core.specs.declared.entry.Entry.{Entry}
use Rattle.book_core.specs.HeldBooks.{HeldBook, ground_of}
use Rattle.worker_pool.specs.declared.limits.Limits.{Limits}
use Rattle.worker_pool.specs.declared.outcome.Outcome.{Outcome}
use Rattle.worker_pool.specs.Runs.{AreTurnsInOrder}
use Rattle.worker_crew.specs.Crews.{AreTurnsOfWorkers}
use Rattle.book_solve.specs.declared.order.Order.{Order}
use Rattle.book_solve.specs.Solved.{IsOpeningPlan, limits_of, turns_for}

-- where no worker is asked for, the turns are those of one thread, in order, and else those of so many workers
abbrev pub AreTurnsBy : ℕ → Limits → HeldFrame → HeldPlan → List Entry → List Outcome → Type 0
AreTurnsBy zero limits frame opened journal outcomes = AreTurnsInOrder limits frame opened journal outcomes
AreTurnsBy (suc n) limits frame opened journal outcomes = AreTurnsOfWorkers (suc n) limits frame opened journal outcomes

-- a book of an instance after all turns that an order asks for, with one outcome for each
pub record IsRun (problem : Problem) (order : Order) (run : HeldBook) (outcomes : List Outcome) : Type 0 where
  pub problem_is : run.problem ≡ problem
  pub opens : IsOpeningPlan problem order.flips run.opening
  pub frame : HeldFrame
  pub framed : IsHeldFrame problem.points frame
  pub turns : AreTurnsBy order.workers (limits_of problem order) frame (ground_of run) run.journal outcomes
  pub one_each : length outcomes ≡ turns_of (turns_for problem order) problem.inputs
