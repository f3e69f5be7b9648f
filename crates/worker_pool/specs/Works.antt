-- What a turn works out on a plan and a table of lower bounds, before it offers anything.
use Rattle.std.specs.Prelude.{◌≡◌, ℕ, List, length, Some}
use Rattle.assignment_law.specs.Assignments.{HasGreatestSum}
use Rattle.match_bound.specs.Tables.{weight}
use Rattle.flip_cnf.specs.HeldFrames.{HeldFrame}
use Rattle.pair_rows.specs.Rows.{IsEarned}
use Rattle.pair_rows.specs.Versions.{Pruned}
use Rattle.plan_law.specs.Plans.{Plan}
use Rattle.plan_law.specs.Books.{State}
use Rattle.plan_law.specs.Worlds.{lower_table}
use Rattle.plan_law.specs.Jobs as jobs
use Rattle.tri_check.specs.Problems.{Problem}
use Rattle.plan_core.specs.HeldPlans.{HeldPlan}
use Rattle.book_core.specs.declared.entry.Entry.{Entry}
use Rattle.book_core.specs.declared.entry.Entry.TheVariants.{Move, Swap, Row, Pack}
use Rattle.book_core.specs.Entries.{Shown, line_of}
use Rattle.book_core.specs.HeldBooks.{IsOffer}
use Rattle.worker_pool.specs.declared.limits.Limits.{Limits}
use Rattle.worker_pool.specs.declared.outcome.Outcome.TheVariants.{NotBetter, Stuck}
use Rattle.worker_pool.specs.declared.work.Work.{Work}
use Rattle.worker_pool.specs.declared.work.Work.TheVariants.{Offers, Ends}
use Rattle.worker_pool.specs.Outcomes.{job_at, answer_on, FindsNone, Sticks}

-- the instance of a plan, as the ground of a book that was opened with it
abbrev pub ground_for : Problem → Plan → HeldPlan
ground_for problem plan = record { problem = problem; plan = plan; spare = 0 }

-- the lower bounds of all pairs of copies
abbrev pub table_at : State Shown → List (List ℕ)
table_at state = lower_table state.plan.weights state.rows

module _ (limits : Limits) (frame : HeldFrame) (u : ℕ) (problem : Problem) (plan : Plan) (table : List (List ℕ)) (front : ℕ) where
  -- the entry is the one that the turn's job asks for
  abbrev pub IsAnswerTo : Entry → Type 0
  IsAnswerTo (Move turn edges) = answer_on limits (ground_for problem plan) u plan ≡ Some (line_of (Move turn edges))
  IsAnswerTo (Swap turn input rounds) = answer_on limits (ground_for problem plan) u plan ≡ Some (line_of (Swap turn input rounds))
  IsAnswerTo (Row turn row) = (turn ≡ u) × (job_at limits (ground_for problem plan) u ≡ jobs.Compares row.i row.j) × IsEarned Pruned problem.points problem.inputs frame limits.budget row
  IsAnswerTo (Pack turn perm) = (turn ≡ u) × (job_at limits (ground_for problem plan) u ≡ jobs.Packs) × HasGreatestSum (weight table) (length table) perm

  abbrev pub IsWork : Work → Type 0
  IsWork (Offers entry) = IsOffer problem entry × IsAnswerTo entry
  IsWork (Ends (NotBetter base)) = (base ≡ front) × FindsNone limits (ground_for problem plan) plan (job_at limits (ground_for problem plan) u)
  IsWork (Ends (Stuck base round)) = (base ≡ front) × Sticks (ground_for problem plan) plan round (job_at limits (ground_for problem plan) u)
  IsWork (Ends _) = ⊥
