-- When the outcome of a turn fits a journal.
use Rattle.std.specs.Prelude.{◌≡◌, ◌≢◌, ℕ, ◌+◌, ◌-◌, ◌<◌, ◌≤◌, Option, Some, None, List, length, sum, slice_get, take, filter}
use Rattle.assignment_law.specs.Assignments.{IsBest}
use Rattle.bound_law.specs.Copies.{copy_lower}
use Rattle.flip_cnf.specs.HeldFrames.{HeldFrame}
use Rattle.pair_rows.specs.declared.row.Row as row
use Rattle.pair_rows.specs.Rows.{IsEarned}
use Rattle.pair_rows.specs.Versions.{Pruned}
use Rattle.plan_law.specs.Plans.{Plan, plan_total}
use Rattle.plan_law.specs.Books as law
use Rattle.plan_law.specs.Books.{State, opening_state, state_after, row_of, lower_of, bound_of, bound, is_plan_entry, front}
use Rattle.plan_law.specs.Improvers as improver
use Rattle.plan_law.specs.Improvers.{walk, descent}
use Rattle.plan_law.specs.Jobs as jobs
use Rattle.plan_law.specs.Solving.{job_of, turn_answer, plan_after_all}
use Rattle.plan_core.specs.HeldPlans.{HeldPlan}
use Rattle.book_core.specs.declared.entry.Entry.{Entry}
use Rattle.book_core.specs.declared.entry.Entry.TheVariants.{Row, Pack}
use Rattle.book_core.specs.Entries.{Shown, lines_of}
use Rattle.worker_pool.specs.declared.limits.Limits.{Limits}
use Rattle.worker_pool.specs.declared.outcome.Outcome.{Outcome}
use Rattle.worker_pool.specs.declared.outcome.Outcome.TheVariants.{Published, NotBetter, Stuck, Stale, Kept, Taken, Packed, NoRise, NoMemory}
use Rattle.worker_pool.specs.Jobs.{order_of}

-- the state after the first n entries of a journal
abbrev pub state_at : HeldPlan → List Entry → ℕ → State Shown
state_at ground journal n = state_after ground.problem.points ground.problem.inputs (opening_state ground.plan) (take n (lines_of journal))

-- the plan after the first n moves and swaps
abbrev pub plan_at : HeldPlan → List Entry → ℕ → Plan
plan_at ground journal n = plan_after_all ground.problem.points ground.problem.inputs ground.plan (take n (filter is_plan_entry (lines_of journal)))

-- no assignment of the copies has a greater bound under the rows of a state
abbrev pub IsBestAt : State Shown → List ℕ → Type 0
IsBestAt state perm = IsBest (copy_lower state.plan.weights (lower_of state.rows)) (sum state.plan.weights) perm

-- the job of a turn, and what its improver answers on a plan
abbrev pub job_at : Limits → HeldPlan → ℕ → jobs.Job
job_at limits ground u = job_of (order_of limits) ground.problem.inputs u

abbrev pub answer_on : Limits → HeldPlan → ℕ → Plan → Option (law.Entry Shown)
answer_on limits ground u plan = turn_answer (order_of limits) ground.problem.points ground.problem.inputs plan u

-- a walk or a descent finds no better plan
abbrev pub FindsNone : Limits → HeldPlan → Plan → jobs.Job → Type 0
FindsNone limits ground plan (jobs.Walks p) = walk ground.problem.points plan ((order_of limits).words p) ≡ None
FindsNone limits ground plan (jobs.Descends p t) = (held : ℕ) × (given : ℕ) × (descent ground.problem.points ground.problem.inputs plan t ≡ improver.NotBetter held given)
FindsNone limits ground plan _ = ⊥

-- a descent gets stuck in a round
abbrev pub Sticks : HeldPlan → Plan → ℕ → jobs.Job → Type 0
Sticks ground plan round (jobs.Descends p t) = descent ground.problem.points ground.problem.inputs plan t ≡ improver.Stuck round
Sticks ground plan round _ = ⊥

-- the entry at the place is what the turn's improver answers as better on the plan before it, and it saves so much
pub record IsOwnStep (limits : Limits) (ground : HeldPlan) (u : ℕ) (journal : List Entry) (place saved : ℕ) : Type 0 where
  pub line : law.Entry Shown
  pub there : slice_get (lines_of journal) place ≡ Some line
  pub answered : answer_on limits ground u (state_at ground journal place).plan ≡ Some line
  pub saves : saved ≡ plan_total (state_at ground journal place).plan - plan_total (state_at ground journal (place + 1)).plan

-- the turn's improver answers a better plan after `base` moves and swaps, of which the journal has more
pub record IsLateStep (limits : Limits) (ground : HeldPlan) (u : ℕ) (journal : List Entry) (base front : ℕ) : Type 0 where
  pub line : law.Entry Shown
  pub answered : answer_on limits ground u (plan_at ground journal base) ≡ Some line
  pub later : base < front
  pub no_later : front ≤ law.front (lines_of journal)

-- the entry at the place is the row of the turn's inputs, and was earned
pub record IsOwnRow (limits : Limits) (ground : HeldPlan) (frame : HeldFrame) (u : ℕ) (journal : List Entry) (place : ℕ) : Type 0 where
  pub found : row.Row
  pub there : slice_get journal place ≡ Some (Row u found)
  pub of_job : job_at limits ground u ≡ jobs.Compares found.i found.j
  pub earned : IsEarned Pruned ground.problem.points ground.problem.inputs frame limits.budget found

-- the entry at the place is an assignment, after which the bound is `limit`
pub record IsOwnPack (limits : Limits) (ground : HeldPlan) (u : ℕ) (journal : List Entry) (place limit : ℕ) : Type 0 where
  pub of_job : job_at limits ground u ≡ jobs.Packs
  pub perm : List ℕ
  pub there : slice_get journal place ≡ Some (Pack u perm)
  pub limit_is : limit ≡ bound (state_at ground journal (place + 1))

-- the bound after some entries isn't below that of an assignment that is best over the rows of some of them
pub record IsNoRise (limits : Limits) (ground : HeldPlan) (u : ℕ) (journal : List Entry) (held given : ℕ) : Type 0 where
  pub of_job : job_at limits ground u ≡ jobs.Packs
  pub entries : ℕ
  pub seen : ℕ
  pub some : entries ≤ length journal
  pub fewer : seen ≤ entries
  pub perm : List ℕ
  pub best : IsBestAt (state_at ground journal seen) perm
  pub held_is : held ≡ bound (state_at ground journal entries)
  pub given_is : given ≡ bound_of (state_at ground journal entries) perm
  pub no_more : given ≤ held

abbrev pub Fits : Limits → HeldPlan → HeldFrame → ℕ → List Entry → Outcome → Type 0
Fits limits ground frame u journal (Published place saved) = IsOwnStep limits ground u journal place saved
Fits limits ground frame u journal (NotBetter base) = (base ≤ law.front (lines_of journal)) × FindsNone limits ground (plan_at ground journal base) (job_at limits ground u)
Fits limits ground frame u journal (Stuck base round) = (base ≤ law.front (lines_of journal)) × Sticks ground (plan_at ground journal base) round (job_at limits ground u)
Fits limits ground frame u journal (Stale base front) = IsLateStep limits ground u journal base front
Fits limits ground frame u journal (Kept place) = IsOwnRow limits ground frame u journal place
Fits limits ground frame u journal (Taken i j) = (job_at limits ground u ≡ jobs.Compares i j) × (row_of (state_at ground journal (length journal)).rows i j ≢ None)
Fits limits ground frame u journal (Packed place limit) = IsOwnPack limits ground u journal place limit
Fits limits ground frame u journal (NoRise held given) = IsNoRise limits ground u journal held given
Fits limits ground frame u journal NoMemory = Unit {0}

-- how many entries a turn made, and how many moves and swaps it made or came too late with
abbrev pub made_by : Outcome → ℕ
made_by (Published place saved) = 1
made_by (NotBetter base) = 0
made_by (Stuck base round) = 0
made_by (Stale base front) = 0
made_by (Kept place) = 1
made_by (Taken i j) = 0
made_by (Packed place limit) = 1
made_by (NoRise held given) = 0
made_by NoMemory = 0

abbrev pub saved_by : Outcome → ℕ
saved_by (Published place saved) = saved
saved_by _ = 0

abbrev pub steps_by : Outcome → ℕ
steps_by (Published place saved) = 1
steps_by (Stale base front) = 1
steps_by _ = 0
