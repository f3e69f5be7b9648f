-- What all turns of a run leave that workers took side by side.
use Rattle.std.specs.Prelude.{◌≡◌, ℕ, ◌-◌, ◌*◌, ◌≤◌, Bool, true, false, List, count_by}
use Rattle.flip_cnf.specs.HeldFrames.{HeldFrame}
use Rattle.plan_law.specs.Books.{front}
use Rattle.plan_core.specs.HeldPlans.{HeldPlan}
use Rattle.book_core.specs.declared.entry.Entry.{Entry}
use Rattle.book_core.specs.Entries.{lines_of}
use Rattle.worker_pool.specs.declared.limits.Limits.{Limits}
use Rattle.worker_pool.specs.declared.outcome.Outcome.{Outcome}
use Rattle.worker_pool.specs.declared.outcome.Outcome.TheVariants.{Published, Stale}
use Rattle.worker_pool.specs.Runs.{AreTurns}

-- a move or a swap was made
abbrev pub is_published : Outcome → Bool
is_published (Published place saved) = true
is_published _ = false

-- it came too late
abbrev pub is_stale : Outcome → Bool
is_stale (Stale base front) = true
is_stale _ = false

-- the outcomes fit the journal, each entry is that of exactly one turn, and what the turns saved is what the total fell by. Those that came too late are at most workers - 1 times as many as the moves and swaps that were made
pub record AreTurnsOfWorkers (workers : ℕ) (limits : Limits) (frame : HeldFrame) (ground : HeldPlan) (journal : List Entry) (outcomes : List Outcome) : Type 0 where
  pub turns : AreTurns limits frame ground journal outcomes
  -- the moves and swaps of the journal are those that were made
  pub published : count_by is_published outcomes ≡ front (lines_of journal)
  pub few : count_by is_stale outcomes ≤ (workers - 1) * count_by is_published outcomes
