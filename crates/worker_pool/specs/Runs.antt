-- What all turns of a run leave, one after the other on one thread.
use Rattle.std.specs.Prelude.{◌≡◌, ◌≢◌, ◌⊎◌, ℕ, ◌+◌, ◌<◌, Some, List, length, slice_get, take, sum_by}
use Rattle.flip_cnf.specs.HeldFrames.{HeldFrame}
use Rattle.plan_law.specs.Plans.{plan_total}
use Rattle.plan_law.specs.Books.{PairRow, row_of, bound_of, bound, front}
use Rattle.plan_law.specs.Jobs.{Compares}
use Rattle.plan_law.specs.Solving.{turn_of}
use mathlib.Core.List.{IsPrefix}
use Rattle.plan_core.specs.HeldPlans.{HeldPlan}
use Rattle.book_core.specs.declared.entry.Entry.{Entry}
use Rattle.book_core.specs.Entries.{Shown, line_of, lines_of}
use Rattle.book_core.specs.HeldBooks.{HeldBook, ground_of, now_of}
use Rattle.worker_pool.specs.declared.limits.Limits.{Limits}
use Rattle.worker_pool.specs.declared.outcome.Outcome.{Outcome}
use Rattle.worker_pool.specs.declared.outcome.Outcome.TheVariants.{Published, NotBetter, Stuck, Stale, Kept, Taken, Packed, NoRise, NoMemory}
use Rattle.worker_pool.specs.Outcomes.{state_at, IsBestAt, job_at, Fits, made_by, saved_by}
use Rattle.worker_pool.specs.Turns.{now_at}

-- where an outcome that made an entry says that it stands
abbrev pub StandsAt : Outcome → ℕ → Type 0
StandsAt (Published place saved) n = place ≡ n
StandsAt (Kept place) n = place ≡ n
StandsAt (Packed place limit) n = place ≡ n
StandsAt _ n = ⊥

-- of the first turns of a run, each outcome fits the journal. Each entry is that of exactly one turn, and what the turns saved is what the total fell by
pub record AreTurns (limits : Limits) (frame : HeldFrame) (ground : HeldPlan) (journal : List Entry) (outcomes : List Outcome) : Type 0 where
  pub fit : (u : ℕ) (outcome : Outcome) → slice_get outcomes u ≡ Some outcome → Fits limits ground frame u journal outcome
  pub made : sum_by made_by outcomes ≡ length journal
  pub owned : (n : ℕ) (entry : Entry) → slice_get journal n ≡ Some entry → (outcome : Outcome) × (slice_get outcomes (turn_of (line_of entry)) ≡ Some outcome) × StandsAt outcome n
  pub once : (u v n : ℕ) (one other : Outcome) → slice_get outcomes u ≡ Some one → slice_get outcomes v ≡ Some other → StandsAt one n → StandsAt other n → u ≡ v
  pub saved : plan_total (now_at ground journal).plan + sum_by saved_by outcomes ≡ plan_total ground.plan

-- two inputs have a row after a journal, unless the turn that compares them wanted memory
pub record IsCompared (limits : Limits) (ground : HeldPlan) (journal : List Entry) (outcomes : List Outcome) (i j : ℕ) : Type 0 where
  pub turn : ℕ
  pub compares : job_at limits ground turn ≡ Compares i j
  pub ends : ((row : PairRow Shown) × (row_of (now_at ground journal).rows i j ≡ Some row)) ⊎ (slice_get outcomes turn ≡ Some NoMemory)

-- each two inputs have their row, unless the turn that compares them wanted memory. No turn finds that the row of its inputs stands already
pub record HaveRows (limits : Limits) (ground : HeldPlan) (journal : List Entry) (outcomes : List Outcome) : Type 0 where
  pub each : (i j : ℕ) → i < j → j < length ground.problem.inputs → IsCompared limits ground journal outcomes i j
  pub none_taken : (u i j : ℕ) → slice_get outcomes u ≢ Some (Taken i j)

-- how many entries the turns below u made
abbrev pub entries_below : List Outcome → ℕ → ℕ
entries_below outcomes u = sum_by made_by (take u outcomes)

-- on one thread a turn builds on the entries of all lower turns
abbrev pub IsInOrder : HeldPlan → List Entry → ℕ → Outcome → Type 0
IsInOrder ground journal n (NotBetter base) = base ≡ front (take n (lines_of journal))
IsInOrder ground journal n (Stuck base round) = base ≡ front (take n (lines_of journal))
IsInOrder ground journal n (Stale base front) = ⊥
IsInOrder ground journal n (NoRise held given) =
    (held ≡ bound (state_at ground journal n)) × ((perm : List ℕ) × IsBestAt (state_at ground journal n) perm × (given ≡ bound_of (state_at ground journal n) perm))
IsInOrder ground journal n (Published place saved) = place ≡ n
IsInOrder ground journal n (Kept place) = place ≡ n
IsInOrder ground journal n (Packed place limit) = (place ≡ n) × ((perm : List ℕ) × IsBestAt (state_at ground journal n) perm × (limit ≡ bound_of (state_at ground journal n) perm))
IsInOrder ground journal n (Taken i j) = Unit {0}
IsInOrder ground journal n NoMemory = Unit {0}

-- the first turns of a run, one after the other
pub record AreTurnsInOrder (limits : Limits) (frame : HeldFrame) (ground : HeldPlan) (journal : List Entry) (outcomes : List Outcome) : Type 0 where
  pub turns : AreTurns limits frame ground journal outcomes
  pub in_order : (u : ℕ) (outcome : Outcome) → slice_get outcomes u ≡ Some outcome → IsInOrder ground journal (entries_below outcomes u) outcome

-- one turn on a book in the hands of one thread: the journal begins with the one before, and the outcome fits it and is of the plan, the rows and the bound before it. The total falls by what is saved
pub record IsTurnAlone (limits : Limits) (frame : HeldFrame) (u : ℕ) (old new : HeldBook) (outcome : Outcome) : Type 0 where
  pub of_ground : ground_of new ≡ ground_of old
  pub grows : IsPrefix old.journal new.journal
  pub fits : Fits limits (ground_of old) frame u new.journal outcome
  pub made : length new.journal ≡ length old.journal + made_by outcome
  pub in_order : IsInOrder (ground_of old) new.journal (length old.journal) outcome
  pub saved : plan_total (now_of new).plan + saved_by outcome ≡ plan_total (now_of old).plan
