-- What one worker leaves, and what several leave together.
use Rattle.std.specs.Prelude.{◌≡◌, ℕ, ◌<◌, ◌≤◌, Some, List, [], ◌∷◌, map, flat_map, length, slice_get, slice_set, All, sum_by}
use Rattle.vcell.specs.Passes.{PassView}
use Rattle.claims.specs.Draws.{SeatView, times}
use Rattle.flip_cnf.specs.HeldFrames.{HeldFrame}
use Rattle.plan_law.specs.Books.{front}
use Rattle.plan_law.specs.Solving.{turns_of}
use Rattle.plan_core.specs.HeldPlans.{HeldPlan}
use Rattle.book_core.specs.declared.entry.Entry.{Entry}
use Rattle.book_core.specs.Entries.{lines_of}
use Rattle.worker_pool.specs.declared.limits.Limits.{Limits}
use Rattle.worker_pool.specs.declared.outcome.Outcome.{Outcome}
use Rattle.worker_pool.specs.Jobs.{order_of}
use Rattle.worker_pool.specs.Outcomes.{Fits, made_by, steps_by}
use Rattle.worker_crew.specs.declared.taken.Taken.{Taken}

abbrev pub turns_in : List Taken → List ℕ
turns_in taken = map (λ (t : Taken). t.turn) taken

-- one worker's turns are among the numbers that it drew, and each outcome fits what its pass has seen. The pass made just their entries, and has seen at least as many moves and swaps as the turns made or came too late with
pub record HasTaken (limits : Limits) (frame : HeldFrame) (ground : HeldPlan) (numbers : List ℕ) (pass : PassView Entry HeldPlan) (taken : List Taken) : Type 0 where
  pub drawn : (x : ℕ) → times x (turns_in taken) ≤ times x numbers
  pub turns : All (λ (t : Taken). t.turn < turns_of (order_of limits) ground.problem.inputs) taken
  pub fit : All (λ (t : Taken). Fits limits ground frame t.turn pass.seen t.outcome) taken
  pub made : pass.made ≡ sum_by (λ (t : Taken). made_by t.outcome) taken
  pub steps : sum_by (λ (t : Taken). steps_by t.outcome) taken ≤ front (lines_of pass.seen)

-- the same of several workers, each with its seat and its pass
pub record HaveTaken (limits : Limits) (frame : HeldFrame) (ground : HeldPlan) (seats : List SeatView) (passes : List (PassView Entry HeldPlan)) (parts : List (List Taken)) : Type 0 where
  pub seats_each : length seats ≡ length parts
  pub passes_each : length passes ≡ length parts
  pub each : (k : ℕ) (seat : SeatView) (pass : PassView Entry HeldPlan) (part : List Taken) → slice_get seats k ≡ Some seat → slice_get passes k ≡ Some pass → slice_get parts k ≡ Some part
      → HasTaken limits frame ground seat.numbers pass part

-- the turns of all workers
abbrev pub all_taken : List (List Taken) → List Taken
all_taken parts = flat_map (λ (part : List Taken). part) parts

-- outcomes, with those of taken turns at the places of the turns
abbrev pub filled : List Outcome → List Taken → List Outcome
filled outcomes [] = outcomes
filled outcomes (t ∷ taken) = filled (slice_set outcomes t.turn t.outcome) taken
