-- The laws of what a book answers to the improvers. Each is the contract of a function of the crate, so each is proved.
use Rattle.std.specs.Prelude.{◌≡◌, ◌⊎◌, ℕ, ◌<◌, Some, List}
use mathlib.Core.List.{IsPrefix}
use Rattle.plan_law.specs.Books.{front, IsFit}
use Rattle.book_core.specs.declared.entry.Entry.{Entry}
use Rattle.book_core.specs.declared.refusal.Refusal.{Refusal}
use Rattle.book_core.specs.declared.refusal.Refusal.TheVariants.{Stale, OutOfMemory}
use Rattle.book_core.specs.Entries.{line_of, lines_of}
use Rattle.book_core.specs.HeldBooks.{HeldBook, ground_of, now_of, front_of, Accepts, Refuses}
use Rattle.worker_pool.specs.declared.limits.Limits.{Limits}
use Rattle.worker_pool.specs.Outcomes.{answer_on}
use Rattle.worker_pool.specs.Turns.{IsLegalBook, now_at}

-- an improver's better answer on the plan after some entries, offered to a book that has no more moves and swaps than these, is fit, and only want of memory refuses it
abbrev pub FreshAnswersAreTaken : Type 0
FreshAnswersAreTaken =
    (limits : Limits) (u : ℕ) (b : HeldBook) (seen : List Entry) (answer : Entry) → IsLegalBook b → IsPrefix seen b.journal → front (lines_of seen) ≡ front_of b → answer_on limits (ground_of b) u (now_at (ground_of b) seen).plan ≡ Some (line_of answer)
    → IsFit b.problem.points b.problem.inputs (now_of b) (line_of answer) × ((why : Refusal) → Refuses b (front (lines_of seen)) answer why → why ≡ OutOfMemory)

-- where the book has more of them, it is never accepted, and the refusal says that it came too late, or that there was no memory
abbrev pub LateAnswersAreStale : Type 0
LateAnswersAreStale =
    (limits : Limits) (u : ℕ) (b : HeldBook) (seen : List Entry) (answer : Entry) → IsLegalBook b → IsPrefix seen b.journal → front (lines_of seen) < front_of b → answer_on limits (ground_of b) u (now_at (ground_of b) seen).plan ≡ Some (line_of answer)
    → ((place saved : ℕ) → ¬ Accepts b (front (lines_of seen)) answer place saved)
    × ((why : Refusal) → Refuses b (front (lines_of seen)) answer why → (why ≡ Stale (front (lines_of seen)) (front_of b)) ⊎ (why ≡ OutOfMemory))
