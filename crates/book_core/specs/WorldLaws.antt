-- The law of events, in any number and order, of any number of replicas. It is the contract of a function of the crate, so it is proved.
use Rattle.std.specs.Prelude.{◌≡◌, ℕ, ◌+◌, ◌≤◌, List, Option, Some, slice_get, take}
use Rattle.plan_law.specs.Plans.{plan_total}
use Rattle.plan_law.specs.Books as law
use Rattle.plan_law.specs.Books.{opening_state, state_after, bound}
use Rattle.plan_law.specs.BookLaws.{Extends, Improves}
use Rattle.book_core.specs.declared.world.Event.{Event}
use Rattle.book_core.specs.declared.world.Reply.{Reply}
use Rattle.book_core.specs.Entries.{Shown}
use Rattle.book_core.specs.HeldBooks.{HeldBook, book_of, now_of, front_of}
use Rattle.book_core.specs.HeldWorlds.{HeldWorld, IsHeldWorld, IsRun}

-- the state after the first n entries
abbrev pub state_at : HeldBook → ℕ → law.State Shown
state_at b n = state_after b.problem.points b.problem.inputs (opening_state b.opening) (take n (book_of b).journal)

-- the world is one again, and its journal begins with the one before. Each move and each swap lowers the total, and the bound never falls: so it is of each entry, and from the one world to the other
pub record GoesOn (old new : HeldWorld) : Type 0 where
  pub is_world : IsHeldWorld new
  pub same_problem : new.book.problem ≡ old.book.problem
  pub begins : Extends (book_of old.book) (book_of new.book)
  pub total_falls : plan_total (now_of new.book).plan + front_of new.book ≤ plan_total (now_of old.book).plan + front_of old.book
  pub bound_kept : bound (now_of old.book) ≤ bound (now_of new.book)
  pub improves : (k : ℕ) (entry : law.Entry Shown) → slice_get (book_of new.book).journal k ≡ Some entry → Improves (state_at new.book k) entry (state_at new.book (k + 1))

-- whatever events come to a world, in whatever order, it goes on
abbrev pub EventsKeepWorlds : Type 0
EventsKeepWorlds = (old new : HeldWorld) (events : List Event) (replies : List (Option Reply)) → IsHeldWorld old → IsRun old events replies new → GoesOn old new
