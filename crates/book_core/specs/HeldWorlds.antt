-- Worlds: a book with replicas, and what an event makes of them.
use Rattle.std.specs.Prelude.{◌≡◌, ◌≢◌, ℕ, ◌<◌, Option, Some, None, List, [], ◌∷◌, ◌++◌, length, set, slice_get, All}
use Rattle.tri_check.specs.Problems.{IsProblem}
use Rattle.plan_law.specs.Books.{IsBook}
use Rattle.book_core.specs.Entries.{IsJustifiedRow}
use Rattle.book_core.specs.declared.refusal.Refusal.TheVariants as refusal
use Rattle.book_core.specs.declared.world.Event.{Event}
use Rattle.book_core.specs.declared.world.Event.TheVariants.{Join, Catch, Offer}
use Rattle.book_core.specs.declared.world.Reply.{Reply}
use Rattle.book_core.specs.declared.world.Reply.TheVariants.{Joined, Caught, Accepted, Refused}
use Rattle.book_core.specs.HeldBooks.{HeldBook, book_of, IsOffer, with_line, Accepts, Refuses}
use Rattle.book_core.specs.HeldReplicas.{HeldReplica, IsReplica, IsFurther, seen_all}

pub record HeldWorld : Type 0 where
  pub book : HeldBook
  pub replicas : List HeldReplica

-- the book is legal, its opening weighs the inputs as the instance does, and each replica is the state after a prefix of the journal
pub record IsHeldWorld (w : HeldWorld) : Type 0 where
  pub is_problem : IsProblem w.book.problem.points w.book.problem.inputs
  pub is_book : IsBook (IsJustifiedRow w.book.problem.points w.book.problem.inputs) w.book.problem.points w.book.problem.inputs (book_of w.book)
  pub weighed : w.book.opening.weights ≡ w.book.problem.weights
  pub replicas : All (IsReplica w.book) w.replicas

abbrev pub with_replica : HeldWorld → ℕ → HeldReplica → HeldWorld
with_replica w r x = record { book = w.book; replicas = set w.replicas r x }

-- an event that may come: its replica is there, and its entry may be offered
abbrev pub MayCome : HeldWorld → Event → Type 0
MayCome w Join = length w.replicas < 4294967295
MayCome w (Catch r) = r < length w.replicas
MayCome w (Offer r entry) = (r < length w.replicas) × IsOffer w.book.problem entry

-- an event leads from a world to another, with a reply
abbrev pub Leads : HeldWorld → Event → Reply → HeldWorld → Type 0
Leads old Join (Joined r) new = (r ≡ length old.replicas) × (new ≡ record { book = old.book; replicas = old.replicas ++ (seen_all old.book ∷ []) })
Leads old (Catch r) (Caught n) new = (n ≡ length old.book.journal) × (new ≡ with_replica old r (seen_all old.book))
Leads old (Offer r entry) (Accepted a) new =
    (x : HeldReplica) × (slice_get old.replicas r ≡ Some x) × Accepts old.book x.state.front entry a.place a.saved × (new ≡ record { book = with_line old.book entry; replicas = old.replicas })
Leads old (Offer r entry) (Refused why) new =
    (x : HeldReplica) × (slice_get old.replicas r ≡ Some x) × (why ≢ refusal.OutOfMemory) × Refuses old.book x.state.front entry why × (new ≡ old)
Leads old _ _ new = ⊥

-- or there is no memory, and at most the replica that catches up has changed
abbrev pub Wants : HeldWorld → Event → HeldWorld → Type 0
Wants old Join new = new ≡ old
Wants old (Catch r) new = (x : HeldReplica) × (y : HeldReplica) × (slice_get old.replicas r ≡ Some x) × IsFurther old.book x y × (new ≡ with_replica old r y)
Wants old (Offer r entry) new = new ≡ old

-- an event comes, and is answered, or there is no memory
abbrev pub IsStep : HeldWorld → Event → Option Reply → HeldWorld → Type 0
IsStep old event (Some reply) new = MayCome old event × Leads old event reply new
IsStep old event None new = MayCome old event × Wants old event new

-- events one after the other, each with its reply
abbrev pub IsRun : HeldWorld → List Event → List (Option Reply) → HeldWorld → Type 0
IsRun old [] [] new = new ≡ old
IsRun old (event ∷ events) (reply ∷ replies) new = (mid : HeldWorld) × IsStep old event reply mid × IsRun mid events replies new
IsRun old _ _ new = ⊥
