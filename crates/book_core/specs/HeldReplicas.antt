-- What is seen of a replica of a book, and of a world.
use Rattle.std.specs.Prelude.{◌≡◌, ℕ, ◌≤◌, length, take}
use Rattle.tri_check.specs.Problems.{Problem}
use Rattle.plan_law.specs.Worlds as worlds
use Rattle.plan_law.specs.Worlds.{replica_after, IsReplicaOf}
use Rattle.book_core.specs.Entries.{Shown, lines_of}
use Rattle.book_core.specs.HeldBooks.{HeldBook}

-- an instance, and a plan, a table of the lower bounds of the copies and two counts
pub record HeldReplica : Type 0 where
  pub problem : Problem
  pub state : worlds.Replica

-- what has seen the first n entries of a book
abbrev pub seen_first : HeldBook → ℕ → HeldReplica
seen_first b n = record { problem = b.problem; state = replica_after {E = Shown} b.problem.points b.problem.inputs b.opening (take n (lines_of b.journal)) }

-- what has seen all of them
abbrev pub seen_all : HeldBook → HeldReplica
seen_all b = record { problem = b.problem; state = replica_after {E = Shown} b.problem.points b.problem.inputs b.opening (lines_of b.journal) }

-- the replica has seen a prefix of the journal, and is the state after it
pub record IsReplica (b : HeldBook) (r : HeldReplica) : Type 0 where
  pub most : r.state.seen ≤ length b.journal
  pub is : r ≡ seen_first b r.state.seen

-- the replica has caught up part of the way
pub record IsFurther (b : HeldBook) (old new : HeldReplica) : Type 0 where
  pub is_replica : IsReplica b new
  pub no_less : old.state.seen ≤ new.state.seen
