-- A replica that has seen all of a book.
use Rattle.std.proofs.Common.{◌≡◌, List, sym, subst}
use Rattle.std.specs.Prelude.{Result, Ok, Err, IfOk}
use Rattle.plan_core.specs.HeldPlans.{HeldPlan}
use Rattle.book_core.specs.declared.entry.Entry.{Entry}
use Rattle.book_core.specs.HeldBooks.{HeldBook, ground_of}
use Rattle.book_core.specs.HeldReplicas.{HeldReplica, seen_all}
use Rattle.worker_pool.specs.Turns.{IsReplicaAt}
use Rattle.worker_pool.proofs.Replicas.{all_at}

-- it is one of the journal that was found
pub replica_seen : {X : Type 0} (ground : HeldPlan) (b : HeldBook) (seen : List Entry) → ground_of b ≡ ground → seen ≡ b.journal → (r : Result HeldReplica X) → IfOk r (λ held. held ≡ seen_all b) → IfOk r (IsReplicaAt ground seen)
replica_seen ground b seen g s (Ok held) e = subst (IsReplicaAt ground seen) (sym e) (subst (λ (j : List Entry). IsReplicaAt ground j (seen_all b)) (sym s) (subst (λ (q : HeldPlan). IsReplicaAt q b.journal (seen_all b)) g (all_at b)))
replica_seen ground b seen g s (Err why) e = tt
