use Rattle.std.proofs.Common.{◌∙◌, ap}
use Rattle.book_core.specs.HeldBooks.{HeldBook, ground_of}
use Rattle.worker_pool.proofs.Prefixes.{same_prefix}
use Rattle.refused_memory.proofs.Replicas.{replica_seen}
use Rattle.refused_memory.proofs.turning.replica_of.Goals as goal

pub leave-requires-clause-grown : goal.leave-requires-clause-grown
leave-requires-clause-grown g c = same_prefix c.enter-held.result.found c.value.result.now.journal (ap (λ (b : HeldBook). b.journal) c.value.ensures.value ∙ c.enter-held.ensures.found)

pub returns-clause-replica : goal.returns-clause-replica
returns-clause-replica g c =
    replica_seen c.args.cell.now.ground c.value.result.now c.leave.result.seen (ap ground_of c.value.ensures.value ∙ c.enter-held.ensures.ground) c.leave.ensures.seen c.of-replica.result c.of-replica.ensures
