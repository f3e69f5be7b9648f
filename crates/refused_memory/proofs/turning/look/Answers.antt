use Rattle.std.proofs.Common.{◌∙◌, ap}
use Rattle.book_core.specs.HeldBooks.{HeldBook}
use Rattle.worker_pool.proofs.Prefixes.{same_prefix}
use Rattle.refused_memory.proofs.turning.look.Goals as goal

pub leave-requires-clause-grown : goal.leave-requires-clause-grown
leave-requires-clause-grown g c = same_prefix c.enter-held.result.found c.value.result.now.journal (ap (λ (b : HeldBook). b.journal) c.value.ensures.value ∙ c.enter-held.ensures.found)
