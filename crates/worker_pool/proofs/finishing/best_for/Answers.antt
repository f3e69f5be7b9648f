use Rattle.std.proofs.Common.{◌∙◌, ℕ, List, length, sym, ap}
use Rattle.std.specs.Prelude.{sum}
use Rattle.book_core.specs.HeldBooks.{now_of}
use Rattle.book_core.proofs.Tables.{length_table}
use Rattle.worker_pool.proofs.Finished.{best_for_book}
use Rattle.worker_pool.proofs.finishing.best_for.Goals as goal

pub best_of-requires : goal.best_of-requires
best_of-requires c = record {
  table =
      ap (λ (t : List (List ℕ)). length t) c.weights.ensures.newest ∙ (length_table (now_of c.args.book.now).plan.weights (now_of c.args.book.now).rows ∙ ap (λ p. sum p.weights) (sym c.plan-2.ensures.plan));
}

pub returns-clause-best : goal.returns-clause-best
returns-clause-best c = best_for_book c.args.book.now c.weights.result.now c.best_of.result c.weights.ensures.newest c.best_of.ensures.best
