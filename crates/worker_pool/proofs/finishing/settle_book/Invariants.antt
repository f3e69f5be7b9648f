use Rattle.plan_law.specs.Plans.{plan_total}
use Rattle.book_core.specs.HeldBooks.{now_of}
use Rattle.worker_pool.specs.Finishes.{HasSettlingMoves}
use Rattle.worker_pool.proofs.finishing.settle_book.Given as goal

abbrev pub invariant-loop : goal.invariant-loop
invariant-loop l = HasSettlingMoves l.turn l.initial.book l.book

abbrev pub decreases-loop : goal.decreases-loop
decreases-loop l = plan_total (now_of l.book).plan
