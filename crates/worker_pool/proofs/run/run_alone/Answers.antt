use Rattle.book_core.specs.HeldBooks.{ground_of}
use Rattle.worker_pool.proofs.Compared.{have_rows}
use Rattle.worker_pool.proofs.run.run_alone.Goals as goal

pub returns-in-Ok-clause-rows : goal.returns-in-Ok-clause-rows
returns-in-Ok-clause-rows c =
    have_rows c.args.limits.now c.args.frame.now (ground_of c.args.book) c.take_turns.new.book.journal c.take_turns.new.outcomes c.take_turns.ensures.turns.turns c.take_turns.ensures.count
