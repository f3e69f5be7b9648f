use Rattle.plan_moves.proofs.Begun as begun
use Rattle.worker_pool.proofs.Finished.{settling_left, on_ok, on_err}
use Rattle.worker_pool.proofs.finishing.finish.Goals as goal

pub returns-in_err-settle_book-clause-err : goal.returns-in_err-settle_book-clause-err
returns-in_err-settle_book-clause-err c = begun.on_err c.from_residual.result _ (settling_left c.args.turn c.args.book.now c.settle_book.new.book c.settle_book.ensures.moves)

pub returns-clause-ok : goal.returns-clause-ok
returns-clause-ok c = on_ok c.args.turn c.args.book.now c.settle_book.new.book c.pack_book.new.book c.pack_book.result c.settle_book.ensures.moves c.in_ok-settle_book.ensures.ok c.pack_book.ensures.ok

pub returns-clause-err : goal.returns-clause-err
returns-clause-err c = on_err c.args.turn c.args.book.now c.settle_book.new.book c.pack_book.new.book c.pack_book.result c.settle_book.ensures.moves c.pack_book.ensures.err
