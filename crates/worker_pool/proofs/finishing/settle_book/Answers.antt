use Rattle.std.proofs.Common.{sym, subst}
use Rattle.worker_pool.specs.Finishes.{HasSettlingMoves}
use Rattle.worker_pool.proofs.Finished.{nothing_made, moved_on, moved_lower, moved_out}
use Rattle.worker_pool.proofs.finishing.settle_book.Goals as goal

pub loop-init : goal.loop-init
loop-init c = nothing_made c.args.turn c.args.book.now

pub returns-in_err-settle_once-clause-moves : goal.returns-in_err-settle_once-clause-moves
returns-in_err-settle_once-clause-moves c = subst (HasSettlingMoves c.args.turn c.args.book.now) (sym c.in_err-settle_once.ensures.err) c.loop.invariant

pub loop-smaller : goal.loop-smaller
loop-smaller c = moved_lower c.args.turn c.loop.book c.settle_once.new.book c.in_ok-settle_once.field-0 c.in_ok-settle_once.ensures.ok c.if-branch.true

pub loop-preserved : goal.loop-preserved
loop-preserved c = moved_on c.args.turn c.args.book.now c.loop.book c.settle_once.new.book c.loop.invariant c.in_ok-settle_once.field-0 c.in_ok-settle_once.ensures.ok

pub returns-clause-moves : goal.returns-clause-moves
returns-clause-moves c = moved_on c.args.turn c.args.book.now c.loop.book c.settle_once.new.book c.loop.invariant c.in_ok-settle_once.field-0 c.in_ok-settle_once.ensures.ok

pub returns-clause-ok : goal.returns-clause-ok
returns-clause-ok c = moved_out c.args.turn c.args.book.now c.loop.book c.settle_once.new.book c.in_ok-settle_once.field-0 c.loop.invariant c.in_ok-settle_once.ensures.ok c.if-branch.false
