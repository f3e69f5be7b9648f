use Rattle.std.proofs.Common.{◌∙◌, ap, Err}
use Rattle.worker_pool.proofs.Finished.{pack_taken, pack_refused}
use Rattle.worker_pool.proofs.finishing.pack_book.Goals as goal

pub returns-in-Ok-clause-ok : goal.returns-in-Ok-clause-ok
returns-in-Ok-clause-ok c = pack_taken c.args.turn c.args.book.now c.in_ok-perm.perm c.in_ok-perm.ensures.best c.offer.new.self c.offer.result c.in-Ok.field-0 c.in-Ok.is c.offer.ensures.grown

pub returns-in-Err-NoRise-clause-ok : goal.returns-in-Err-NoRise-clause-ok
returns-in-Err-NoRise-clause-ok c =
    pack_refused c.args.turn c.args.book.now c.in_ok-perm.perm c.in_ok-perm.ensures.best c.in_ok-perm.ensures.held c.front-base.result _ _ c.offer.new.self c.offer.result
    (c.in-Err-NoRise.is ∙ ap Err c.in-Err-NoRise.field-0-is) c.offer.ensures.err c.offer.ensures.kept
