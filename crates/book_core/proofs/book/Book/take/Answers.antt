use Rattle.std.proofs.Common.{sym, subst}
use Rattle.std.specs.Prelude.{IfErr}
use Rattle.book_core.specs.HeldBooks.{Refuses}
use Rattle.book_core.proofs.book.Book.take.Goals as goal

pub returns-in-Row-clause-err : goal.returns-in-Row-clause-err
returns-in-Row-clause-err c = subst (λ e. IfErr c.offer_row.result (Refuses c.args.self.now c.args.base e)) (sym c.in-Row.is) (c.offer_row.ensures.err c.args.base)

pub returns-in-Pack-clause-err : goal.returns-in-Pack-clause-err
returns-in-Pack-clause-err c = subst (λ e. IfErr c.offer_pack.result (Refuses c.args.self.now c.args.base e)) (sym c.in-Pack.is) (c.offer_pack.ensures.err c.args.base)
