use Rattle.book_core.proofs.Kept.{says_true}
use Rattle.book_core.proofs.book.Book.offer.Goals as goal

pub returns-clause-is_true : goal.returns-clause-is_true
returns-clause-is_true c = says_true c.args.self.now.problem c.args.entry c.laws.ensures.problem c.requires
