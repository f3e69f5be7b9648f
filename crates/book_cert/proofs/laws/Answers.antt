use Rattle.book_cert.proofs.Solved.{solved_books_are_written}
use Rattle.book_cert.proofs.Writable.{certificates_are_writable}
use Rattle.book_cert.proofs.Shown.{what_is_written_is_shown}
use Rattle.book_cert.proofs.laws.Goals as goal

pub returns : goal.returns
returns _ = record { certificates_are_writable = certificates_are_writable; solved_books_are_written = solved_books_are_written; what_is_written_is_shown = what_is_written_is_shown }
