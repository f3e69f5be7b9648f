use Rattle.std.proofs.Common.{◌≡◌, map, take}
use Rattle.book_solve.specs.Solved.{plan_lines}
use Rattle.book_cert.specs.Certificates.{entry_of}
use Rattle.book_cert.proofs.journal.journal_of.Given as goal

abbrev pub invariant-loop-place : goal.invariant-loop-place
invariant-loop-place l = map entry_of l.lines ≡ plan_lines (take l.place l.book.journal)
