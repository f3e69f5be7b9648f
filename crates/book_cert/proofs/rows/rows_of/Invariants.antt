use Rattle.std.proofs.Common.{◌≡◌, ◌+◌, ◌-◌, map}
use Rattle.std.specs.List.{range_with_len, flat_map}
use Rattle.plan_law.specs.Books.{row_of}
use Rattle.book_core.specs.Entries.{pair_row}
use Rattle.book_core.specs.HeldBooks.{now_of}
use Rattle.book_cert.specs.Certificates.{if_some}
use Rattle.book_cert.proofs.rows.rows_of.Given as goal

abbrev pub invariant-loop-i : goal.invariant-loop-i
invariant-loop-i l = map pair_row l.rows ≡ flat_map (λ i. flat_map (λ j. if_some (row_of (now_of l.book).rows i j)) (range_with_len (i + 1) (l.m - (i + 1)))) (range_with_len 0 l.i)
