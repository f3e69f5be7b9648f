use Rattle.std.proofs.Common.{◌≡◌, ◌++◌, ◌+◌, ◌-◌, ◌≤◌, map}
use Rattle.std.specs.List.{range_with_len, flat_map}
use Rattle.plan_law.specs.Books.{row_of}
use Rattle.book_core.specs.Entries.{pair_row}
use Rattle.book_core.specs.HeldBooks.{now_of}
use Rattle.book_cert.specs.Certificates.{if_some}
use Rattle.book_cert.proofs.rows.push_rows.Given as goal

abbrev pub invariant-loop-j : goal.invariant-loop-j
invariant-loop-j l =
    (l.i + 1 ≤ l.j) × (map pair_row l.rows ≡ map pair_row l.fn.rows ++ flat_map (λ j. if_some (row_of (now_of l.book).rows l.i j)) (range_with_len (l.i + 1) (l.j - (l.i + 1))))
