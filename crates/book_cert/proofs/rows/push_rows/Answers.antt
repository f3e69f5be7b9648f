use Rattle.std.proofs.Common.{◌≡◌, ◌∙◌, ℕ, List, ◌+◌, ◌-◌, ◌++◌, map, flat_map, sym, ap, arith, append_assoc}
use Rattle.std.specs.List.{range_with_len}
use Rattle.plan_law.specs.Books.{PairRow, row_of}
use Rattle.book_core.specs.Entries.{Shown, pair_row}
use Rattle.book_core.specs.HeldBooks.{now_of}
use Rattle.book_cert.specs.Certificates.{if_some}
use Rattle.book_cert.proofs.Listing.{of_one_more}
use Rattle.book_cert.proofs.rows.push_rows.Goals as goal

pub loop-j-preserved : goal.loop-j-preserved
loop-j-preserved c =
    let i = c.args.i in
    let j = c.loop-j.j in
    let f : ℕ → List (PairRow Shown) = λ k. if_some (row_of (now_of c.args.book.now).rows i k) in
    let low = c.loop-j.invariant.0 in
    let before = map pair_row c.args.rows.now in
    let n = j - (i + 1) in
    let same : j + 1 - (i + 1) ≡ n + 1 = omega (arith, low) in (
      omega (arith, low),
      c.in_ok-push_row.ensures ∙ (ap (λ rows. rows ++ f j) c.loop-j.invariant.1
          ∙ (append_assoc before (flat_map f (range_with_len (i + 1) n)) (f j)
          ∙ ap (λ more. before ++ more) (sym (of_one_more f (i + 1) n j (omega (arith, low))) ∙ ap (λ k. flat_map f (range_with_len (i + 1) k)) (sym same)))),
    )
