use Rattle.std.proofs.Common.{◌≡◌, ◌∙◌, ℕ, List, ◌+◌, ◌-◌, ◌++◌, flat_map, length, sym, ap, arith}
use Rattle.std.specs.List.{range_with_len}
use Rattle.plan_law.specs.Books.{PairRow, row_of}
use Rattle.tri_check.specs.Problems.{Problem}
use Rattle.book_core.specs.Entries.{Shown}
use Rattle.book_core.specs.HeldBooks.{now_of}
use Rattle.book_cert.specs.Certificates.{if_some}
use Rattle.book_cert.proofs.Listing.{of_one_more, of_pairs}
use Rattle.book_cert.proofs.rows.rows_of.Goals as goal

pub loop-i-preserved : goal.loop-i-preserved
loop-i-preserved c =
    let m = c.inputs-m.result in
    let f : ℕ → List (PairRow Shown) = λ i. flat_map (λ j. if_some (row_of (now_of c.args.book.now).rows i j)) (range_with_len (i + 1) (m - (i + 1))) in
    c.in_ok-push_rows.ensures ∙ (ap (λ rows. rows ++ f c.loop-i.i) c.loop-i.invariant ∙ sym (of_one_more f 0 c.loop-i.i c.loop-i.i (omega arith)))

pub returns : goal.returns
returns c =
    let m = c.inputs-m.result in
    let rows = (now_of c.args.book.now).rows in
    let f : ℕ → List (PairRow Shown) = λ n. flat_map (λ i. flat_map (λ j. if_some (row_of rows i j)) (range_with_len (i + 1) (n - (i + 1)))) (range_with_len 0 n) in
    let g : ℕ → List (PairRow Shown) = λ k. flat_map (λ i. flat_map (λ j. if_some (row_of rows i j)) (range_with_len (i + 1) (m - (i + 1)))) (range_with_len 0 k) in
    let end : c.loop-i.i ≡ m = let low = c.loop-i-test.false in let high = c.loop-i.auto.i-end in omega (arith, low, high) in
    let count : m ≡ length c.args.book.now.problem.inputs = c.inputs-m.ensures ∙ ap (λ (p : Problem). length p.inputs) (c.deref.ensures ∙ (c.inst.ensures ∙ c.plan.ensures.problem)) in
    c.loop-i.invariant ∙ (ap g end ∙ (ap f count ∙ sym (of_pairs (λ pair. if_some (row_of rows pair.0 pair.1)) (length c.args.book.now.problem.inputs))))
