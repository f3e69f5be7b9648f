use Rattle.std.proofs.Common.{◌∙◌, [], ◌∷◌, ◌++◌, sym, ap}
use Rattle.book_solve.specs.Solved.{plan_lines}
use Rattle.book_cert.proofs.Listing.{lines_more}
use Rattle.book_cert.proofs.journal.journal_of.Goals as goal

pub loop-place-preserved : goal.loop-place-preserved
loop-place-preserved c =
    c.in_ok-push_line.ensures ∙ (ap (λ lines. lines ++ plan_lines (c.entry.result.now ∷ [])) c.loop-place.invariant ∙ sym (lines_more c.args.book.now.journal c.loop-place.place c.entry.result.now c.entry.ensures))
