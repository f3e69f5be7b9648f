use Rattle.std.proofs.Common.{◌∙◌, List, sym, ap, subst}
use mathlib.Core.List.{IsPrefix}
use Rattle.book_core.specs.declared.entry.Entry.{Entry}
use Rattle.book_core.specs.HeldBooks.{HeldBook, ground_of}
use Rattle.worker_pool.proofs.Prefixes.{grown_by, prefix_on}
use Rattle.worker_pool.proofs.Turned.{published_of}
use Rattle.worker_pool.proofs.turn.publish.Goals as goal

pub leave-requires-clause-grown : goal.leave-requires-clause-grown
leave-requires-clause-grown g c =
    subst (λ (l : List Entry). IsPrefix l c.offer_to-answer.new.book.journal) (ap (λ (b : HeldBook). b.journal) c.value.ensures.value ∙ c.enter-held.ensures.found)
    (grown_by c.value.result.now c.offer_to-answer.new.book c.args.entry c.offer_to-answer.result.0 c.offer_to-answer.ensures.grown c.offer_to-answer.ensures.kept)

pub returns-clause-seen : goal.returns-clause-seen
returns-clause-seen g c =
    let grown = subst (λ (l : List Entry). IsPrefix l c.offer_to-answer.new.book.journal) (ap (λ (b : HeldBook). b.journal) c.value.ensures.value ∙ c.enter-held.ensures.found)
    (grown_by c.value.result.now c.offer_to-answer.new.book c.args.entry c.offer_to-answer.result.0 c.offer_to-answer.ensures.grown c.offer_to-answer.ensures.kept) in
    subst (λ (l : List Entry). IsPrefix c.args.pass.seen l) (sym c.leave.ensures.seen) (prefix_on c.args.pass.seen c.enter-held.result.found c.offer_to-answer.new.book.journal c.enter-held.ensures.seen grown)

pub returns-clause-published : goal.returns-clause-published
returns-clause-published g c =
    published_of c.args.cell.now.ground c.args.pass.seen c.leave.result.seen c.value.result.now c.offer_to-answer.new.book c.args.base c.args.entry c.offer_to-answer.result.0 c.offer_to-answer.result.1
    (ap ground_of c.value.ensures.value ∙ c.enter-held.ensures.ground) c.offer_to-answer.ensures.legal
    (subst (λ (l : List Entry). IsPrefix c.args.pass.seen l) (sym (ap (λ (b : HeldBook). b.journal) c.value.ensures.value ∙ c.enter-held.ensures.found)) c.enter-held.ensures.seen)
    c.offer_to-answer.ensures.ok c.offer_to-answer.ensures.err c.offer_to-answer.ensures.grown c.offer_to-answer.ensures.kept c.offer_to-answer.ensures.limit c.leave.ensures.seen
