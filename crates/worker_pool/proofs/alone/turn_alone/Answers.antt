use Rattle.std.proofs.Common.{◌∙◌, Ok, IfErr, sym, ap, subst}
use Rattle.book_core.specs.HeldBooks.{now_of, front_of}
use Rattle.worker_pool.specs.declared.work.Work.TheVariants.{Offers, Ends}
use Rattle.worker_pool.specs.Turns.{MayBeRefused, outcome_for}
use Rattle.worker_pool.specs.Works.{table_at, IsWork}
use Rattle.worker_pool.proofs.Fit.{alone_may}
use Rattle.worker_pool.proofs.Turned.{ok_is}
use Rattle.worker_pool.proofs.OneThread.{alone_offers, alone_ends}
use Rattle.worker_pool.proofs.alone.turn_alone.Goals as goal

pub outcome_of-outcome-requires : goal.outcome_of-outcome-requires
outcome_of-outcome-requires c =
    subst (λ k. IfErr c.offer_to-answer.result.0 (MayBeRefused k)) (sym c.kind_of-kind.ensures)
    (alone_may c.args.limits.now c.args.frame.now c.args.u c.args.book.now c.offer_to-answer.ensures.legal c.front-base.result c.in-Ok-Offers.entry c.offer_to-answer.result.0 c.front-base.ensures
    (ok_is c.work_in.result (IsWork c.args.limits.now c.args.frame.now c.args.u c.args.book.now.problem (now_of c.args.book.now).plan (table_at (now_of c.args.book.now)) (front_of c.args.book.now)) (Offers c.in-Ok-Offers.entry) (c.in-Ok-Offers.is ∙ ap Ok c.in-Ok-Offers.field-0-is) c.work_in.ensures).1 c.offer_to-answer.ensures.err)

pub returns-in-Ok-Offers : goal.returns-in-Ok-Offers
returns-in-Ok-Offers c =
    alone_offers c.args.limits.now c.args.frame.now c.args.u c.args.book.now c.offer_to-answer.new.book c.front-base.result c.in-Ok-Offers.entry c.offer_to-answer.result.0 c.offer_to-answer.result.1 c.outcome_of-outcome.result c.front-base.ensures
    c.offer_to-answer.ensures.ok c.offer_to-answer.ensures.err c.offer_to-answer.ensures.grown c.offer_to-answer.ensures.kept c.offer_to-answer.ensures.limit
    (ok_is c.work_in.result (IsWork c.args.limits.now c.args.frame.now c.args.u c.args.book.now.problem (now_of c.args.book.now).plan (table_at (now_of c.args.book.now)) (front_of c.args.book.now)) (Offers c.in-Ok-Offers.entry) (c.in-Ok-Offers.is ∙ ap Ok c.in-Ok-Offers.field-0-is) c.work_in.ensures)
    (c.outcome_of-outcome.ensures ∙ ap (λ k. outcome_for k c.offer_to-answer.result.0 c.offer_to-answer.result.1) c.kind_of-kind.ensures)

pub returns-in-Ok-Ends : goal.returns-in-Ok-Ends
returns-in-Ok-Ends c =
    alone_ends c.args.limits.now c.args.frame.now c.args.u c.args.book.now c.in-Ok-Ends.outcome
    (ok_is c.work_in.result (IsWork c.args.limits.now c.args.frame.now c.args.u c.args.book.now.problem (now_of c.args.book.now).plan (table_at (now_of c.args.book.now)) (front_of c.args.book.now)) (Ends c.in-Ok-Ends.outcome) (c.in-Ok-Ends.is ∙ ap Ok c.in-Ok-Ends.field-0-is) c.work_in.ensures)
