use Rattle.std.proofs.Common.{◌≡◌, ◌∙◌, ℕ, Ok, IfErr, length, sym, ap, subst}
use Rattle.worker_pool.specs.declared.work.Work.TheVariants.{Offers, Ends}
use Rattle.worker_pool.specs.Turns.{IsPublished, MayBeRefused, outcome_for}
use Rattle.worker_pool.specs.Works.{IsWork}
use Rattle.worker_pool.proofs.Fit.{published_may}
use Rattle.worker_pool.proofs.Turned.{table_long, turn_offers, turn_ends, on_true, ok_is}
use Rattle.worker_pool.proofs.turn.take_turn.Goals as goal

pub work_for-requires-clause-table : goal.work_for-requires-clause-table
work_for-requires-clause-table g c = table_long c.args.cell.now.ground c.catch_up-pass.result.0.seen c.catch_up-pass.new.replica c.catch_up-pass.ensures.replica

pub outcome_of-outcome-requires : goal.outcome_of-outcome-requires
outcome_of-outcome-requires g c =
    let r = c.catch_up-pass.new.replica in
    subst (λ k. IfErr c.publish-pass.result.1 (MayBeRefused k)) (sym c.kind_of-kind.ensures)
    (published_may c.args.limits.now c.args.frame.now c.args.u c.args.cell.now.ground c.catch_up-pass.result.0.seen r c.catch_up-pass.ensures.replica (on_true c.catch_up-pass.result.1 (r.state.seen ≡ length c.catch_up-pass.result.0.seen) c.if-not-caught.false c.catch_up-pass.ensures.whole)
    c.in-Ok-Offers.entry c.publish-pass.result.1 c.publish-pass.result.2 c.publish-pass.result.0.seen (subst (λ (n : ℕ). IsPublished c.args.cell.now.ground c.catch_up-pass.result.0.seen n c.in-Ok-Offers.entry c.publish-pass.result.1 c.publish-pass.result.2 c.publish-pass.result.0.seen) c.front-base.ensures c.publish-pass.ensures.published)
    (ok_is c.work_for.result (IsWork c.args.limits.now c.args.frame.now c.args.u r.problem r.state.plan r.state.table r.state.front) (Offers c.in-Ok-Offers.entry) (c.in-Ok-Offers.is ∙ ap Ok c.in-Ok-Offers.field-0-is) c.work_for.ensures).1)

pub returns-in-Ok-Offers : goal.returns-in-Ok-Offers
returns-in-Ok-Offers g c =
    turn_offers c.args.limits.now c.args.frame.now c.args.u c.args.cell.now c.args.pass c.catch_up-pass.result.0 c.catch_up-pass.new.replica c.catch_up-pass.ensures.seen c.catch_up-pass.ensures.replica c.catch_up-pass.ensures.made c.catch_up-pass.result.1 c.catch_up-pass.ensures.whole
    c.publish-pass.result.0 c.front-base.result c.in-Ok-Offers.entry c.publish-pass.result.1 c.publish-pass.result.2 c.outcome_of-outcome.result c.if-not-caught.false c.publish-pass.ensures.own c.publish-pass.ensures.seen c.publish-pass.ensures.made c.publish-pass.ensures.published c.front-base.ensures
    (ok_is c.work_for.result (IsWork c.args.limits.now c.args.frame.now c.args.u c.catch_up-pass.new.replica.problem c.catch_up-pass.new.replica.state.plan c.catch_up-pass.new.replica.state.table c.catch_up-pass.new.replica.state.front) (Offers c.in-Ok-Offers.entry) (c.in-Ok-Offers.is ∙ ap Ok c.in-Ok-Offers.field-0-is) c.work_for.ensures)
    (c.outcome_of-outcome.ensures ∙ ap (λ k. outcome_for k c.publish-pass.result.1 c.publish-pass.result.2) c.kind_of-kind.ensures)

pub returns-in-Ok-Ends : goal.returns-in-Ok-Ends
returns-in-Ok-Ends g c =
    turn_ends c.args.limits.now c.args.frame.now c.args.u c.args.cell.now c.args.pass c.catch_up-pass.result.0 c.catch_up-pass.new.replica c.catch_up-pass.ensures.seen c.catch_up-pass.ensures.replica c.catch_up-pass.ensures.made c.catch_up-pass.result.1 c.catch_up-pass.ensures.whole
    c.in-Ok-Ends.outcome c.if-not-caught.false c.catch_up-pass.ensures.own
    (ok_is c.work_for.result (IsWork c.args.limits.now c.args.frame.now c.args.u c.catch_up-pass.new.replica.problem c.catch_up-pass.new.replica.state.plan c.catch_up-pass.new.replica.state.table c.catch_up-pass.new.replica.state.front) (Ends c.in-Ok-Ends.outcome) (c.in-Ok-Ends.is ∙ ap Ok c.in-Ok-Ends.field-0-is) c.work_for.ensures)
