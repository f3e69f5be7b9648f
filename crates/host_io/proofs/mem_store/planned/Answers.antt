use Rattle.std.proofs.Common.{◌∙◌, sym, ap}
use Rattle.std.proofs.lemmas.List.{drop_all}
use Rattle.host_io.proofs.Entries.{latest, planned_here, planned_there, get-planned_in}
use Rattle.host_io.proofs.mem_store.planned.Goals as goal

pub returns-then-call-plan : goal.returns-then-call-plan
returns-then-call-plan c =
    sym (get-planned_in c.args.plans.now c.args.call ∙ sym c.loop-plan.invariant ∙ planned_here c.args.plans.now c.loop-plan.plan-index _ c.args.call c.loop-plan-test.true c.if-call-plan.true)

pub loop-plan-preserved : goal.loop-plan-preserved
loop-plan-preserved c =
    sym (planned_there c.args.plans.now c.loop-plan.plan-index _ c.args.call c.loop-plan-test.true c.if-call-plan.false) ∙ c.loop-plan.invariant

pub returns : goal.returns
returns c =
    sym (get-planned_in c.args.plans.now c.args.call ∙ sym c.loop-plan.invariant ∙ ap (λ ps. latest ps c.args.call) (drop_all c.loop-plan.plan-index c.args.plans.now c.loop-plan-test.false))
