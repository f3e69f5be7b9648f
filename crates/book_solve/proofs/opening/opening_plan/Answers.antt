use Rattle.std.proofs.Common.{◌≡◌, subst}
use Rattle.tri_check.specs.Problems.{Problem}
use Rattle.lawson_start.specs.Starts.{IsStart}
use Rattle.plan_law.specs.Plans.{IsPlanOf}
use Rattle.book_solve.proofs.Opened.{start_leads, start_opens}
use Rattle.book_solve.proofs.opening.opening_plan.Goals as goal

pub opening-requires-clause-tracks : goal.opening-requires-clause-tracks
opening-requires-clause-tracks c =
    start_leads c.args.inst.value c.args.flips c.in_ok-centre.field-0
    (subst (λ (p : Problem). IsStart p.points p.inputs c.args.flips c.in_ok-centre.field-0) c.deref.ensures c.in_ok-centre.ensures.ok)

pub returns-clause-opens : goal.returns-clause-opens
returns-clause-opens c =
    start_opens c.args.inst.value c.args.flips c.in_ok-centre.field-0 c.in_ok-plan.plan.plan
    (subst (λ (p : Problem). IsStart p.points p.inputs c.args.flips c.in_ok-centre.field-0) c.deref.ensures c.in_ok-centre.ensures.ok)
    (subst (λ (p : Problem). IsPlanOf p.points p.inputs c.in_ok-plan.plan.plan) c.in_ok-plan.ensures.problem c.total.ensures.plan)
    (subst (λ (p : Problem). c.in_ok-plan.plan.plan.weights ≡ p.weights) c.in_ok-plan.ensures.problem c.total.ensures.schedules.weights) c.in_ok-plan.ensures.centre c.in_ok-plan.ensures.lists
