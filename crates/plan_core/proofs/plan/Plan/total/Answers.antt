use Rattle.std.proofs.Common.{◌≡◌, length, map, ap, sym, ◌∙◌, subst}
use Rattle.tri_theory.specs.Rounds.{weighted_sum}
use Rattle.tri_check.specs.Problems.{Problem}
use Rattle.flip_list_law.specs.FlipLists.{round_count}
use Rattle.plan_law.specs.Plans.{plan_total}
use Rattle.plan_core.specs.HeldPlans.{HasSchedules, lists_of}
use Rattle.plan_core.proofs.Held.{as_many, has_schedules}
use Rattle.plan_core.proofs.plan.Plan.total.Goals as goal

pub sum_rounds-requires : goal.sum_rounds-requires
sum_rounds-requires c = as_many c.self.inside.inst.value c.self.inside.centre c.self.inside.tracks c.self.invariant ∙ sym (ap (λ (p : Problem). length p.inputs) c.deref.ensures)

pub returns-clause-total : goal.returns-clause-total
returns-clause-total c =
    subst (λ v. c.sum_rounds.result ≡ plan_total v.plan) c.self.view_is
    (c.sum_rounds.ensures ∙ ap (λ (p : Problem). weighted_sum p.weights (map round_count (lists_of c.self.inside.tracks))) c.deref.ensures)

pub returns-clause-schedules : goal.returns-clause-schedules
returns-clause-schedules c = subst (λ v. HasSchedules v.problem v.plan) c.self.view_is (has_schedules c.self.inside.inst.value c.self.inside.centre c.self.inside.tracks c.self.invariant)
