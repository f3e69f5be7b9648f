use Rattle.std.proofs.Common.{◌≡◌, ◌∙◌, ◌<◌, length, sym, ap, subst, arith}
use Rattle.std.specs.Result.{IfOk}
use Rattle.std.proofs.lemmas.Result.{IfOk-weaker}
use Rattle.flip_list_law.specs.FlipLists.{grouped}
use Rattle.flip_list_law.specs.Laws.{Replays}
use Rattle.bound_law.specs.Bounds.{input_at}
use Rattle.plan_core.specs.HeldPlans.{list_at}
use Rattle.plan_core.proofs.Held.{as_many, flips_at, schedule_at}
use Rattle.plan_core.proofs.plan.Plan.schedule.Goals as goal

pub at-requires : goal.at-requires
at-requires c =
    let h = subst (λ v. c.args.t < length v.problem.inputs) (sym c.self.view_is) c.requires in
    let n = as_many c.self.inside.inst.value c.self.inside.centre c.self.inside.tracks c.self.invariant in
    omega (arith, h, n)

pub returns-clause-rounds : goal.returns-clause-rounds
returns-clause-rounds c =
    subst (λ v. IfOk c.grouped.result (λ r. r ≡ grouped (list_at v.plan c.args.t))) c.self.view_is
    (IfOk-weaker c.grouped.result _ _ (λ r h. h ∙ ap grouped (sym (flips_at c.self.inside.tracks c.args.t c.at.result.now c.at.ensures))) c.grouped.ensures.rounds)

pub returns-clause-schedule : goal.returns-clause-schedule
returns-clause-schedule c =
    let h = subst (λ v. c.args.t < length v.problem.inputs) (sym c.self.view_is) c.requires in
    subst (λ v. Replays v.problem.points (input_at v.problem.inputs c.args.t) (list_at v.plan c.args.t) v.plan.centre) c.self.view_is (schedule_at c.self.inside.inst.value c.self.inside.centre c.self.inside.tracks c.self.invariant c.args.t h)
