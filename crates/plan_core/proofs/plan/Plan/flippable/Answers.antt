use Rattle.std.proofs.Common.{ap, ◌∙◌, subst}
use Rattle.std.proofs.lemmas.Result.{IfOk-weaker}
use Rattle.flip_mesh.specs.Build.{AreFlippable}
use Rattle.plan_law.specs.Images.{flippable}
use Rattle.plan_core.specs.HeldPlans.{HeldPlan}
use Rattle.plan_core.proofs.Held.{flippable_are}
use Rattle.plan_core.proofs.plan.Plan.flippable.Goals as goal

pub returns : goal.returns
returns c =
    IfOk-weaker c.flippable_list.result _ _
    (λ edges A. flippable_are c.self.inside.inst.value c.self.inside.centre c.self.inside.tracks c.self.invariant edges (subst (λ ps. AreFlippable ps c.self.inside.centre.edges edges) c.self.invariant.of_points A)
    ∙ ap (λ (v : HeldPlan). flippable v.problem.points v.plan.centre) c.self.view_is) c.flippable_list.ensures
