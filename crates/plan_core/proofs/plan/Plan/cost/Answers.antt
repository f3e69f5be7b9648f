use Rattle.std.proofs.Common.{◌≡◌, ◌∙◌, ◌<◌, length, sym, ap, subst, arith}
use Rattle.flip_list_law.specs.FlipLists.{round_count}
use Rattle.plan_core.specs.HeldPlans.{list_at}
use Rattle.plan_core.proofs.Held.{as_many, flips_at}
use Rattle.plan_core.proofs.plan.Plan.cost.Goals as goal

pub at-requires : goal.at-requires
at-requires c =
    let h = subst (λ v. c.args.t < length v.problem.inputs) (sym c.self.view_is) c.requires in
    let n = as_many c.self.inside.inst.value c.self.inside.centre c.self.inside.tracks c.self.invariant in
    omega (arith, h, n)

pub returns : goal.returns
returns c = subst (λ v. c.rounds.result ≡ round_count (list_at v.plan c.args.t)) c.self.view_is (c.rounds.ensures ∙ ap round_count (sym (flips_at c.self.inside.tracks c.args.t c.at.result.now c.at.ensures)))
