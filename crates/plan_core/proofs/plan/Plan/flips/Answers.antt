use Rattle.std.proofs.Common.{◌↔◌, IsTrue, sym, subst}
use Rattle.std.specs.Option.{is_some}
use Rattle.tri_theory.specs.Flips.{Flips}
use Rattle.plan_core.proofs.Deciding.{decided}
use Rattle.plan_core.proofs.plan.Plan.flips.Goals as goal

pub returns : goal.returns
returns c =
    subst (λ v. IsTrue c.is_some.result ↔ Flips v.problem.points v.plan.centre c.args.e) c.self.view_is
    (subst (λ b. IsTrue b ↔ Flips c.self.inside.inst.value.points c.self.inside.centre.edges c.args.e) (sym c.is_some.ensures)
    (subst (λ ps. IsTrue (is_some c.quad.result) ↔ Flips ps c.self.inside.centre.edges c.args.e) c.self.invariant.of_points (decided c.quad.result (Flips c.self.inside.centre.points c.self.inside.centre.edges c.args.e) c.quad.ensures.none c.quad.ensures.flips)))
