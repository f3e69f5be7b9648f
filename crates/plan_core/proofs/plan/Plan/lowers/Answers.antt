use Rattle.std.proofs.Common.{◌≡◌, sym, subst}
use Rattle.std.specs.Result.{IfOk}
use Rattle.tri_check.specs.Problems.{Problem}
use Rattle.plan_law.specs.Plans.{lowers}
use Rattle.plan_core.specs.States.{plan_of, IsHeld}
use Rattle.plan_core.proofs.plan.Plan.lowers.Goals as goal

pub would_lower-requires : goal.would_lower-requires
would_lower-requires c = subst (λ p. IsHeld p c.self.inside.centre c.self.inside.tracks) (sym c.deref.ensures) c.self.invariant

pub returns : goal.returns
returns c =
    subst (λ v. IfOk c.would_lower.result (λ b. b ≡ lowers v.problem.points v.plan c.args.edges.now)) c.self.view_is
    (subst (λ (p : Problem). IfOk c.would_lower.result (λ b. b ≡ lowers p.points (plan_of p c.self.inside.centre.edges c.self.inside.tracks) c.args.edges.now)) c.deref.ensures c.would_lower.ensures)
