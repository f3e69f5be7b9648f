use Rattle.std.proofs.Common.{sym, subst}
use Rattle.tri_check.specs.Problems.{IsProblem, AreFewWeights}
use Rattle.plan_core.specs.States.{IsHeld}
use Rattle.plan_core.proofs.Held.{opening_held}
use Rattle.plan_core.proofs.plan.Plan.opening.Goals as goal

pub invariant_of-result : goal.invariant_of-result
invariant_of-result c =
    subst (λ layout. IsHeld c.args.inst.value layout c.args.tracks) (sym c.in_ok-centre.ensures)
    (opening_held c.args.inst.value c.args.centre c.args.tracks (subst (λ p. IsProblem p.points p.inputs) c.deref.ensures c.count.ensures.problem) (subst (λ p. AreFewWeights p.inputs p.weights) c.deref.ensures c.count.ensures.weights) c.requires.points c.requires.tracks c.in_ok-group_all.ensures)
