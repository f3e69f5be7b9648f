use Rattle.std.proofs.Common.{◌∙◌, ◌+◌, ◌*◌, ◌-◌, get_or, sym, ap, subst}
use Rattle.tri_check.specs.Problems.{Problem}
use Rattle.plan_core.specs.HeldPlans.{HeldPlan}
use Rattle.plan_core.specs.SwapFaults.{IsSwapFault}
use Rattle.book_core.specs.PlanSteps.{IsSwappedIn}
use Rattle.book_core.proofs.Swapped.{swapped_in, no_better}
use Rattle.book_core.proofs.steps.make_swap.Goals as goal

pub returns-in-Ok-clause-ok : goal.returns-in-Ok-clause-ok
returns-in-Ok-clause-ok c =
    let S = c.in-Ok.ensures.ok in
    let same = ap (λ (p : Problem). get_or p.weights c.args.t 0) (c.deref.ensures ∙ (c.inst.ensures ∙ S.problem)) ∙ ap (λ ws. get_or ws c.args.t 0) (sym c.total-held.ensures.schedules.weights) in
    subst (λ n. IsSwappedIn c.args.plan.now.problem c.args.plan.now.plan c.args.t c.args.rounds.now n c.swap.new.self.plan) (sym (c.weighed.ensures.weighed ∙ ap (λ w. w * c.in-Ok.saved) same))
    (swapped_in c.args.plan.now.problem c.args.plan.now.plan c.total-held.ensures.problem c.total-held.ensures.plan c.args.t c.requires c.args.rounds.now c.swap.new.self.plan c.in-Ok.saved S.is_swapped S.some S.saved_is)

pub returns-in-Some-clause-err : goal.returns-in-Some-clause-err
returns-in-Some-clause-err c =
    let N = subst (IsSwapFault c.args.plan.now.problem c.args.plan.now.plan c.args.t c.args.rounds.now) c.in-Err-NotFewer.field-0-is c.in-Err-NotFewer.ensures.err in
    let kept = ap (λ (x : HeldPlan). x.problem) c.in-Err-NotFewer.ensures.kept in
    let same = ap (λ (p : Problem). get_or p.weights c.args.t 0) (c.deref-in-Err-NotFewer.ensures ∙ (c.inst-in-Err-NotFewer.ensures ∙ kept)) ∙ ap (λ ws. get_or ws c.args.t 0) (sym c.total-held.ensures.schedules.weights) in
    no_better c.args.plan.now.problem c.args.plan.now.plan c.total-held.ensures.problem c.total-held.ensures.plan c.args.t c.requires c.args.rounds.now c.in-Err-NotFewer.was c.in-Err-NotFewer.given c.total-held.result c.in-Some.given
    N c.total-held.ensures.total (c.in-Some.ensures.1 ∙ ap (λ n. c.total-held.result + n) (c.weighed-in-Err-NotFewer.ensures.weighed ∙ ap (λ w. w * (c.in-Err-NotFewer.given - c.in-Err-NotFewer.was)) same))
