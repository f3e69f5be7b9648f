use Rattle.std.proofs.Common.{arith, ◌≡◌, ◌∙◌, List, sym, ap, ap₂, subst}
use Rattle.std.specs.Prelude.{sum}
use Rattle.tri_check.specs.Problems.{Problem}
use Rattle.plan_core.specs.HeldPlans.{HeldPlan}
use Rattle.book_core.specs.declared.entry.Entry.{Entry}
use Rattle.plan_law.specs.Plans.{Plan}
use Rattle.book_core.specs.HeldBooks.{HeldBook, opened, IsHeldBook, AreNumbers}
use Rattle.book_core.proofs.Opened.{held_open, numbers_open, some_copies}
use Rattle.book_core.proofs.book.Book.opening.Goals as goal

pub make-requires : goal.make-requires
make-requires c =
    let W = c.count.ensures.weights in
    let I = c.count.ensures.problem in
    let some = some_copies c.deref.result.now.inputs c.deref.result.now.weights W I.some_input in
    let same = ap (λ (p : Problem). sum p.weights) ((c.deref.ensures ∙ c.inst.ensures) ∙ sym (c.deref-2.ensures ∙ c.inst-2.ensures)) in
    let n = c.copies-n.ensures.copies in (omega (arith, some, same, n), c.copies-n.ensures.few)

pub invariant_of-result : goal.invariant_of-result
invariant_of-result c =
    let count : c.copies-n.result ≡ sum c.args.plan.problem.weights = c.copies-n.ensures.copies ∙ ap (λ (p : Problem). sum p.weights) (c.deref-2.ensures ∙ c.inst-2.ensures) in
    let same : record { problem = c.args.plan.problem; opening = c.of.result.value.plan; journal = c.new.result.items } ≡ opened c.args.plan.problem c.args.plan.plan =
    ap₂ (λ (p : Plan) (j : List Entry). record { problem = c.args.plan.problem; opening = p; journal = j }) (ap (λ (x : HeldPlan). x.plan) c.of.ensures) c.new.ensures.items in (
      subst (λ (x : HeldBook). IsHeldBook x c.args.plan.plan c.in_ok-weights.weights c.in_ok-perm.perm) (sym same)
          (held_open c.args.plan.problem c.args.plan.plan c.total-total.ensures.problem c.total-total.ensures.plan c.total-total.ensures.schedules.weights c.copies-n.result c.in_ok-weights.weights c.in_ok-perm.perm count c.in_ok-weights.ensures c.in_ok-perm.ensures),
      subst (λ (x : HeldBook). AreNumbers x c.total-total.result 0 0) (sym same)
          (numbers_open c.args.plan.problem c.args.plan.plan c.total-total.ensures.problem c.total-total.ensures.plan c.total-total.ensures.schedules.weights c.total-total.result c.total-total.ensures.total),
    )
