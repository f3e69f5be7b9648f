use Rattle.std.proofs.lemmas.Result.{err_from_is_err_and}
use Rattle.std.specs.Prelude.{IfErr}
use Rattle.std.proofs.Common.{◌≡◌, ◌∙◌, ◌+◌, ◌<◌, [], ◌∷◌, ◌++◌, length, refl, sym, ap, subst}
use Rattle.book_core.specs.declared.entry.Entry.TheVariants.{Swap}
use Rattle.book_core.specs.HeldBooks.{HeldBook, front_of, Accepts, IsHeldBook, AreNumbers, Refuses}
use Rattle.book_core.proofs.Offered.{same_book, numbers_on, kept_limit, swap_held, swap_accepted, swap_refused}
use Rattle.book_core.proofs.book.Book.offer_swap.Goals as goal

pub invariant_of-self-2 : goal.invariant_of-self-2
invariant_of-self-2 c =
    let b : HeldBook = record { problem = c.self.inside.plan.problem; opening = c.self.inside.opening.value.plan; journal = c.self.inside.journal.items } in
    let H = c.self.invariant.0 in
    let N = c.self.invariant.1 in
    let h : c.args.input < length b.problem.inputs = subst (λ (x : HeldBook). c.args.input < length x.problem.inputs) (sym c.self.view_is) c.requires in
    let line = Swap c.args.turn c.args.input c.args.rounds in
    let fresh : c.args.base ≡ front_of b = c.if-base-front.false ∙ N.front_is in
    let same = same_book b line c.make_swap.new.plan.problem c.push_reserved.new.self.items c.in_ok-saved.ensures.problem (c.push_reserved.ensures.items ∙ ap (λ l. l ++ line ∷ []) c.reserve.ensures.items) in (
      subst (λ (x : HeldBook). IsHeldBook x c.make_swap.new.plan.plan c.self.inside.weights c.self.inside.perm) (sym same)
          (swap_held b c.self.inside.plan.plan c.self.inside.weights c.self.inside.perm H c.args.base fresh c.args.turn c.args.input c.args.rounds h c.in_ok-saved.saved c.make_swap.new.plan.plan c.in_ok-saved.ensures.ok),
      subst (λ (x : HeldBook). AreNumbers x c.self.inside.opened (c.self.inside.front + 1) c.self.inside.limit) (sym same)
          (numbers_on b c.self.inside.plan.plan c.self.inside.weights c.self.inside.perm H line c.self.inside.opened c.self.inside.front c.self.inside.limit (c.self.inside.front + 1) c.self.inside.limit N refl (kept_limit b c.self.inside.plan.plan c.self.inside.weights c.self.inside.perm H line c.self.inside.limit refl refl N.limit_is)),
    )

pub returns-clause-ok : goal.returns-clause-ok
returns-clause-ok c =
    let b : HeldBook = record { problem = c.self.inside.plan.problem; opening = c.self.inside.opening.value.plan; journal = c.self.inside.journal.items } in
    let H = c.self.invariant.0 in
    let h : c.args.input < length b.problem.inputs = subst (λ (x : HeldBook). c.args.input < length x.problem.inputs) (sym c.self.view_is) c.requires in
    let line = Swap c.args.turn c.args.input c.args.rounds in
    let fresh : c.args.base ≡ front_of b = c.if-base-front.false ∙ c.self.invariant.1.front_is in
    subst (λ (x : HeldBook). c.len-place.result ≡ length x.journal → Accepts x c.args.base line c.len-place.result c.in_ok-saved.saved) c.self.view_is
    (λ at. swap_accepted b c.self.inside.plan.plan c.self.inside.weights c.self.inside.perm H c.args.base fresh c.args.turn c.args.input c.args.rounds h c.len-place.result c.in_ok-saved.saved c.make_swap.new.plan.plan at c.in_ok-saved.ensures.ok) c.len-place.ensures

pub returns-in_err-saved-clause-err : goal.returns-in_err-saved-clause-err
returns-in_err-saved-clause-err c =
    let b : HeldBook = record { problem = c.self.inside.plan.problem; opening = c.self.inside.opening.value.plan; journal = c.self.inside.journal.items } in
    let fresh : c.args.base ≡ front_of b = c.if-base-front.false ∙ c.self.invariant.1.front_is in
    let h : c.args.input < length b.problem.inputs = subst (λ (x : HeldBook). c.args.input < length x.problem.inputs) (sym c.self.view_is) c.requires in
    let refused = subst (λ (x : HeldBook). Refuses x c.args.base (Swap c.args.turn c.args.input c.args.rounds) c.in_err-saved.field-0.0) c.self.view_is (swap_refused b c.self.inside.plan.plan c.self.inside.weights c.self.inside.perm c.self.invariant.0 c.args.base fresh c.args.turn c.args.input c.args.rounds h c.in_err-saved.field-0.0 c.in_err-saved.ensures.err) in
    let p = err_from_is_err_and c.from_residual-in_err-saved.result c.from_residual-in_err-saved.ensures.1 in
    subst (λ r. IfErr r (Refuses c.args.self.now c.args.base (Swap c.args.turn c.args.input c.args.rounds))) (sym p.1) (subst (Refuses c.args.self.now c.args.base (Swap c.args.turn c.args.input c.args.rounds)) (sym p.2) refused)
