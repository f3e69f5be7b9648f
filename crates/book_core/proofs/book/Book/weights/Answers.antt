use Rattle.std.proofs.Common.{◌≡◌, ◌∙◌, sym, ap, subst}
use Rattle.plan_law.specs.Worlds.{lower_table}
use Rattle.book_core.specs.HeldBooks.{HeldBook, now_of}
use Rattle.book_core.specs.HeldReplicas.{seen_all}
use Rattle.book_core.proofs.Grown.{weights_now}
use Rattle.book_core.proofs.book.Book.weights.Goals as goal

pub returns-clause-newest : goal.returns-clause-newest
returns-clause-newest c =
    let b : HeldBook = record { problem = c.self.inside.plan.problem; opening = c.self.inside.opening.value.plan; journal = c.self.inside.journal.items } in
    let H = c.self.invariant.0 in
    subst (λ (x : HeldBook). c.self.inside.weights ≡ (seen_all x).state.table) c.self.view_is (H.table_is ∙ ap (λ ws. lower_table ws (now_of b).rows) (sym (weights_now b H.weighed)))
