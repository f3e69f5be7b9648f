use Rattle.std.proofs.Common.{sym, subst}
use Rattle.book_core.specs.HeldBooks.{HeldBook, IsBelowPlans}
use Rattle.book_core.proofs.Kept.{bounds_plans}
use Rattle.book_core.proofs.book.Book.bound.Goals as goal

pub returns-clause-plans : goal.returns-clause-plans
returns-clause-plans c =
    let b : HeldBook = record { problem = c.self.inside.plan.problem; opening = c.self.inside.opening.value.plan; journal = c.self.inside.journal.items } in
    let H = c.self.invariant.0 in
    subst (λ (x : HeldBook). IsBelowPlans x.problem c.self.inside.limit) c.self.view_is (subst (IsBelowPlans b.problem) (sym c.self.invariant.1.limit_is) (bounds_plans b H.is_problem H.is_book H.weighed))
