use Rattle.std.proofs.Common.{subst}
use Rattle.std.specs.Prelude.{sum}
use Rattle.assignment_law.specs.Assignments.{IsAssignment}
use Rattle.book_core.specs.HeldBooks.{HeldBook}
use Rattle.book_core.proofs.Offered.{assigns}
use Rattle.book_core.proofs.book.Book.perm.Goals as goal

pub returns-clause-assigns : goal.returns-clause-assigns
returns-clause-assigns c =
    let b : HeldBook = record { problem = c.self.inside.plan.problem; opening = c.self.inside.opening.value.plan; journal = c.self.inside.journal.items } in
    subst (λ (x : HeldBook). IsAssignment (sum x.problem.weights) c.self.inside.perm) c.self.view_is (assigns b c.self.inside.plan.plan c.self.inside.weights c.self.inside.perm c.self.invariant.0)
