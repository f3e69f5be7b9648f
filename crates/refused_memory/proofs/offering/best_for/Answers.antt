use Rattle.std.proofs.Common.{◌∙◌, ℕ, List, length, ap, subst}
use Rattle.assignment_law.specs.Assignments.{IsAssignment}
use Rattle.book_core.specs.HeldBooks.{now_of}
use Rattle.book_core.proofs.Tables.{length_table}
use Rattle.refused_memory.proofs.offering.best_for.Goals as goal

pub returns : goal.returns
returns c = let e = ap (λ (t : List (List ℕ)). length t) c.weights.ensures.table ∙ length_table c.args.book.now.problem.weights (now_of c.args.book.now).rows in
    subst (λ (n : ℕ). IsAssignment n c.in_ok-best_assignment.field-0.perm) e c.in_ok-best_assignment.ensures.permutation
