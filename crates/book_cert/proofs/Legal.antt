-- A solved book is legal.
use Rattle.std.proofs.Common.{◌∙◌, sym, ap, subst}
use Rattle.tri_check.specs.Problems.{Problem, IsProblem}
use Rattle.plan_law.specs.Books.{IsBook}
use Rattle.book_core.specs.Entries.{IsJustifiedRow}
use Rattle.book_core.specs.HeldBooks.{HeldBook, book_of}
use Rattle.book_solve.specs.declared.order.Order.{Order}
use Rattle.book_solve.specs.Solved.{IsSolvedBook}
use Rattle.book_cert.specs.Laws.{IsLegalBook}

pub solved_legal : (problem : Problem) (order : Order) (b : HeldBook) → IsProblem problem.points problem.inputs → IsSolvedBook problem order b → IsBook (IsJustifiedRow b.problem.points b.problem.inputs) b.problem.points b.problem.inputs (book_of b) → IsLegalBook b
solved_legal problem order b is solved legal = (subst (λ (p : Problem). IsProblem p.points p.inputs) (sym solved.problem_is) is, solved.opens.weights ∙ sym (ap (λ (p : Problem). p.weights) solved.problem_is), legal)
