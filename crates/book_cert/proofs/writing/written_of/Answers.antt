use Rattle.std.proofs.Common.{subst}
use Rattle.tri_check.specs.Problems.{Problem, IsProblem}
use Rattle.book_cert.proofs.Legal.{solved_legal}
use Rattle.book_cert.proofs.Solved.{solved_books_are_written}
use Rattle.book_cert.proofs.Writable.{certificates_are_writable}
use Rattle.book_cert.proofs.Shown.{what_is_written_is_shown}
use Rattle.book_cert.proofs.writing.written_of.Goals as goal

pub returns-clause-written : goal.returns-clause-written
returns-clause-written c =
    let problem = c.args.inst.now.value in
    let book = c.args.book.now in
    let is = subst (λ (p : Problem). IsProblem p.points p.inputs) c.deref.ensures c.count.ensures.problem in
    let solved = c.requires in
    solved_books_are_written problem c.args.order book c.in_ok-solution.solution c.in_ok-certificate.certificate (solved_legal problem c.args.order book is solved c.bound.ensures.legal) solved c.in_ok-solution.ensures.solution c.in_ok-certificate.ensures.cert

pub returns-clause-shown : goal.returns-clause-shown
returns-clause-shown c =
    let problem = c.args.inst.now.value in
    let book = c.args.book.now in
    let is = subst (λ (p : Problem). IsProblem p.points p.inputs) c.deref.ensures c.count.ensures.problem in
    let solved = c.requires in
    let solution = c.in_ok-solution.solution in
    let cert = c.in_ok-certificate.certificate in
    what_is_written_is_shown problem c.args.order solution cert is (solved_books_are_written problem c.args.order book solution cert (solved_legal problem c.args.order book is solved c.bound.ensures.legal) solved c.in_ok-solution.ensures.solution c.in_ok-certificate.ensures.cert)

pub returns-clause-writable : goal.returns-clause-writable
returns-clause-writable c =
    let problem = c.args.inst.now.value in
    let book = c.args.book.now in
    let is = subst (λ (p : Problem). IsProblem p.points p.inputs) c.deref.ensures c.count.ensures.problem in
    certificates_are_writable book c.in_ok-certificate.certificate (solved_legal problem c.args.order book is c.requires c.bound.ensures.legal) c.in_ok-certificate.ensures.cert
