use Rattle.std.proofs.Common.{◌∙◌, ℕ, subst}
use Rattle.tri_check.specs.Problems.{Problem, IsProblem}
use Rattle.worker_pool.specs.Finishes.{IsFinished}
use Rattle.worker_pool.proofs.Turned.{ok_is}
use Rattle.book_core.specs.HeldBooks.{HeldBook}
use Rattle.worker_pool.specs.declared.outcome.Outcome.{Outcome}
use Rattle.std.specs.Prelude.{List}
use Rattle.book_solve.specs.Crews.{IsRun}
use Rattle.book_solve.proofs.Finished.{turns_and_finish_solve}
use Rattle.book_solve.proofs.solving.finished.Goals as goal

pub returns-clause-solved : goal.returns-clause-solved
returns-clause-solved c =
    let problem = c.args.inst.now.value in
    let order = c.args.order in
    let R : IsRun problem order c.in-Ok.book c.in-Ok.outcomes = ok_is c.args.run (λ (r : HeldBook × List Outcome). IsRun problem order r.0 r.1) (c.in-Ok.book, c.in-Ok.outcomes) c.in-Ok.is c.requires.run in
    turns_and_finish_solve problem order c.in-Ok.book c.finish.new.book c.in-Ok.outcomes
    (subst (λ (p : Problem). IsProblem p.points p.inputs) c.deref.ensures c.count.ensures.problem)
    R
    c.if-some_wanted_memory.ensures
    (subst (λ (n : ℕ). IsFinished n c.in-Ok.book c.finish.new.book) (c.len.ensures ∙ R.one_each) c.in_ok-finish.ensures.ok)
