use Rattle.std.proofs.Common.{◌∙◌, ℕ, List, IfOk, length, sym, ap, subst}
use Rattle.std.specs.Prelude.{sum}
use Rattle.book_core.specs.HeldBooks.{now_of}
use Rattle.book_core.proofs.Tables.{length_table}
use Rattle.worker_pool.specs.Works.{table_at, IsWork}
use Rattle.worker_pool.proofs.alone.work_in.Goals as goal

pub work_on-requires-clause-table : goal.work_on-requires-clause-table
work_on-requires-clause-table c =
    ap (λ (t : List (List ℕ)). length t) c.weights.ensures.newest ∙ (length_table (now_of c.args.book.now).plan.weights (now_of c.args.book.now).rows ∙ ap (λ p. sum p.weights) (sym c.plan.ensures.plan))

pub returns : goal.returns
returns c =
    let a = subst (λ p. IfOk c.work_on.result (IsWork c.args.limits.now c.args.frame.now c.args.u p c.plan.result.now.plan c.weights.result.now c.front.result)) c.plan.ensures.problem c.work_on.ensures in
    let b = subst (λ q. IfOk c.work_on.result (IsWork c.args.limits.now c.args.frame.now c.args.u c.args.book.now.problem q c.weights.result.now c.front.result)) c.plan.ensures.plan a in
    let d = subst (λ t. IfOk c.work_on.result (IsWork c.args.limits.now c.args.frame.now c.args.u c.args.book.now.problem (now_of c.args.book.now).plan t c.front.result)) c.weights.ensures.newest b in
    subst (λ n. IfOk c.work_on.result (IsWork c.args.limits.now c.args.frame.now c.args.u c.args.book.now.problem (now_of c.args.book.now).plan (table_at (now_of c.args.book.now)) n)) c.front.ensures d
