use Rattle.std.proofs.Common.{◌≡◌, subst}
use Rattle.tri_check.specs.Problems.{Problem, IsProblem}
use Rattle.centre_run.specs.Orders.{bench_order}
use Rattle.centre_run.proofs.Benched.{reply_says, none_too_long}
use Rattle.centre_run.proofs.benching.bench_instance.Goals as goal

pub unreachable-requires : goal.unreachable-requires
unreachable-requires c =
    let instance = c.args.instance.value in
    let is : c.bench_order-order.result ≡ bench_order instance c.args.seed = subst (λ (p : Problem). c.bench_order-order.result ≡ bench_order p c.args.seed) c.deref-2.ensures c.bench_order-order.ensures in
    let problem = subst (λ (p : Problem). IsProblem p.points p.inputs) c.deref.ensures c.count.ensures.problem in
    none_too_long instance c.args.seed c.bench_order-order.result is c.in-Err-FlipBudget.field-0-0 c.in-Err-FlipBudget.field-0 problem c.in-Err-FlipBudget.field-0-is c.in-Err-FlipBudget.ensures.err

pub returns-in-Ok-clause-says : goal.returns-in-Ok-clause-says
returns-in-Ok-clause-says c =
    let instance = c.args.instance.value in
    let is : c.bench_order-order.result ≡ bench_order instance c.args.seed = subst (λ (p : Problem). c.bench_order-order.result ≡ bench_order p c.args.seed) c.deref-2.ensures c.bench_order-order.ensures in
    reply_says instance c.args.seed c.bench_order-order.result is c.in-Ok.book c.book_reply.result c.in-Ok.ensures.solved c.book_reply.ensures.below c.book_reply.ensures.status c.book_reply.ensures.line
