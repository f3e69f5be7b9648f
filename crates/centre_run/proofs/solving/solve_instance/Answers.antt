use Rattle.std.proofs.Common.{◌≡◌, subst}
use Rattle.tri_check.specs.Problems.{Problem}
use Rattle.book_cert.specs.Written.{IsWritten}
use Rattle.centre_run.specs.Orders.{order_of}
use Rattle.centre_run.proofs.Found.{found_reply}
use Rattle.centre_run.proofs.solving.solve_instance.Goals as goal

pub returns-in-Ok-clause-says : goal.returns-in-Ok-clause-says
returns-in-Ok-clause-says g c =
    let instance = c.args.instance.value in
    let order = order_of instance c.args.options in
    let solution = c.in-Ok.written.solution in
    let cert = c.in-Ok.written.certificate in
    let asked : c.order_of-order.result ≡ order = subst (λ (p : Problem). c.order_of-order.result ≡ order_of p c.args.options) c.deref-2.ensures c.order_of-order.ensures in
    let is_found = c.requires.finds _ _ _ c.in-Ok.ensures in
    let found = c.found.ensures in
    found_reply instance order solution cert c.found.result (subst (λ o. IsWritten instance o solution cert) asked is_found.written) is_found.shown found.solution found.certificate found.status found.line found.texts
