use Rattle.centre_run.proofs.Shown.{shown_reply}
use Rattle.centre_run.proofs.verifying.certificate_reply.Goals as goal

pub returns-in-Ok-clause-says : goal.returns-in-Ok-clause-says
returns-in-Ok-clause-says c =
    let yes = c.in-Ok.yes in
    let is = c.in-Ok.ensures in
    shown_reply c.args.instance.now c.args.solution.now c.args.cert.now yes.total yes.bound c.with_line.result c.yes_text.result is.shown is.total is.said is.bound is.least c.yes_text.ensures c.with_line.ensures.status c.with_line.ensures.line
