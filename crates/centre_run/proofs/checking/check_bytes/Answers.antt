use Rattle.std.proofs.Common.{sym, subst, string_bytes}
use Rattle.std.proofs.lemmas.Result.{IfOk-weaker}
use Rattle.tri_check.specs.Accepted.{IsAccepted}
use Rattle.centre_run.specs.Runs.{CheckSays}
use Rattle.centre_run.proofs.Saying.{accepted_says}
use Rattle.centre_run.proofs.checking.check_bytes.Goals as goal

pub returns-in-Ok-check-clause-says : goal.returns-in-Ok-check-clause-says
returns-in-Ok-check-clause-says c =
    let raw = c.in-Ok.raw in
    let accepted = subst (λ problem. IsAccepted raw.uid raw.points raw.inputs raw.weights problem) (sym c.deref.ensures) c.in-Ok-check.ensures.ok in
    IfOk-weaker c.valid_reply.result _ (λ r. CheckSays c.args.bytes.now r.status (string_bytes r.line))
    (λ r says. accepted_says c.args.bytes.now raw c.deref.result.now r.status (string_bytes r.line) c.in-Ok.ensures.form c.in-Ok.ensures.ok accepted says.0 says.1)
    c.valid_reply.ensures.says
