use Rattle.std.proofs.Common.{inr, sym, subst, string_bytes}
use Rattle.std.proofs.lemmas.Result.{IfOk-weaker}
use Rattle.tri_check.specs.Accepted.{IsAccepted}
use Rattle.centre_run.specs.Runs.{TraceSays}
use Rattle.centre_run.proofs.tracing.trace_bytes.Goals as goal

pub returns-in-Ok-check-clause-says : goal.returns-in-Ok-check-clause-says
returns-in-Ok-check-clause-says c =
    let raw = c.in-Ok.raw in
    let accepted = subst (λ problem. IsAccepted raw.uid raw.points raw.inputs raw.weights problem) (sym c.deref.ensures) c.in-Ok-check.ensures.ok in
    IfOk-weaker c.run_reply.result _ (λ r. TraceSays c.args.bytes.now c.args.t r.status (string_bytes r.line))
    (λ r says. inr (
      c.deref.result.now,
      record { raw = raw; valid = (c.in-Ok.ensures.form, c.in-Ok.ensures.ok, accepted.valid); accepted = accepted; problem = c.run_reply.ensures.problem },
      says,
    ))
    c.run_reply.ensures.says
