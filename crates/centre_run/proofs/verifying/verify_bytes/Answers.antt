use Rattle.std.proofs.Common.{string_bytes}
use Rattle.std.proofs.lemmas.Result.{IfOk-weaker}
use Rattle.centre_run.specs.Runs.{VerifySays}
use Rattle.centre_run.proofs.Shown.{texts_say}
use Rattle.centre_run.proofs.verifying.verify_bytes.Goals as goal

pub returns-clause-says : goal.returns-clause-says
returns-clause-says c =
    let instance = c.in-Ok.ensures in
    let solution = c.in-Ok-read_solution.ensures in
    IfOk-weaker c.verify_raw.result _ (λ r. VerifySays c.args.bytes.now c.args.others.now c.args.last.now r.status (string_bytes r.line))
    (λ r says. texts_say c.args.bytes.now c.args.others.now c.args.last.now c.in-Ok.raw c.in-Ok-read_solution.solution c.in-Ok-read_cert.cert r.status (string_bytes r.line) instance.form instance.ok solution.form solution.ok c.in-Ok-read_cert.ensures.ok says)
    c.verify_raw.ensures.says
