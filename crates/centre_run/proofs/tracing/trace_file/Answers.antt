use Rattle.std.proofs.Common.{subst, string_bytes}
use Rattle.std.proofs.lemmas.Result.{IfOk-weaker}
use Rattle.centre_words.specs.declared.asked.Asked.TheVariants.{Trace}
use Rattle.centre_run.specs.Runs.{TraceSays, CommandDoes}
use Rattle.centre_run.proofs.Saying.{trace_does}
use Rattle.centre_run.proofs.tracing.trace_file.Goals as goal

pub returns-clause-does : goal.returns-clause-does
returns-clause-does g c =
    let old = g.S.Store.held c.args.store.now in
    let new = g.S.Store.held c.read_file.new.store in
    let t = c.args.t in
    IfOk-weaker c.trace_bytes.result _ (λ r. CommandDoes old new (Trace c.args.name.now t) r.status (string_bytes r.line))
    (λ r says. trace_does old new c.args.name.now c.in_ok-bytes.bytes t r.status (string_bytes r.line) c.in_ok-bytes.ensures.held c.in_ok-bytes.ensures.kept
    (subst (λ bytes. TraceSays bytes t r.status (string_bytes r.line)) c.as_slice.ensures says))
    c.trace_bytes.ensures.says
