use Rattle.std.proofs.Common.{subst, string_bytes}
use Rattle.std.proofs.lemmas.Result.{IfOk-weaker}
use Rattle.centre_words.specs.declared.asked.Asked.TheVariants.{Check}
use Rattle.centre_run.specs.Runs.{CheckSays, CommandDoes}
use Rattle.centre_run.proofs.Saying.{check_does}
use Rattle.centre_run.proofs.checking.check_file.Goals as goal

pub returns-clause-does : goal.returns-clause-does
returns-clause-does g c =
    let old = g.S.Store.held c.args.store.now in
    let new = g.S.Store.held c.read_file.new.store in
    IfOk-weaker c.check_bytes.result _ (λ r. CommandDoes old new (Check c.args.name.now) r.status (string_bytes r.line))
    (λ r says. check_does old new c.args.name.now c.in_ok-bytes.bytes r.status (string_bytes r.line) c.in_ok-bytes.ensures.held c.in_ok-bytes.ensures.kept
    (subst (λ bytes. CheckSays bytes r.status (string_bytes r.line)) c.as_slice.ensures says))
    c.check_bytes.ensures.says
