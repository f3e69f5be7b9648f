use Rattle.std.proofs.Common.{◌∙◌, ap, subst, string_bytes}
use Rattle.std.proofs.lemmas.Result.{IfOk-weaker}
use Rattle.centre_words.specs.declared.asked.Asked.TheVariants.{Verify}
use Rattle.host_io.specs.Store.{one_more}
use Rattle.centre_run.specs.Calls.{CallsFor}
use Rattle.centre_run.proofs.Calling.{verify_calls}
use Rattle.centre_run.specs.Runs.{MayHold, VerifySays, CommandDoes}
use Rattle.centre_run.proofs.Saying.{verify_does}
use Rattle.centre_run.proofs.verifying.verify_files.Goals as goal

pub returns-clause-does : goal.returns-clause-does
returns-clause-does g c =
    let old = g.S.Store.held c.args.store.now in
    let first = c.args.instance.now in
    let second = c.args.solution.now in
    let third = c.args.certificate.now in
    let twice = c.in_ok-others.ensures.kept ∙ c.in_ok-bytes.ensures.kept in
    let others = subst (λ held. MayHold held second c.in_ok-others.others) c.in_ok-bytes.ensures.kept c.in_ok-others.ensures.held in
    let last = subst (λ held. MayHold held third c.in_ok-last.last) twice c.in_ok-last.ensures.held in
    IfOk-weaker c.verify_bytes.result _ (λ r. CommandDoes old _ (Verify first second third) r.status (string_bytes r.line))
    (λ r says. verify_does old _ first second third c.in_ok-bytes.bytes c.in_ok-others.others c.in_ok-last.last r.status (string_bytes r.line) c.in_ok-bytes.ensures.held others last
    (c.in_ok-last.ensures.kept ∙ twice)
    (subst (λ b. VerifySays b c.in_ok-others.others c.in_ok-last.last r.status (string_bytes r.line)) c.as_slice.ensures
    (subst (λ o. VerifySays c.as_slice.result.now o c.in_ok-last.last r.status (string_bytes r.line)) c.as_slice-2.ensures
    (subst (λ l. VerifySays c.as_slice.result.now c.as_slice-2.result.now l r.status (string_bytes r.line)) c.as_slice-3.ensures says))))
    c.verify_bytes.ensures.says

pub returns-clause-called : goal.returns-clause-called
returns-clause-called g c =
    let first = c.args.instance.now in
    let second = c.args.solution.now in
    let third = c.args.certificate.now in
    IfOk-weaker c.verify_bytes.result _ (λ r. CallsFor (Verify first second third) r.status (g.S.Store.calls c.args.store.now) _)
    (λ r says. verify_calls _ _ _ first second third r.status (string_bytes r.line) _ _ says
    (c.in_ok-last.ensures.counted ∙ ap (λ n. one_more n) (c.in_ok-others.ensures.counted ∙ ap (λ n. one_more n) c.in_ok-bytes.ensures.counted)))
    c.verify_bytes.ensures.says
