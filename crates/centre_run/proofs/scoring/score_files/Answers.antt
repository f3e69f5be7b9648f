use Rattle.std.proofs.Common.{◌∙◌, ap, subst, string_bytes}
use Rattle.std.proofs.lemmas.Result.{IfOk-weaker}
use Rattle.centre_words.specs.declared.asked.Asked.TheVariants.{Score}
use Rattle.host_io.specs.Store.{one_more}
use Rattle.centre_run.specs.Calls.{CallsFor}
use Rattle.centre_run.proofs.Calling.{score_calls}
use Rattle.centre_run.specs.Runs.{MayHold, ScoreSays, CommandDoes}
use Rattle.centre_run.proofs.Saying.{score_does}
use Rattle.centre_run.proofs.scoring.score_files.Goals as goal

pub returns-clause-does : goal.returns-clause-does
returns-clause-does g c =
    let old = g.S.Store.held c.args.store.now in
    let others = subst (λ held. MayHold held c.args.solution.now c.in_ok-others.others) c.in_ok-bytes.ensures.kept c.in_ok-others.ensures.held in
    IfOk-weaker c.score_bytes.result _ (λ r. CommandDoes old _ (Score c.args.instance.now c.args.solution.now) r.status (string_bytes r.line))
    (λ r says. score_does old _ c.args.instance.now c.args.solution.now c.in_ok-bytes.bytes c.in_ok-others.others r.status (string_bytes r.line) c.in_ok-bytes.ensures.held others
    (c.in_ok-others.ensures.kept ∙ c.in_ok-bytes.ensures.kept)
    (subst (λ b. ScoreSays b c.in_ok-others.others r.status (string_bytes r.line)) c.as_slice.ensures
    (subst (λ o. ScoreSays c.as_slice.result.now o r.status (string_bytes r.line)) c.as_slice-2.ensures says)))
    c.score_bytes.ensures.says

pub returns-clause-called : goal.returns-clause-called
returns-clause-called g c =
    let first = c.args.instance.now in
    let second = c.args.solution.now in
    IfOk-weaker c.score_bytes.result _ (λ r. CallsFor (Score first second) r.status (g.S.Store.calls c.args.store.now) _)
    (λ r says. score_calls _ _ first second r.status (string_bytes r.line) _ _ says (c.in_ok-others.ensures.counted ∙ ap (λ n. one_more n) c.in_ok-bytes.ensures.counted))
    c.score_bytes.ensures.says
