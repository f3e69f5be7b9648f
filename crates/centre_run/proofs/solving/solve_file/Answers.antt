use Rattle.std.proofs.Common.{◌≡◌, ◌⊎◌, ◌∙◌, inr, ap, subst, string_bytes, Err}
use Rattle.std.specs.Prelude.{IsErrOf}
use Rattle.std.proofs.lemmas.Result.{err_from_is_err_and}
use Rattle.host_io.specs.Store.{one_more}
use Rattle.centre_run.specs.declared.reply.Quiet.TheVariants.{Memory, WriteFault}
use Rattle.centre_run.specs.Runs.{SolveSays}
use Rattle.centre_run.specs.Calls.{after_writing}
use Rattle.centre_run.proofs.Calling.{solve_calls, solve_stops}
use Rattle.centre_run.proofs.Saying.{solve_does, solve_begins, solve_breaks_off, is_error}
use Rattle.centre_run.proofs.solving.solve_file.Goals as goal

pub returns-clause-does : goal.returns-clause-does
returns-clause-does g c =
    let solved = c.in_ok-solved.solved in
    let line = string_bytes solved.reply.line in
    solve_does (g.S.Store.held c.args.store.now) _ _ c.args.instance.now c.args.targets.solution.now c.args.targets.certificate.now c.in_ok-bytes.bytes c.args.options solved.reply.status line solved.texts c.in_ok-bytes.ensures.held c.in_ok-bytes.ensures.kept
    (subst (λ bytes. SolveSays bytes c.args.options solved.reply.status line solved.texts) c.as_slice.ensures c.in_ok-solved.ensures.says) c.in_ok-write_texts.ensures.written

pub returns-clause-called : goal.returns-clause-called
returns-clause-called g c =
    let solved = c.in_ok-solved.solved in
    solve_calls c.args.instance.now c.args.targets.solution.now c.args.targets.certificate.now c.args.options _ solved.reply.status (string_bytes solved.reply.line) solved.texts _ _ c.in_ok-solved.ensures.says
    (c.in_ok-write_texts.ensures.called ∙ ap (λ n. after_writing solved.texts n) c.in_ok-bytes.ensures.counted)

pub returns-in_err-write_texts-clause-memory : goal.returns-in_err-write_texts-clause-memory
returns-in_err-write_texts-clause-memory g c = λ is.
    let solved = c.in_ok-solved.solved in
    let line = string_bytes solved.reply.line in
    let p = err_from_is_err_and c.from_residual-in_err-write_texts.result c.from_residual-in_err-write_texts.ensures.1 in
    let wanted : IsErrOf {T = Unit {0}} (Err c.in_err-write_texts.field-0.0) Memory = subst (λ e. IsErrOf {T = Unit {0}} (Err e) Memory) p.2 (is_error c.from_residual-in_err-write_texts.result p.0 Memory p.1 is) in
    inr (solve_begins (g.S.Store.held c.args.store.now) _ _ c.args.instance.now c.args.targets.solution.now c.args.targets.certificate.now c.in_ok-bytes.bytes c.args.options solved.reply.status line solved.texts c.in_ok-bytes.ensures.held c.in_ok-bytes.ensures.kept
    (subst (λ bytes. SolveSays bytes c.args.options solved.reply.status line solved.texts) c.as_slice.ensures c.in_ok-solved.ensures.says) (c.in_err-write_texts.ensures.memory wanted))

pub returns-in_err-write_texts-clause-broken : goal.returns-in_err-write_texts-clause-broken
returns-in_err-write_texts-clause-broken g c = λ is.
    let solved = c.in_ok-solved.solved in
    let line = string_bytes solved.reply.line in
    let p = err_from_is_err_and c.from_residual-in_err-write_texts.result c.from_residual-in_err-write_texts.ensures.1 in
    let failed : IsErrOf {T = Unit {0}} (Err c.in_err-write_texts.field-0.0) WriteFault = subst (λ e. IsErrOf {T = Unit {0}} (Err e) WriteFault) p.2 (is_error c.from_residual-in_err-write_texts.result p.0 WriteFault p.1 is) in
    solve_breaks_off (g.S.Store.held c.args.store.now) _ _ c.args.instance.now c.args.targets.solution.now c.args.targets.certificate.now c.in_ok-bytes.bytes c.args.options solved.reply.status line solved.texts c.in_ok-bytes.ensures.held c.in_ok-bytes.ensures.kept
    (subst (λ bytes. SolveSays bytes c.args.options solved.reply.status line solved.texts) c.as_slice.ensures c.in_ok-solved.ensures.says) (c.in_err-write_texts.ensures.broken failed)

pub returns-in_err-write_texts-clause-broken_calls : goal.returns-in_err-write_texts-clause-broken_calls
returns-in_err-write_texts-clause-broken_calls g c = λ is.
    let p = err_from_is_err_and c.from_residual-in_err-write_texts.result c.from_residual-in_err-write_texts.ensures.1 in
    let failed : IsErrOf {T = Unit {0}} (Err c.in_err-write_texts.field-0.0) WriteFault = subst (λ e. IsErrOf {T = Unit {0}} (Err e) WriteFault) p.2 (is_error c.from_residual-in_err-write_texts.result p.0 WriteFault p.1 is) in
    let before = g.S.Store.calls c.args.store.now in
    let now = g.S.Store.calls c.write_texts.new.store in
    solve_stops c.args.instance.now c.args.targets.solution.now c.args.targets.certificate.now c.args.options before now (subst (λ n. (now ≡ one_more n) ⊎ (now ≡ one_more (one_more n))) c.in_ok-bytes.ensures.counted (c.in_err-write_texts.ensures.broken_call failed))
