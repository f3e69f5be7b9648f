use Rattle.std.proofs.Common.{inr, refl, sym, ap, subst, string_bytes, Err}
use Rattle.std.proofs.lemmas.Result.{IfOk-weaker}
use Rattle.centre_words.specs.declared.asked.Asked.TheVariants.{Check, Score, Solve, Verify, Trace, Bench}
use Rattle.centre_words.specs.Words.{texts, Asks}
use Rattle.host_io.specs.Store.{Rose}
use Rattle.centre_run.specs.declared.solving.SolveOptions.{SolveOptions}
use Rattle.centre_run.specs.declared.status.Status.TheVariants.{ReadFault, WriteFault}
use Rattle.centre_run.specs.Runs.{Does}
use Rattle.centre_run.specs.Calls.{CallsFor, CommandCalls}
use Rattle.centre_run.proofs.Calling.{of_asked, check_calls, trace_calls, bench_calls}
use Rattle.centre_words.specs.declared.asked.Asked.{Asked}
use Rattle.centre_run.proofs.Saying.{command_does, bench_does, command_breaks_off, words_does, verify_asked, solve_words, command_begins}
use Rattle.centre_run.proofs.top.reply_to.Goals as goal

pub returns-in-Ok-Check-clause-does : goal.returns-in-Ok-Check-clause-does
returns-in-Ok-Check-clause-does g c =
    let words = texts c.args.words.now in
    let old = g.S.Store.held c.args.store.now in
    let new = g.S.Store.held c.check_file.new.store in
    let name = c.text.result.now in
    let asks = subst (λ n. Asks words (Check n)) (sym c.text.ensures.bytes) (subst (λ a. Asks words a) c.in-Ok-Check.field-0-is c.in-Ok-Check.ensures.asked) in
    IfOk-weaker c.check_file.result _ (λ r. Does words old new r.status (string_bytes r.line))
    (λ r does. command_does words old new (Check name) r.status (string_bytes r.line) asks does) c.check_file.ensures.does

pub returns-in-Ok-Check-clause-called : goal.returns-in-Ok-Check-clause-called
returns-in-Ok-Check-clause-called g c =
    let words = texts c.args.words.now in
    let old = g.S.Store.held c.args.store.now in
    let new = g.S.Store.held c.check_file.new.store in
    let name = c.text.result.now in
    let asks = subst (λ n. Asks words (Check n)) (sym c.text.ensures.bytes) (subst (λ a. Asks words a) c.in-Ok-Check.field-0-is c.in-Ok-Check.ensures.asked) in
    let before = g.S.Store.calls c.args.store.now in
    let now = g.S.Store.calls c.check_file.new.store in
    IfOk-weaker c.check_file.result _ (λ r. (d : Asked) → Asks words d → CallsFor d r.status before now)
    (λ r does. of_asked words (λ d. CallsFor d r.status before now) (Check name) asks (check_calls old new name r.status (string_bytes r.line) before now does c.check_file.ensures.counted)) c.check_file.ensures.does

pub returns-in-Ok-Score-clause-does : goal.returns-in-Ok-Score-clause-does
returns-in-Ok-Score-clause-does g c =
    let words = texts c.args.words.now in
    let old = g.S.Store.held c.args.store.now in
    let new = g.S.Store.held c.score_files.new.store in
    let first = c.text-in-Ok-Score.result.now in
    let second = c.text-in-Ok-Score-2.result.now in
    let asks = subst (λ n. Asks words (Score first n)) (sym c.text-in-Ok-Score-2.ensures.bytes)
    (subst (λ n. Asks words (Score n c.in-Ok-Score.solution)) (sym c.text-in-Ok-Score.ensures.bytes) (subst (λ a. Asks words a) c.in-Ok-Score.field-0-is c.in-Ok-Score.ensures.asked)) in
    IfOk-weaker c.score_files.result _ (λ r. Does words old new r.status (string_bytes r.line))
    (λ r does. command_does words old new (Score first second) r.status (string_bytes r.line) asks does) c.score_files.ensures.does

pub returns-in-Ok-Score-clause-called : goal.returns-in-Ok-Score-clause-called
returns-in-Ok-Score-clause-called g c =
    let words = texts c.args.words.now in
    let first = c.text-in-Ok-Score.result.now in
    let second = c.text-in-Ok-Score-2.result.now in
    let asks = subst (λ n. Asks words (Score first n)) (sym c.text-in-Ok-Score-2.ensures.bytes)
    (subst (λ n. Asks words (Score n c.in-Ok-Score.solution)) (sym c.text-in-Ok-Score.ensures.bytes) (subst (λ a. Asks words a) c.in-Ok-Score.field-0-is c.in-Ok-Score.ensures.asked)) in
    let before = g.S.Store.calls c.args.store.now in
    let now = g.S.Store.calls c.score_files.new.store in
    IfOk-weaker c.score_files.result _ (λ r. (d : Asked) → Asks words d → CallsFor d r.status before now)
    (λ r called. of_asked words (λ d. CallsFor d r.status before now) (Score first second) asks called) c.score_files.ensures.called

pub returns-in-Ok-Solve-clause-does : goal.returns-in-Ok-Solve-clause-does
returns-in-Ok-Solve-clause-does g c =
    let words = texts c.args.words.now in
    let old = g.S.Store.held c.args.store.now in
    let new = g.S.Store.held c.solve_file.new.store in
    let o = c.in-Ok-Solve in
    let first = c.text-in-Ok-Solve-3.result.now in
    let second = c.text-in-Ok-Solve.result.now in
    let third = c.text-in-Ok-Solve-2.result.now in
    let options : SolveOptions = record { workers = o.workers; turns = o.turns; seed = o.seed; flips = o.flips } in
    let asks = solve_words words o.instance o.solution o.certificate first second third options c.text-in-Ok-Solve-3.ensures.bytes c.text-in-Ok-Solve.ensures.bytes c.text-in-Ok-Solve-2.ensures.bytes (subst (λ a. Asks words a) o.field-0-is o.ensures.asked) in
    IfOk-weaker c.solve_file.result _ (λ r. Does words old new r.status (string_bytes r.line))
    (λ r does. command_does words old new (Solve first second third o.workers o.turns o.seed o.flips) r.status (string_bytes r.line) asks does) c.solve_file.ensures.does

pub returns-in-Ok-Solve-clause-called : goal.returns-in-Ok-Solve-clause-called
returns-in-Ok-Solve-clause-called g c =
    let words = texts c.args.words.now in
    let o = c.in-Ok-Solve in
    let first = c.text-in-Ok-Solve-3.result.now in
    let second = c.text-in-Ok-Solve.result.now in
    let third = c.text-in-Ok-Solve-2.result.now in
    let options : SolveOptions = record { workers = o.workers; turns = o.turns; seed = o.seed; flips = o.flips } in
    let asks = solve_words words o.instance o.solution o.certificate first second third options c.text-in-Ok-Solve-3.ensures.bytes c.text-in-Ok-Solve.ensures.bytes c.text-in-Ok-Solve-2.ensures.bytes (subst (λ a. Asks words a) o.field-0-is o.ensures.asked) in
    let before = g.S.Store.calls c.args.store.now in
    let now = g.S.Store.calls c.solve_file.new.store in
    IfOk-weaker c.solve_file.result _ (λ r. (d : Asked) → Asks words d → CallsFor d r.status before now)
    (λ r called. of_asked words (λ d. CallsFor d r.status before now) (Solve first second third o.workers o.turns o.seed o.flips) asks called) c.solve_file.ensures.called

pub returns-in-Ok-Solve-clause-broken : goal.returns-in-Ok-Solve-clause-broken
returns-in-Ok-Solve-clause-broken g c = λ failed.
    let words = texts c.args.words.now in
    let o = c.in-Ok-Solve in
    let first = c.text-in-Ok-Solve-3.result.now in
    let second = c.text-in-Ok-Solve.result.now in
    let third = c.text-in-Ok-Solve-2.result.now in
    let options : SolveOptions = record { workers = o.workers; turns = o.turns; seed = o.seed; flips = o.flips } in
    let asks = solve_words words o.instance o.solution o.certificate first second third options c.text-in-Ok-Solve-3.ensures.bytes c.text-in-Ok-Solve.ensures.bytes c.text-in-Ok-Solve-2.ensures.bytes (subst (λ a. Asks words a) o.field-0-is o.ensures.asked) in
    command_breaks_off words (g.S.Store.held c.args.store.now) (g.S.Store.held c.solve_file.new.store) (Solve first second third o.workers o.turns o.seed o.flips) asks (c.solve_file.ensures.broken failed)

pub returns-in-Ok-Verify-clause-does : goal.returns-in-Ok-Verify-clause-does
returns-in-Ok-Verify-clause-does g c =
    let words = texts c.args.words.now in
    let old = g.S.Store.held c.args.store.now in
    let new = g.S.Store.held c.verify_files.new.store in
    let o = c.in-Ok-Verify in
    let first = c.text-in-Ok-Verify.result.now in
    let second = c.text-in-Ok-Verify-2.result.now in
    let third = c.text-in-Ok-Verify-3.result.now in
    let asks = verify_asked words o.instance o.solution o.certificate first second third c.text-in-Ok-Verify.ensures.bytes c.text-in-Ok-Verify-2.ensures.bytes c.text-in-Ok-Verify-3.ensures.bytes (subst (λ a. Asks words a) o.field-0-is o.ensures.asked) in
    IfOk-weaker c.verify_files.result _ (λ r. Does words old new r.status (string_bytes r.line))
    (λ r does. command_does words old new (Verify first second third) r.status (string_bytes r.line) asks does) c.verify_files.ensures.does

pub returns-in-Ok-Verify-clause-called : goal.returns-in-Ok-Verify-clause-called
returns-in-Ok-Verify-clause-called g c =
    let words = texts c.args.words.now in
    let o = c.in-Ok-Verify in
    let first = c.text-in-Ok-Verify.result.now in
    let second = c.text-in-Ok-Verify-2.result.now in
    let third = c.text-in-Ok-Verify-3.result.now in
    let asks = verify_asked words o.instance o.solution o.certificate first second third c.text-in-Ok-Verify.ensures.bytes c.text-in-Ok-Verify-2.ensures.bytes c.text-in-Ok-Verify-3.ensures.bytes (subst (λ a. Asks words a) o.field-0-is o.ensures.asked) in
    let before = g.S.Store.calls c.args.store.now in
    let now = g.S.Store.calls c.verify_files.new.store in
    IfOk-weaker c.verify_files.result _ (λ r. (d : Asked) → Asks words d → CallsFor d r.status before now)
    (λ r called. of_asked words (λ d. CallsFor d r.status before now) (Verify first second third) asks called) c.verify_files.ensures.called

pub returns-in-Ok-Trace-clause-does : goal.returns-in-Ok-Trace-clause-does
returns-in-Ok-Trace-clause-does g c =
    let words = texts c.args.words.now in
    let old = g.S.Store.held c.args.store.now in
    let new = g.S.Store.held c.trace_file.new.store in
    let o = c.in-Ok-Trace in
    let name = c.text-in-Ok-Trace.result.now in
    let asks = subst (λ n. Asks words (Trace n o.t)) (sym c.text-in-Ok-Trace.ensures.bytes) (subst (λ a. Asks words a) o.field-0-is o.ensures.asked) in
    IfOk-weaker c.trace_file.result _ (λ r. Does words old new r.status (string_bytes r.line))
    (λ r does. command_does words old new (Trace name o.t) r.status (string_bytes r.line) asks does) c.trace_file.ensures.does

pub returns-in-Ok-Trace-clause-called : goal.returns-in-Ok-Trace-clause-called
returns-in-Ok-Trace-clause-called g c =
    let words = texts c.args.words.now in
    let old = g.S.Store.held c.args.store.now in
    let new = g.S.Store.held c.trace_file.new.store in
    let o = c.in-Ok-Trace in
    let name = c.text-in-Ok-Trace.result.now in
    let asks = subst (λ n. Asks words (Trace n o.t)) (sym c.text-in-Ok-Trace.ensures.bytes) (subst (λ a. Asks words a) o.field-0-is o.ensures.asked) in
    let before = g.S.Store.calls c.args.store.now in
    let now = g.S.Store.calls c.trace_file.new.store in
    IfOk-weaker c.trace_file.result _ (λ r. (d : Asked) → Asks words d → CallsFor d r.status before now)
    (λ r does. of_asked words (λ d. CallsFor d r.status before now) (Trace name o.t) asks (trace_calls old new name o.t r.status (string_bytes r.line) before now does c.trace_file.ensures.counted)) c.trace_file.ensures.does

pub returns-in-Err-Words-clause-does : goal.returns-in-Err-Words-clause-does
returns-in-Err-Words-clause-does g c =
    let words = texts c.args.words.now in
    let held = g.S.Store.held c.args.store.now in
    let unasked = c.in-Err-Words.ensures.words (ap (λ e. Err e) c.in-Err-Words.field-0-is) in
    IfOk-weaker c.words_reply.result _ (λ r. Does words held held r.status (string_bytes r.line))
    (λ r is. words_does words held held r.status (string_bytes r.line) unasked refl is.0 is.1) c.words_reply.ensures.says

pub returns-in-Ok-Solve-clause-stopped : goal.returns-in-Ok-Solve-clause-stopped
returns-in-Ok-Solve-clause-stopped g c = λ failed.
    let words = texts c.args.words.now in
    let o = c.in-Ok-Solve in
    let first = c.text-in-Ok-Solve-3.result.now in
    let second = c.text-in-Ok-Solve.result.now in
    let third = c.text-in-Ok-Solve-2.result.now in
    let options : SolveOptions = record { workers = o.workers; turns = o.turns; seed = o.seed; flips = o.flips } in
    let asks = solve_words words o.instance o.solution o.certificate first second third options c.text-in-Ok-Solve-3.ensures.bytes c.text-in-Ok-Solve.ensures.bytes c.text-in-Ok-Solve-2.ensures.bytes (subst (λ a. Asks words a) o.field-0-is o.ensures.asked) in
    let held = g.S.Store.held c.args.store.now in
    let before = g.S.Store.calls c.args.store.now in
    let now = g.S.Store.calls c.solve_file.new.store in
    let Failed = Rose (g.S.Store.read_faults c.args.store.now) (g.S.Store.read_faults c.solve_file.new.store) in
    of_asked words (λ d. CommandCalls held Failed d ReadFault before now) (Solve first second third o.workers o.turns o.seed o.flips) asks (c.solve_file.ensures.stopped failed)

pub returns-in-Ok-Solve-clause-broken_calls : goal.returns-in-Ok-Solve-clause-broken_calls
returns-in-Ok-Solve-clause-broken_calls g c = λ failed.
    let words = texts c.args.words.now in
    let o = c.in-Ok-Solve in
    let first = c.text-in-Ok-Solve-3.result.now in
    let second = c.text-in-Ok-Solve.result.now in
    let third = c.text-in-Ok-Solve-2.result.now in
    let options : SolveOptions = record { workers = o.workers; turns = o.turns; seed = o.seed; flips = o.flips } in
    let asks = solve_words words o.instance o.solution o.certificate first second third options c.text-in-Ok-Solve-3.ensures.bytes c.text-in-Ok-Solve.ensures.bytes c.text-in-Ok-Solve-2.ensures.bytes (subst (λ a. Asks words a) o.field-0-is o.ensures.asked) in
    let held = g.S.Store.held c.args.store.now in
    let before = g.S.Store.calls c.args.store.now in
    let now = g.S.Store.calls c.solve_file.new.store in
    let Failed = Rose (g.S.Store.read_faults c.args.store.now) (g.S.Store.read_faults c.solve_file.new.store) in
    of_asked words (λ d. CommandCalls held Failed d WriteFault before now) (Solve first second third o.workers o.turns o.seed o.flips) asks (inr (c.solve_file.ensures.broken_calls failed))

pub returns-in-Ok-Solve-clause-memory : goal.returns-in-Ok-Solve-clause-memory
returns-in-Ok-Solve-clause-memory g c = λ wanted.
    let words = texts c.args.words.now in
    let o = c.in-Ok-Solve in
    let first = c.text-in-Ok-Solve-3.result.now in
    let second = c.text-in-Ok-Solve.result.now in
    let third = c.text-in-Ok-Solve-2.result.now in
    let options : SolveOptions = record { workers = o.workers; turns = o.turns; seed = o.seed; flips = o.flips } in
    let asks = solve_words words o.instance o.solution o.certificate first second third options c.text-in-Ok-Solve-3.ensures.bytes c.text-in-Ok-Solve.ensures.bytes c.text-in-Ok-Solve-2.ensures.bytes (subst (λ a. Asks words a) o.field-0-is o.ensures.asked) in
    command_begins words (g.S.Store.held c.args.store.now) (g.S.Store.held c.solve_file.new.store) (Solve first second third o.workers o.turns o.seed o.flips) asks (c.solve_file.ensures.memory wanted)

pub returns-in-Ok-Bench-clause-does : goal.returns-in-Ok-Bench-clause-does
returns-in-Ok-Bench-clause-does g c =
    let words = texts c.args.words.now in
    let held = g.S.Store.held c.args.store.now in
    let o = c.in-Ok-Bench in
    let asks = subst (λ a. Asks words a) o.field-0-is o.ensures.asked in
    IfOk-weaker c.bench_reply.result _ (λ r. Does words held held r.status (string_bytes r.line))
    (λ r says. command_does words held held (Bench o.seed o.points o.inputs) r.status (string_bytes r.line) asks (bench_does held o.seed o.points o.inputs r.status (string_bytes r.line) says)) c.bench_reply.ensures.says

pub returns-in-Ok-Bench-clause-called : goal.returns-in-Ok-Bench-clause-called
returns-in-Ok-Bench-clause-called g c =
    let words = texts c.args.words.now in
    let o = c.in-Ok-Bench in
    let asks = subst (λ a. Asks words a) o.field-0-is o.ensures.asked in
    let now = g.S.Store.calls c.args.store.now in
    IfOk-weaker c.bench_reply.result _ (λ r. (d : Asked) → Asks words d → CallsFor d r.status now now)
    (λ r says. of_asked words (λ d. CallsFor d r.status now now) (Bench o.seed o.points o.inputs) asks (bench_calls o.seed o.points o.inputs r.status (string_bytes r.line) now says)) c.bench_reply.ensures.says
