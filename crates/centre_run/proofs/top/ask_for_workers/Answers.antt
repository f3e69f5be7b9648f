use Rattle.std.proofs.Common.{ap, subst, Err}
use Rattle.centre_words.specs.Words.{texts, Asks}
use Rattle.centre_run.proofs.Asking.{workers_in, solve_asks, no_workers_asked, no_words_asked}
use Rattle.centre_run.proofs.top.ask_for_workers.Goals as goal

pub returns-in-Ok-Solve : goal.returns-in-Ok-Solve
returns-in-Ok-Solve c =
    let words = texts c.args.words.now in
    let o = c.in-Ok-Solve in
    solve_asks words _ _ _ o.workers _ _ _ (subst (λ a. Asks words a) o.field-0-is o.ensures.asked)

pub returns-in-Ok-Check : goal.returns-in-Ok-Check
returns-in-Ok-Check c = no_workers_asked (texts c.args.words.now) c.in-Ok-Check.field-0 c.in-Ok-Check.ensures.asked (ap (λ a. workers_in a) c.in-Ok-Check.field-0-is)

pub returns-in-Ok-Score : goal.returns-in-Ok-Score
returns-in-Ok-Score c = no_workers_asked (texts c.args.words.now) c.in-Ok-Score.field-0 c.in-Ok-Score.ensures.asked (ap (λ a. workers_in a) c.in-Ok-Score.field-0-is)

pub returns-in-Ok-Verify : goal.returns-in-Ok-Verify
returns-in-Ok-Verify c = no_workers_asked (texts c.args.words.now) c.in-Ok-Verify.field-0 c.in-Ok-Verify.ensures.asked (ap (λ a. workers_in a) c.in-Ok-Verify.field-0-is)

pub returns-in-Ok-Trace : goal.returns-in-Ok-Trace
returns-in-Ok-Trace c = no_workers_asked (texts c.args.words.now) c.in-Ok-Trace.field-0 c.in-Ok-Trace.ensures.asked (ap (λ a. workers_in a) c.in-Ok-Trace.field-0-is)

pub returns-in-Ok-Bench : goal.returns-in-Ok-Bench
returns-in-Ok-Bench c = no_workers_asked (texts c.args.words.now) c.in-Ok-Bench.field-0 c.in-Ok-Bench.ensures.asked (ap (λ a. workers_in a) c.in-Ok-Bench.field-0-is)

pub returns-in-Err-Words : goal.returns-in-Err-Words
returns-in-Err-Words c = no_words_asked (texts c.args.words.now) (c.in-Err-Words.ensures.words (ap (λ e. Err e) c.in-Err-Words.field-0-is))
