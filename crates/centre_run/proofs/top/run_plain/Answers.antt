use Rattle.std.proofs.Common.{◌≡◌, ◌∙◌, sym, true, false}
use Rattle.centre_words.specs.Words.{texts}
use Rattle.centre_run.specs.Ends.{StoreSeen, SinkSeen}
use Rattle.centre_run.proofs.Replied.{nothing_done}
use Rattle.centre_run.proofs.top.run_plain.Goals as goal

differ : false ≡ true → ⊥
differ e = cc

pub returns-in-Ok-true-clause-plain : goal.returns-in-Ok-true-clause-plain
returns-in-Ok-true-clause-plain g c = λ none. absurd (none (c.in-Ok-true.ensures.0 c.in-Ok-true.field-0-test))

pub returns-in-Ok-false-clause-workers : goal.returns-in-Ok-false-clause-workers
returns-in-Ok-false-clause-workers g c = λ asks.
    let some : c.in-Ok-false.field-0 ≡ true = c.in-Ok-false.ensures.1 asks in
    let none : c.in-Ok-false.field-0 ≡ false = c.in-Ok-false.field-0-test in
    absurd (differ (sym none ∙ some))

pub returns-in-Err-clause-plain : goal.returns-in-Err-clause-plain
returns-in-Err-clause-plain g c = λ _.
    let store : StoreSeen = record { held = g.S.Store.held c.args.store.now; read_faults = g.S.Store.read_faults c.args.store.now; write_faults = g.S.Store.write_faults c.args.store.now; calls = g.S.Store.calls c.args.store.now } in
    let sink : SinkSeen = record { told = g.O.Sink.told c.args.out.now; faults = g.O.Sink.faults c.args.out.now } in
    nothing_done (texts c.args.words.now) store sink
