use Rattle.centre_words.specs.Words.{texts}
use Rattle.centre_run.specs.Ends.{StoreSeen, SinkSeen}
use Rattle.centre_run.proofs.Replied.{IsReplied, replied_end}
use Rattle.centre_run.proofs.top.run_by.Goals as goal

pub returns : goal.returns
returns g c =
    let words = texts c.args.words.now in
    let old : StoreSeen = record { held = g.S.Store.held c.args.store.now; read_faults = g.S.Store.read_faults c.args.store.now; write_faults = g.S.Store.write_faults c.args.store.now; calls = g.S.Store.calls c.args.store.now } in
    let new : StoreSeen = record { held = g.S.Store.held c.reply_to-reply.new.store; read_faults = g.S.Store.read_faults c.reply_to-reply.new.store; write_faults = g.S.Store.write_faults c.reply_to-reply.new.store; calls = g.S.Store.calls c.reply_to-reply.new.store } in
    let before : SinkSeen = record { told = g.O.Sink.told c.args.out.now; faults = g.O.Sink.faults c.args.out.now } in
    let now : SinkSeen = record { told = g.O.Sink.told c.put_reply.new.out; faults = g.O.Sink.faults c.put_reply.new.out } in
    let said = c.reply_to-reply.ensures in
    let replied : IsReplied words old new c.reply_to-reply.result = record {
      does = said.does;
      cause = said.cause;
      unread = said.unread;
      memory = said.memory;
      unwritten = said.unwritten;
      broken = said.broken;
      asked = said.asked;
      asked_to_write = said.asked_to_write;
      read_only = said.read_only;
      calls = said.calls;
      uncalled = said.uncalled;
      called = said.called;
      stopped = said.stopped;
      broken_calls = said.broken_calls;
    } in
    replied_end words old new before now c.reply_to-reply.result c.put_reply.result replied c.put_reply.ensures
