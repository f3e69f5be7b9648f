use Rattle.std.proofs.Common.{subst, Err}
use Rattle.host_io.specs.Store.{Writes}
use Rattle.centre_run.proofs.Saying.{written_one, broken_one}
use Rattle.centre_run.proofs.reply.write_file.Goals as goal

pub returns-in-Ok-clause-written : goal.returns-in-Ok-clause-written
returns-in-Ok-clause-written g c = written_one (g.S.Store.held c.args.store.now) (g.S.Store.held c.write.new.self) c.args.name.now c.args.bytes.now c.in-Ok.field-0 c.in-Ok.ensures.content

pub returns-in-Err-Failed-clause-broken : goal.returns-in-Err-Failed-clause-broken
returns-in-Err-Failed-clause-broken g c = λ _.
    let old = g.S.Store.held c.args.store.now in
    let new = g.S.Store.held c.write.new.self in
    broken_one old new c.args.name.now c.args.bytes.now (subst (λ e. Writes old new c.args.name.now c.args.bytes.now (Err e)) c.in-Err-Failed.field-0-is c.in-Err-Failed.ensures.content)
