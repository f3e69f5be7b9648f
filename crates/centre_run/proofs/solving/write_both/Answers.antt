use Rattle.std.proofs.Common.{[], ◌∷◌, subst}
use Rattle.centre_run.specs.Runs.{HasWritten, HasBrokenOff}
use Rattle.centre_run.proofs.Saying.{written_two, broken_first, broken_second, begun_none, begun_first, on_ok}
use Rattle.centre_run.proofs.solving.write_both.Goals as goal

pub returns-in-Ok-clause-written : goal.returns-in-Ok-clause-written
returns-in-Ok-clause-written g c =
    on_ok c.write_file-in-Ok.result _ _
    (λ also. written_two (g.S.Store.held c.args.store.now) (g.S.Store.held c.write_file.new.store) (g.S.Store.held c.write_file-in-Ok.new.store) (c.args.targets.solution.now, c.args.texts.now.solution) (c.args.targets.certificate.now, c.args.texts.now.certificate)
    (subst (λ bytes. HasWritten (g.S.Store.held c.args.store.now) (g.S.Store.held c.write_file.new.store) ((c.args.targets.solution.now, bytes) ∷ [])) c.as_slice.ensures c.in-Ok.ensures.written)
    (subst (λ bytes. HasWritten (g.S.Store.held c.write_file.new.store) (g.S.Store.held c.write_file-in-Ok.new.store) ((c.args.targets.certificate.now, bytes) ∷ [])) c.as_slice-in-Ok.ensures also))
    c.write_file-in-Ok.ensures.written

pub returns-in-Ok-clause-memory : goal.returns-in-Ok-clause-memory
returns-in-Ok-clause-memory g c = λ wanted.
    begun_first (g.S.Store.held c.args.store.now) (g.S.Store.held c.write_file.new.store) (g.S.Store.held c.write_file-in-Ok.new.store) (c.args.targets.solution.now, c.args.texts.now.solution) (c.args.targets.certificate.now, c.args.texts.now.certificate)
    (subst (λ bytes. HasWritten (g.S.Store.held c.args.store.now) (g.S.Store.held c.write_file.new.store) ((c.args.targets.solution.now, bytes) ∷ [])) c.as_slice.ensures c.in-Ok.ensures.written)
    (c.write_file-in-Ok.ensures.memory wanted)

pub returns-in-Ok-clause-broken : goal.returns-in-Ok-clause-broken
returns-in-Ok-clause-broken g c = λ failed.
    broken_second (g.S.Store.held c.args.store.now) (g.S.Store.held c.write_file.new.store) (g.S.Store.held c.write_file-in-Ok.new.store) (c.args.targets.solution.now, c.args.texts.now.solution) (c.args.targets.certificate.now, c.args.texts.now.certificate)
    (subst (λ bytes. HasWritten (g.S.Store.held c.args.store.now) (g.S.Store.held c.write_file.new.store) ((c.args.targets.solution.now, bytes) ∷ [])) c.as_slice.ensures c.in-Ok.ensures.written)
    (subst (λ bytes. HasBrokenOff (g.S.Store.held c.write_file.new.store) (g.S.Store.held c.write_file-in-Ok.new.store) ((c.args.targets.certificate.now, bytes) ∷ [])) c.as_slice-in-Ok.ensures (c.write_file-in-Ok.ensures.broken failed))

pub returns-in-Err-clause-memory : goal.returns-in-Err-clause-memory
returns-in-Err-clause-memory g c = λ wanted. begun_none (g.S.Store.held c.args.store.now) (g.S.Store.held c.write_file.new.store) _ (c.in-Err.ensures.memory wanted)

pub returns-in-Err-clause-broken : goal.returns-in-Err-clause-broken
returns-in-Err-clause-broken g c = λ failed.
    broken_first (g.S.Store.held c.args.store.now) (g.S.Store.held c.write_file.new.store) (c.args.targets.solution.now, c.args.texts.now.solution) (c.args.targets.certificate.now, c.args.texts.now.certificate)
    (subst (λ bytes. HasBrokenOff (g.S.Store.held c.args.store.now) (g.S.Store.held c.write_file.new.store) ((c.args.targets.solution.now, bytes) ∷ [])) c.as_slice.ensures (c.in-Err.ensures.broken failed))
