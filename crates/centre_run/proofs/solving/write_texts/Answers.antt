use Rattle.std.proofs.Common.{sym, refl, subst}
use Rattle.centre_run.specs.Runs.{HasWritten, files_under}
use Rattle.centre_run.proofs.Saying.{nothing_written}
use Rattle.centre_run.proofs.solving.write_texts.Goals as goal

pub returns-in-None-clause-written : goal.returns-in-None-clause-written
returns-in-None-clause-written g c =
    let held = g.S.Store.held c.args.store.now in
    subst (λ texts. HasWritten held held (files_under c.args.targets.solution.now c.args.targets.certificate.now texts)) (sym c.in-None.is) (nothing_written held held refl)
