use Rattle.centre_run.proofs.top.run.Goals as goal

pub returns-clause-memory_kept : goal.returns-clause-memory_kept
returns-clause-memory_kept g c = λ is. (c.run_by.ensures.memory is).1
