use Rattle.std.proofs.Common.{◌≡◌, replicate}
use Rattle.worker_pool.specs.declared.outcome.Outcome.TheVariants.{NoMemory}
use Rattle.worker_crew.proofs.run.untaken.Given as goal

abbrev pub invariant-loop : goal.invariant-loop
invariant-loop l = l.outcomes ≡ replicate l.counter NoMemory
