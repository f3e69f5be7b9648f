use Rattle.std.proofs.Common.{◌≡◌, length}
use Rattle.worker_pool.proofs.run.outcomes_for.Given as goal

abbrev pub invariant-loop : goal.invariant-loop
invariant-loop l = length l.outcomes ≡ l.counter
