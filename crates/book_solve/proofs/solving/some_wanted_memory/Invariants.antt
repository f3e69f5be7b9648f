use Rattle.std.proofs.Common.{◌≢◌, ℕ, Some, ◌<◌}
use Rattle.std.specs.Prelude.{slice_get}
use Rattle.worker_pool.specs.declared.outcome.Outcome.TheVariants.{NoMemory}
use Rattle.book_solve.proofs.solving.some_wanted_memory.Given as goal

abbrev pub invariant-loop-outcome : goal.invariant-loop-outcome
invariant-loop-outcome l = (u : ℕ) → u < l.outcome-index → slice_get l.outcome-items u ≢ Some NoMemory
