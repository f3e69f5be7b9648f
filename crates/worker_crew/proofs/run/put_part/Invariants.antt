use Rattle.std.proofs.Common.{◌≡◌, length, drop}
use Rattle.worker_crew.specs.Workers.{filled}
use Rattle.worker_crew.proofs.run.put_part.Given as goal

abbrev pub invariant-loop-taken : goal.invariant-loop-taken
invariant-loop-taken l = (length l.outcomes ≡ length l.fn.outcomes) × (filled l.outcomes (drop l.taken-index l.taken-items) ≡ filled l.fn.outcomes l.part)
