use Rattle.std.proofs.Common.{◌≡◌, length, drop}
use Rattle.worker_crew.specs.Workers.{filled, all_taken}
use Rattle.worker_crew.proofs.run.put_parts.Given as goal

abbrev pub invariant-loop-place : goal.invariant-loop-place
invariant-loop-place l = (length l.outcomes ≡ length l.fn.outcomes) × (filled l.outcomes (all_taken (drop l.place l.parts.items)) ≡ filled l.fn.outcomes (all_taken l.parts.items))
