use Rattle.lawson_start.specs.Steps.{Stands, IsBegun}
use Rattle.lawson_start.proofs.run.run_within.Given as goal

abbrev pub invariant-loop-e : goal.invariant-loop-e
invariant-loop-e l = record { stands : Stands l.track l.mesh l.bad; begun : IsBegun l.input.points l.input.edges l.budget l.left l.track }

abbrev pub decreases-loop-e : goal.decreases-loop-e
decreases-loop-e l = l.left
