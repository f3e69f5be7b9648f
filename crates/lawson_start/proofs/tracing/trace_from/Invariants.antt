use Rattle.std.proofs.Common.{◌-◌, ◌*◌, ◌/◌, length}
use Rattle.lawson_start.specs.Steps.{IsOnTheWay}
use Rattle.lawson_start.proofs.tracing.trace_from.Given as goal

abbrev pub invariant-loop-e : goal.invariant-loop-e
invariant-loop-e l = IsOnTheWay l.input.points l.input.edges l.flips l.images l.mesh l.bad

abbrev pub decreases-loop-e : goal.decreases-loop-e
decreases-loop-e l = length l.input.points * (length l.input.points - 1) / 2 - length l.flips
