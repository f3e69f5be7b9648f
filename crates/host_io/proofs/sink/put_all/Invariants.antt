use Rattle.std.proofs.Common.{◌≤◌, ℕ, List, Option, Result, length}
use Rattle.host_io.specs.declared.fail.SinkFail.{SinkFail}
use Rattle.host_io.specs.Sink.{Takes}
use Rattle.host_io.proofs.sink.put_all.Given as goal

-- what puts of the rest leave, puts of all leave; and no fault was taken back
abbrev pub invariant-loop-rest : goal.invariant-loop-rest
invariant-loop-rest g l =
    ((last : Option (List ℕ)) (r : Result (Unit {0}) SinkFail) → Takes (g.O.Sink.told l.out) last l.rest r → Takes (g.O.Sink.told l.fn.out) last l.bytes r)
    × (g.O.Sink.faults l.fn.out ≤ g.O.Sink.faults l.out)

abbrev pub decreases-loop-rest : goal.decreases-loop-rest
decreases-loop-rest g l = length l.rest
