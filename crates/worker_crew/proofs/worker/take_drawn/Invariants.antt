use Rattle.std.proofs.Common.{◌<◌, All}
use Rattle.vcell.specs.Passes.{IsPassOf}
use Rattle.claims.specs.Draws.{IsSeatOf}
use Rattle.worker_pool.specs.Turns.{IsReplicaAt}
use Rattle.worker_crew.specs.Workers.{HasTaken}
use Rattle.worker_crew.proofs.worker.take_drawn.Given as goal

abbrev pub invariant-loop : goal.invariant-loop
invariant-loop g l =
    IsPassOf l.cell l.pass
    × IsSeatOf l.claims l.seat
    × IsReplicaAt l.cell.ground l.pass.seen l.replica
    × All (λ n. n < l.claims.turns) l.seat.numbers
    × HasTaken l.limits l.frame l.cell.ground l.seat.numbers l.pass l.taken
