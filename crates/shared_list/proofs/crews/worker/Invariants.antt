use Rattle.std.proofs.Common.{◌≡◌, ◌<◌, All, length}
use Rattle.std.specs.Prelude.{Contains}
use Rattle.std.specs.Bool.{OnTrue}
use Rattle.vcell.specs.Passes.{IsPassOf}
use Rattle.claims.specs.Draws.{IsSeatOf}
use Rattle.shared_list.proofs.crews.worker.Given as goal

abbrev pub invariant-loop : goal.invariant-loop
invariant-loop g l =
    IsPassOf l.cell l.pass
    × IsSeatOf l.claims l.seat
    × All (λ n. n < l.claims.turns) l.seat.numbers
    × OnTrue l.whole (l.pass.made ≡ length l.seat.numbers)
    × OnTrue l.whole (All (Contains l.pass.seen) l.seat.numbers)
