use Rattle.std.proofs.Common.{◌≤◌, All, take}
use Rattle.plan_core.specs.Steps.{IsRoomier}
use Rattle.plan_core.proofs.Through.{IsThrough}
use Rattle.plan_core.proofs.room.reserve_all.Given as goal

abbrev pub invariant-loop-i : goal.invariant-loop-i
invariant-loop-i l = record {
  through : IsThrough IsRoomier l.i l.initial.tracks l.tracks;
  room : All (λ track. l.k ≤ track.spare) (take l.i l.tracks);
}
