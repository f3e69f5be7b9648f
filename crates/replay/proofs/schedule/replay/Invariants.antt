use Rattle.std.proofs.Common.{◌≡◌, take}
use Rattle.replay.specs.Independent.{AreRoundsOf}
use Rattle.replay.proofs.schedule.replay.Given as goal

-- the rounds so far lead to the mesh
abbrev pub invariant-loop-r : goal.invariant-loop-r
invariant-loop-r l = record {
  points : l.mesh.points ≡ l.start.points;
  leads : AreRoundsOf l.start.points l.start.edges (take l.r l.rounds) l.mesh.edges;
}
