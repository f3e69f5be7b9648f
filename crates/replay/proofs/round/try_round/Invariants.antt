use Rattle.std.proofs.Common.{take}
use Rattle.replay.specs.Steps.{AreTaken}
use Rattle.replay.proofs.round.try_round.Given as goal

-- the edges so far are taken
abbrev pub invariant-loop-e : goal.invariant-loop-e
invariant-loop-e l = AreTaken l.mesh.points l.mesh.edges (take l.e-index l.e-items) l.taken.keys
