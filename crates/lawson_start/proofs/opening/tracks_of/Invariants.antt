use Rattle.std.proofs.Common.{take}
use Rattle.std.specs.List.{AllZip}
use Rattle.lawson_start.specs.Steps.{IsRunOf}
use Rattle.lawson_start.proofs.opening.tracks_of.Given as goal

abbrev pub invariant-loop-t : goal.invariant-loop-t
invariant-loop-t l = AllZip (IsRunOf l.inst.points l.budget) (take l.t l.inst.inputs) l.tracks
