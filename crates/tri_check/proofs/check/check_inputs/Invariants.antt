use Rattle.tri_check.specs.Stages.{AreDone}
use Rattle.tri_check.proofs.check.check_inputs.Given as goal

abbrev pub invariant-loop-t : goal.invariant-loop-t
invariant-loop-t l = AreDone l.points.value l.inputs l.items.items l.t
