use Rattle.tri_check.specs.Stages.{AreNumbers}
use Rattle.tri_check.proofs.weights.numbers.Given as goal

abbrev pub invariant-loop-t : goal.invariant-loop-t
invariant-loop-t l = AreNumbers l.weights l.numbers l.t
