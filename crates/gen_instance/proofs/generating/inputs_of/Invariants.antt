use Rattle.gen_instance.specs.Sweeping.{AreInputs}
use Rattle.gen_instance.proofs.generating.inputs_of.Given as goal

-- the inputs so far
abbrev pub invariant-loop-t : goal.invariant-loop-t
invariant-loop-t l = AreInputs l.points l.seed l.t l.inputs
