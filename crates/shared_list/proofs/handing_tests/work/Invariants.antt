use Rattle.vcell.specs.Passes.{IsPassOf}
use Rattle.shared_list.proofs.handing_tests.work.Given as goal

abbrev pub invariant-loop : goal.invariant-loop
invariant-loop g l = IsPassOf l.cell l.pass
