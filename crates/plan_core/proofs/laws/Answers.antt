use Rattle.plan_core.proofs.SwapLaws.{swaps_have_no_fault, swap_faults_are_unique}
use Rattle.plan_core.proofs.laws.Goals as goal

pub returns : goal.returns
returns c = record {
  swaps_have_no_fault = swaps_have_no_fault;
  swap_faults_are_unique = swap_faults_are_unique;
}
