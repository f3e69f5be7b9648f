-- The laws of swaps. Each is the contract of a function of the crate, so each is proved.
use Rattle.std.specs.Prelude.{◌≡◌, ◌≢◌, ℕ, ◌<◌, List, length}
use Rattle.edge_table.specs.declared.edge.Edge.{Edge}
use Rattle.tri_check.specs.Problems.{Problem, IsProblem}
use Rattle.flip_list_law.specs.FlipLists.{round_count}
use Rattle.plan_law.specs.Plans.{Plan}
use Rattle.plan_core.specs.declared.fault.SwapFault.{SwapFault}
use Rattle.plan_core.specs.declared.fault.SwapFault.TheVariants.{OutOfMemory}
use Rattle.plan_core.specs.HeldPlans.{list_at}
use Rattle.plan_core.specs.SwapFaults.{IsSwapped, IsSwapFault}

-- rounds that lead to the centre and whose flips need fewer rounds have no fault but want of memory
abbrev pub SwapsHaveNoFault : Type 0
SwapsHaveNoFault =
    (problem : Problem) (plan next : Plan) (t : ℕ) (rounds : List (List Edge)) (fault : SwapFault) → IsProblem problem.points problem.inputs → t < length problem.inputs → IsSwapped problem plan t rounds next
    → round_count (list_at next t) < round_count (list_at plan t) → fault ≢ OutOfMemory → ¬ IsSwapFault problem plan t rounds fault

-- and others one first fault at most
abbrev pub SwapFaultsAreUnique : Type 0
SwapFaultsAreUnique =
    (problem : Problem) (plan : Plan) (t : ℕ) (rounds : List (List Edge)) (f g : SwapFault) → IsProblem problem.points problem.inputs → t < length problem.inputs → f ≢ OutOfMemory → g ≢ OutOfMemory → IsSwapFault problem plan t rounds f
    → IsSwapFault problem plan t rounds g → f ≡ g
