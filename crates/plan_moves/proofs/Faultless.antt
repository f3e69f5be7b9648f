-- The rounds of a better descent have no fault.
use Rattle.std.proofs.Common.{◌≡◌, ◌≢◌, ℕ, ◌<◌, List, length, refl, arith}
use Rattle.edge_table.specs.declared.edge.Edge.{Edge}
use Rattle.tri_check.specs.Problems.{Problem, IsProblem}
use Rattle.flip_list_law.specs.FlipLists.{round_count}
use Rattle.plan_law.specs.Plans.{Plan, IsPlanOf}
use Rattle.plan_law.specs.PlanLaws.{Swaps}
use Rattle.plan_law.specs.ImproverLaws.{IsBetter}
use Rattle.plan_law.proofs.Proved.{swaps_keep_plans}
use Rattle.plan_core.specs.declared.fault.SwapFault.{SwapFault}
use Rattle.plan_core.specs.declared.fault.SwapFault.TheVariants.{Round, OtherEnd, NotFewer, OutOfMemory}
use Rattle.plan_core.specs.HeldPlans.{list_at}
use Rattle.plan_core.specs.SwapFaults.{IsSwapped, IsSwapFault}
use Rattle.plan_core.proofs.SwapLaws.{swaps_have_no_fault}
use Rattle.plan_moves.proofs.Lowered.{instance_of}

module _ (problem : Problem) (plan : Plan) (t : ℕ) (rounds : List (List Edge)) (I : IsProblem problem.points problem.inputs) (h : IsPlanOf problem.points problem.inputs plan) (l : t < length problem.inputs) (B : IsBetter problem.points problem.inputs plan t rounds) where
  W : Swaps problem.points problem.inputs plan t rounds
  W = swaps_keep_plans problem.points problem.inputs plan t rounds (instance_of problem.points problem.inputs I) h l B.are_rounds

  swaps : IsSwapped problem plan t rounds W.next
  swaps = record { leads = record { distinct = B.are_rounds.distinct; leads = B.are_rounds.leads }; swapped = W.is_swapped }

  fewer : round_count (list_at W.next t) < round_count (list_at plan t)
  fewer = let a = W.no_more in let b = B.fewer in omega (arith, a, b)

  no_fault : (fault : SwapFault) → fault ≢ OutOfMemory → ¬ IsSwapFault problem plan t rounds fault
  no_fault fault n F = swaps_have_no_fault problem plan W.next t rounds fault I l swaps fewer n F

  pub memory_alone : (fault : SwapFault) → IsSwapFault problem plan t rounds fault → fault ≡ OutOfMemory
  memory_alone (Round fault) F = absurd (no_fault (Round fault) (λ e. absurd (cc)) F)
  memory_alone (OtherEnd e) F = absurd (no_fault (OtherEnd e) (λ e. absurd (cc)) F)
  memory_alone (NotFewer held given) F = absurd (no_fault (NotFewer held given) (λ e. absurd (cc)) F)
  memory_alone OutOfMemory F = refl
