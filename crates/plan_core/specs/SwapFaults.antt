-- Which rounds can't stand in place of a list of a plan, and which fault is the first.
use Rattle.std.specs.Prelude.{◌≡◌, ℕ, ◌+◌, ◌<◌, ◌≤◌, Some, List, Contains}
use Rattle.geo_orient.specs.declared.Point.{Point}
use Rattle.edge_table.specs.declared.edge.Edge.{Edge}
use Rattle.tri_check.specs.Problems.{Problem}
use Rattle.flip_list_law.specs.FlipLists.{round_count}
use Rattle.bound_law.specs.Bounds.{input_at}
use Rattle.replay.specs.Independent.{AreRoundsOf}
use Rattle.replay.specs.Faults.{IsFirstWith, IsFirstFault}
use Rattle.plan_law.specs.Plans.{Plan, swapped}
use Rattle.plan_core.specs.declared.fault.SwapFault.{SwapFault}
use Rattle.plan_core.specs.declared.fault.SwapFault.TheVariants.{Round, OtherEnd, NotFewer, OutOfMemory}
use Rattle.plan_core.specs.HeldPlans.{HeldPlan, list_at}

-- the rounds lead from an input to another end than the centre, and e is the first edge of that end which the centre doesn't have
pub record EndsElsewhere (points : List Point) (input : List Edge) (rounds : List (List Edge)) (centre : List Edge) (e : Edge) : Type 0 where
  pub end : List Edge
  pub leads : AreRoundsOf points input rounds end
  pub outside : IsFirstWith (λ f. ¬ Contains centre f) end e

-- the rounds lead from the input with the place t to the centre, and with their flips in place of its list the plan is `next`
pub record IsSwapped (problem : Problem) (plan : Plan) (t : ℕ) (rounds : List (List Edge)) (next : Plan) : Type 0 where
  pub leads : AreRoundsOf problem.points (input_at problem.inputs t) rounds plan.centre
  pub swapped : swapped problem.points problem.inputs plan t rounds ≡ Some next

-- the list has `held` rounds, and the flips of the rounds have `given`
pub record IsNotFewer (problem : Problem) (plan : Plan) (t : ℕ) (rounds : List (List Edge)) (held given : ℕ) : Type 0 where
  pub next : Plan
  pub is_swapped : IsSwapped problem plan t rounds next
  pub held_is : held ≡ round_count (list_at plan t)
  pub given_is : given ≡ round_count (list_at next t)
  pub not_fewer : held ≤ given

-- the first fault: one of the rounds; else an end that isn't the centre; else no fewer rounds than the list has; or there is no memory
abbrev pub IsSwapFault : Problem → Plan → ℕ → List (List Edge) → SwapFault → Type 0
IsSwapFault problem plan t rounds (Round fault) = IsFirstFault problem.points (input_at problem.inputs t) rounds fault
IsSwapFault problem plan t rounds (OtherEnd e) = EndsElsewhere problem.points (input_at problem.inputs t) rounds plan.centre e
IsSwapFault problem plan t rounds (NotFewer held given) = IsNotFewer problem plan t rounds held given
IsSwapFault problem plan t rounds OutOfMemory = Unit {0}

-- the flips of the rounds stand in place of the list, and so many rounds are saved
pub record Saves (old new : HeldPlan) (t : ℕ) (rounds : List (List Edge)) (saved : ℕ) : Type 0 where
  pub problem : new.problem ≡ old.problem
  pub is_swapped : IsSwapped old.problem old.plan t rounds new.plan
  pub some : 0 < saved
  pub saved_is : round_count (list_at new.plan t) + saved ≡ round_count (list_at old.plan t)

-- the rounds don't lead to the centre: they have a first fault, or end elsewhere
abbrev pub IsLeadFault : List Point → List Edge → List (List Edge) → List Edge → SwapFault → Type 0
IsLeadFault points input rounds centre (Round fault) = IsFirstFault points input rounds fault
IsLeadFault points input rounds centre (OtherEnd e) = EndsElsewhere points input rounds centre e
IsLeadFault points input rounds centre (NotFewer held given) = ⊥
IsLeadFault points input rounds centre OutOfMemory = Unit {0}

-- they lead nowhere
abbrev pub IsRoundsFault : List Point → List Edge → List (List Edge) → SwapFault → Type 0
IsRoundsFault points input rounds (Round fault) = IsFirstFault points input rounds fault
IsRoundsFault points input rounds (OtherEnd e) = ⊥
IsRoundsFault points input rounds (NotFewer held given) = ⊥
IsRoundsFault points input rounds OutOfMemory = Unit {0}
