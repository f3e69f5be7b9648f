-- What is seen of a plan, and what the calls make of it.
use Rattle.std.specs.Prelude.{◌≡◌, ℕ, min, Some, List, [], ◌∷◌, map, slice_index_or}
use Rattle.geo_orient.specs.declared.Point.{Point}
use Rattle.edge_table.specs.declared.edge.Edge.{Edge}
use Rattle.tri_theory.specs.Rounds.{IsPlan, total}
use Rattle.tri_check.specs.Problems.{Problem}
use Rattle.flip_list_law.specs.declared.Flip.{Flip}
use Rattle.round_pack.specs.Tracks.{FlipTrack}
use Rattle.plan_law.specs.Plans.{Plan, schedules, plan_total, followed}

-- an instance, a plan of it, and how many more flips each of its lists can take without memory, at least
pub record HeldPlan : Type 0 where
  pub problem : Problem
  pub plan : Plan
  pub spare : ℕ

-- the flips of the list with the place t
abbrev pub list_at : Plan → ℕ → List Flip
list_at plan t = slice_index_or plan.lists t []

-- the least of some numbers, or 0 where there are none
abbrev pub least : List ℕ → ℕ
least [] = 0
least (n ∷ []) = n
least (n ∷ m ∷ ns) = min n (least (m ∷ ns))

-- the flips of each track, and the least number of flips that one can take
abbrev pub lists_of : List FlipTrack → List (List Flip)
lists_of tracks = map (λ track. track.flips) tracks

abbrev pub least_spare : List FlipTrack → ℕ
least_spare tracks = least (map (λ track. track.spare) tracks)

-- the track leads from an input to the centre
pub record LeadsTo (points : List Point) (centre input : List Edge) (track : FlipTrack) : Type 0 where
  pub of_points : track.points ≡ points
  pub from : track.start ≡ input
  pub to : track.end ≡ centre

-- the lists, grouped, are schedules to the centre, the weights are those of the instance, and the total is that of the schedules
pub record HasSchedules (problem : Problem) (plan : Plan) : Type 0 where
  pub is_plan : IsPlan problem.points problem.inputs plan.centre (schedules plan)
  pub weights : plan.weights ≡ problem.weights
  pub as_many : total problem.weights (schedules plan) ≡ plan_total plan

-- e can be followed, and then the total is n
abbrev pub TotalsAfter : List Point → Plan → Edge → ℕ → Type 0
TotalsAfter points plan e n = (next : Plan) × (followed points plan e ≡ Some next) × (n ≡ plan_total next)
