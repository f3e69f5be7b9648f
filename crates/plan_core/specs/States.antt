-- What holds of the parts of a plan.
use Rattle.std.specs.Prelude.{◌≡◌, List}
use Rattle.std.specs.List.{AllZip}
use Rattle.edge_table.specs.declared.edge.Edge.{Edge}
use Rattle.tri_check.specs.Layouts.{Layout}
use Rattle.tri_check.specs.Problems.{Problem, IsProblem, AreFewWeights}
use Rattle.round_pack.specs.Tracks.{FlipTrack}
use Rattle.plan_law.specs.Plans.{Plan, IsPlanOf}
use Rattle.plan_core.specs.HeldPlans.{LeadsTo, lists_of}

abbrev pub plan_of : Problem → List Edge → List FlipTrack → Plan
plan_of problem centre tracks = record { centre = centre; weights = problem.weights; lists = lists_of tracks }

-- the tracks lead from the inputs of the instance to the centre, and their flips are a plan of it
pub record IsHeld (problem : Problem) (centre : Layout) (tracks : List FlipTrack) : Type 0 where
  pub is_problem : IsProblem problem.points problem.inputs
  pub weighed : AreFewWeights problem.inputs problem.weights
  pub of_points : centre.points ≡ problem.points
  pub lead : AllZip (LeadsTo problem.points centre.edges) problem.inputs tracks
  pub is_plan : IsPlanOf problem.points problem.inputs (plan_of problem centre.edges tracks)
