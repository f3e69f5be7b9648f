-- The runs of a start are a plan.
use Rattle.std.proofs.Common.{◌≡◌, ◌∙◌, sym, ap, refl, subst, ℕ, List, [], ◌∷◌, map}
use Rattle.std.specs.List.{AllZip}
use Rattle.tri_check.specs.Problems.{Problem}
use Rattle.flip_list_law.specs.FlipLists.{flipped_edges}
use Rattle.round_pack.specs.Tracks.{FlipTrack}
use Rattle.lawson_law.specs.LawsonRuns.{IsOpening}
use Rattle.lawson_start.specs.declared.centre.Start.{Start}
use Rattle.lawson_start.specs.Starts.{IsStart}
use Rattle.plan_law.specs.Plans.{Plan, IsPlanOf}
use Rattle.plan_core.specs.HeldPlans.{LeadsTo, lists_of}
use Rattle.plan_moves.proofs.Openings.{tracks_lead}
use Rattle.book_solve.specs.Solved.{IsOpeningPlan}

pub start_leads : (problem : Problem) (budget : ℕ) (start : Start) → IsStart problem.points problem.inputs budget start → AllZip (LeadsTo problem.points start.centre.edges) problem.inputs start.tracks
start_leads problem budget start is = tracks_lead problem.points start.centre.edges problem.inputs start.tracks is.tracks

edges_of_tracks : (tracks : List FlipTrack) → map (λ (track : FlipTrack). flipped_edges track.flips) tracks ≡ map flipped_edges (lists_of tracks)
edges_of_tracks [] = refl
edges_of_tracks (track ∷ tracks) = ap (λ rest. flipped_edges track.flips ∷ rest) (edges_of_tracks tracks)

pub start_opens : (problem : Problem) (budget : ℕ) (start : Start) (plan : Plan) → IsStart problem.points problem.inputs budget start → IsPlanOf problem.points problem.inputs plan → plan.weights ≡ problem.weights → plan.centre ≡ start.centre.edges → plan.lists ≡ lists_of start.tracks
    → IsOpeningPlan problem budget plan
start_opens problem budget start plan is is_plan weights centre lists = record {
  is_plan = is_plan;
  weights = weights;
  runs = subst (λ c. IsOpening problem.points problem.inputs (map flipped_edges plan.lists) c) (sym centre)
      (subst (λ edges. IsOpening problem.points problem.inputs edges start.centre.edges) (edges_of_tracks start.tracks ∙ ap (λ ls. map flipped_edges ls) (sym lists)) is.opening);
  within = is.within;
}
