-- A run with its images grows by one flip at a time, and not for ever.
use Rattle.std.proofs.Common.{◌≡◌, ◌∙◌, ◌≤◌, ◌<◌, ◌+◌, ◌-◌, ◌*◌, ◌/◌, List, [], ◌∷◌, ◌++◌, length, Contains, refl, sym, ap, subst, subst₂, ℕ, Some, slice_get, AllPairs, ◌≢◌, arith}
use Rattle.geo_orient.specs.declared.Point.{Point}
use Rattle.edge_table.specs.declared.edge.Edge.{Edge}
use Rattle.tri_theory.specs.Flips.{IsFlip}
use Rattle.tri_theory.specs.Triangulations.{IsTriangulation}
use Rattle.tri_check.specs.Layouts.{Layout, IsTriangulated}
use Rattle.tri_check.specs.Problems.{IsProblem}
use Rattle.lawson_law.specs.LawsonRuns.{IsBad, HasNoBadEdge, IsLeastBad, LawsonRunsTo, IsTraced, AreNoLaterImages}
use Rattle.lawson_law.proofs.Sinking.{run_repeats_none, run_length}
use Rattle.lawson_law.proofs.Traces.{traced_run, no_later_images}
use Rattle.lawson_start.specs.declared.traced.Trace.{Trace}
use Rattle.lawson_start.specs.Starts.{IsWholeRun, AreImages}
use Rattle.lawson_start.specs.Steps.{IsFirst, AreBad, IsOnTheWay, IsTraceOf}
use Rattle.lawson_start.proofs.Openings.{input_at}
use Rattle.lawson_start.proofs.Runs.{least_first, one_longer}

-- ---- one flip more
traced_on : (points : List Point) (from flips images to : List Edge) (e f : Edge) (next : List Edge) → IsTraced points from flips images to → IsLeastBad points to e → IsFlip points to e f next → IsTraced points from (flips ++ e ∷ []) (images ++ f ∷ []) next
traced_on points from [] [] to e f next same least F = (next, subst (λ es. IsLeastBad points es e) (sym same) least, subst (λ es. IsFlip points es e f next) (sym same) F, refl)
traced_on points from [] (y ∷ ys) to e f next t least F = absurd t
traced_on points from (x ∷ xs) [] to e f next t least F = absurd t
traced_on points from (x ∷ xs) (y ∷ ys) to e f next (U, first, G, more) least F = (U, first, G, traced_on points U xs ys to e f next more least F)

pub way_on : (points : List Point) (input flips flips' images images' : List Edge) (mesh next : Layout) (bad bad' : List Edge) (e f : Edge) → IsOnTheWay points input flips images mesh bad → IsFirst bad e → next.points ≡ mesh.points → IsFlip mesh.points mesh.edges e f next.edges → AreBad next.points next.edges bad' → flips' ≡ flips ++ e ∷ [] → images' ≡ images ++ f ∷ [] → IsOnTheWay points input flips' images' next bad'
way_on points input flips flips' images images' mesh next bad bad' e f way h same F B more more' = record {
  of_points = same ∙ way.of_points;
  traced =
      subst₂ (λ xs ys. IsTraced points input xs ys next.edges) (sym more) (sym more')
      (traced_on points input flips images mesh.edges e f next.edges way.traced (subst (λ ps. IsLeastBad ps mesh.edges e) way.of_points (least_first mesh.points mesh.edges bad e way.bad_edges h))
      (subst (λ ps. IsFlip ps mesh.edges e f next.edges) way.of_points F));
  bad_edges = B;
}

-- and the number of flips that may still come falls
pub fewer_left : (points : List Point) (input flips flips' images : List Edge) (e : Edge) (mesh : Layout) (bad : List Edge) → IsTriangulated points input → IsOnTheWay points input flips' images mesh bad → flips' ≡ flips ++ e ∷ [] → length points * (length points - 1) / 2 - length flips' < length points * (length points - 1) / 2 - length flips
fewer_left points input flips flips' images e mesh bad I way more =
    less _ (length flips) (length flips') (ap length more ∙ one_longer flips e) (run_length points I.placed input flips' mesh.edges I.triangulation (traced_run points input flips' images mesh.edges way.traced))
  where
    less : (most old new : ℕ) → new ≡ old + 1 → new ≤ most → most - new < most - old
    less most old new i l = omega arith

-- ---- where it ends
pub whole_trace : (points : List Point) (input flips images : List Edge) (mesh : Layout) (bad : List Edge) → IsOnTheWay points input flips images mesh bad → ((e : Edge) → ¬ Contains bad e) → IsTraceOf points input (record { flips = flips; images = images })
whole_trace points input flips images mesh bad way none = record {
  to = mesh.edges;
  traced = way.traced;
  last = λ e b. none e ((way.bad_edges.members e).1 (subst (λ ps. IsBad ps mesh.edges e) (sym way.of_points) b));
}

module _ (points : List Point) (inputs : List (List Edge)) (t : ℕ) (input : Layout) (problem : IsProblem points inputs) (p : input.points ≡ points) (there : slice_get inputs t ≡ Some input.edges) (trace : Trace) (h : IsTraceOf input.points input.edges trace) where
  of_input : IsTriangulation points input.edges
  of_input = input_at points inputs t input.edges problem there

  traced : IsTraced points input.edges trace.flips trace.images h.to
  traced = subst (λ ps. IsTraced ps input.edges trace.flips trace.images h.to) p h.traced

  runs : LawsonRunsTo points input.edges trace.flips h.to
  runs = traced_run points input.edges trace.flips trace.images h.to traced

  pub whole_run : IsWholeRun points inputs t trace.flips
  whole_run = record { input = input.edges; to = h.to; there = there; run = (runs, subst (λ ps. HasNoBadEdge ps h.to) p h.last) }

  pub all_images : AreImages points inputs t trace.flips trace.images
  all_images = record { input = input.edges; to = h.to; there = there; traced = traced }

  pub none_returns : AreNoLaterImages trace.flips trace.images
  none_returns = no_later_images points problem.placed input.edges trace.flips trace.images h.to of_input traced

  pub none_twice : AllPairs ◌≢◌ trace.flips
  none_twice = run_repeats_none points problem.placed input.edges trace.flips h.to of_input runs

  pub few : length trace.flips ≤ length points * (length points - 1) / 2
  few = run_length points problem.placed input.edges trace.flips h.to of_input runs
