-- The runs of all inputs, one after the other, and the centre in which they end.
use Rattle.std.proofs.Common.{◌≡◌, ◌∙◌, ℕ, zero, suc, ◌+◌, ◌-◌, ◌*◌, ◌/◌, ◌<◌, ◌≤◌, List, [], ◌∷◌, ◌++◌, length, map, take, get_or, slice_get, Some, Contains, refl, sym, subst, arith}
use Rattle.std.specs.List.{AllZip}
use Rattle.std.proofs.lemmas.List.{take_more}
use Rattle.std.proofs.lemmas.Option.{get_or_from_slice_get, slice_get-get_or, slice_get_within}
use Rattle.std.proofs.lemmas.List.Elements.{All-nil, All-cons}
use Rattle.std.proofs.lemmas.Slice.Zip.{all_zipped_more}
use Rattle.geo_orient.specs.declared.Point.{Point}
use Rattle.edge_table.specs.declared.edge.Edge.{Edge}
use Rattle.tri_theory.specs.Points.{ArePlaced}
use Rattle.tri_theory.specs.Triangulations.{IsTriangulation}
use Rattle.flip_list_law.specs.FlipLists.{flipped_edges}
use Rattle.round_pack.specs.Tracks.{FlipTrack}
use Rattle.lawson_law.specs.LawsonRuns.{IsLawsonRun, IsLawsonRunLonger, IsOpening}
use Rattle.lawson_law.proofs.NoBad.{runs_end_in_one}
use Rattle.lawson_law.proofs.OneRun.{longer_means}
use Rattle.lawson_law.proofs.RunExists.{run_exists}
use Rattle.lawson_law.proofs.Sinking.{run_length}
use Rattle.tri_check.specs.Layouts.{Layout}
use Rattle.tri_check.specs.Problems.{IsProblem}
use Rattle.lawson_start.specs.declared.fault.StartFault.{StartFault}
use Rattle.lawson_start.specs.declared.fault.StartFault.TheVariants.{FlipBudget, OutOfMemory}
use Rattle.lawson_start.specs.Starts.{IsRunTrack, AreWithin, IsOverBudget, IsStart, IsStartFault}
use Rattle.lawson_start.specs.Steps.{IsRunOf, IsLongAt, IsFaultAt}

module _ (points : List Point) (budget : ℕ) where
  -- ---- input after input
  pub one_more : (inputs : List (List Edge)) (tracks : List FlipTrack) (track : FlipTrack) (t : ℕ) → t < length inputs → ((input : List Edge) → slice_get inputs t ≡ Some input → IsRunOf points budget input track) → AllZip (IsRunOf points budget) (take t inputs) tracks → AllZip (IsRunOf points budget) (take (t + 1) inputs) (tracks ++ track ∷ [])
  one_more inputs tracks track t l here before =
      subst (λ es. AllZip (IsRunOf points budget) es (tracks ++ track ∷ [])) (sym (take_more inputs t [] l))
      (all_zipped_more (IsRunOf points budget) (take t inputs) tracks (get_or inputs t []) track before (here (get_or inputs t []) (slice_get-get_or inputs t [] l)))

  within_at : (inputs : List (List Edge)) (tracks : List FlipTrack) (t k : ℕ) (input : List Edge) → AllZip (IsRunOf points budget) (take t inputs) tracks → k < t → slice_get inputs k ≡ Some input → ¬ IsLawsonRunLonger points input budget
  within_at [] tracks t k input z l h = absurd (let m = slice_get_within [] k input h in omega arith)
  within_at (x ∷ xs) tracks zero k input z l h = absurd (omega arith)
  within_at (x ∷ xs) [] (suc t) k input z l h = absurd z
  within_at (x ∷ xs) (y ∷ ys) (suc t) zero input z l h = subst (λ i. ¬ IsLawsonRunLonger points i budget) (get_or_from_slice_get (x ∷ xs) 0 input x h) z.0.within
  within_at (x ∷ xs) (y ∷ ys) (suc t) (suc k) input z l h = within_at xs ys t k input z.1 (omega arith) h

  first_over : (inputs : List (List Edge)) (tracks : List FlipTrack) (t : ℕ) → AllZip (IsRunOf points budget) (take t inputs) tracks → IsLongAt points inputs budget t → IsOverBudget points inputs budget t
  first_over inputs tracks t z h = record { input = h.input; there = h.there; longer = h.longer; earlier = λ k other l e. within_at inputs tracks t k other z l e }

  pub fault_first : (inputs : List (List Edge)) (tracks : List FlipTrack) (t : ℕ) (fault : StartFault) → AllZip (IsRunOf points budget) (take t inputs) tracks → IsFaultAt points inputs budget t fault → IsStartFault points inputs budget fault
  fault_first inputs tracks t (FlipBudget s) z h = subst (IsOverBudget points inputs budget) (sym h.0) (first_over inputs tracks t z h.1)
  fault_first inputs tracks t OutOfMemory z h = tt

  -- ---- all of them
  pub all_within : (inputs : List (List Edge)) (tracks : List FlipTrack) → AllZip (IsRunOf points budget) inputs tracks → AreWithin points inputs budget
  all_within [] tracks z = All-nil (λ input. ¬ IsLawsonRunLonger points input budget)
  all_within (x ∷ xs) [] z = absurd z
  all_within (x ∷ xs) (y ∷ ys) z = All-cons (λ input. ¬ IsLawsonRunLonger points input budget) x xs z.0.within (all_within xs ys z.1)

module _ (points : List Point) (P : ArePlaced points) (budget : ℕ) (input : List Edge) (track : FlipTrack) (I : IsTriangulation points input) (first : IsRunOf points budget input track) where
  ends_there : (other : List Edge) (track' : FlipTrack) → IsTriangulation points other → IsRunOf points budget other track' → track'.end ≡ track.end
  ends_there other track' K r = runs_end_in_one points P other (flipped_edges track'.flips) track'.end input (flipped_edges track.flips) track.end K I r.run first.run

  pub run_tracks : (inputs : List (List Edge)) (tracks : List FlipTrack) → ((es : List Edge) → Contains inputs es → IsTriangulation points es) → AllZip (IsRunOf points budget) inputs tracks → AllZip (IsRunTrack points track.end) inputs tracks
  run_tracks [] [] all z = z
  run_tracks [] (y ∷ ys) all z = absurd z
  run_tracks (x ∷ xs) [] all z = absurd z
  run_tracks (x ∷ xs) (y ∷ ys) all z =
      let e = ends_there x y (all x (0, omega arith, refl)) z.0 in (
        record { of_points = z.0.of_points; from = z.0.from; to = e; run = subst (λ es. IsLawsonRun points x (flipped_edges y.flips) es) e z.0.run },
        run_tracks xs ys (λ es (k, l, h). all es (suc k, omega arith, h)) z.1,
      )

pub opening : (points : List Point) (centre : List Edge) (inputs : List (List Edge)) (tracks : List FlipTrack) → AllZip (IsRunTrack points centre) inputs tracks → IsOpening points inputs (map (λ (track : FlipTrack). flipped_edges track.flips) tracks) centre
opening points centre [] [] z = z
opening points centre [] (y ∷ ys) z = absurd z
opening points centre (x ∷ xs) [] z = absurd z
opening points centre (x ∷ xs) (y ∷ ys) z = (z.0.run, opening points centre xs ys z.1)

pub is_start : (points : List Point) (inputs : List (List Edge)) (budget : ℕ) (centre : Layout) (tracks : List FlipTrack) (track : FlipTrack) → IsProblem points inputs → AllZip (IsRunOf points budget) inputs tracks → slice_get tracks 0 ≡ Some track → centre.points ≡ track.points → centre.edges ≡ track.end → IsStart points inputs budget (record { centre = centre; tracks = tracks })
is_start points [] budget centre tracks track problem z h p e = absurd (let l = problem.some_input in omega arith)
is_start points (x ∷ xs) budget centre [] track problem z h p e = absurd z
is_start points (x ∷ xs) budget centre (y ∷ ys) track problem z h p e = record {
  of_points = p ∙ first.of_points;
  tracks = run;
  opening = opening points centre.edges (x ∷ xs) (y ∷ ys) run;
  within = all_within points budget (x ∷ xs) (y ∷ ys) z;
}
  where
    first : IsRunOf points budget x track
    first = subst (IsRunOf points budget x) (get_or_from_slice_get (y ∷ ys) 0 track y h) z.0

    run : AllZip (IsRunTrack points centre.edges) (x ∷ xs) (y ∷ ys)
    run = subst (λ es. AllZip (IsRunTrack points es) (x ∷ xs) (y ∷ ys)) (sym e) (run_tracks points problem.placed budget x track (problem.triangulated x (0, omega arith, refl)) first (x ∷ xs) (y ∷ ys) problem.triangulated z)

-- ---- a budget that is enough
pub input_at : (points : List Point) (inputs : List (List Edge)) (t : ℕ) (input : List Edge) → IsProblem points inputs → slice_get inputs t ≡ Some input → IsTriangulation points input
input_at points inputs t input problem h = problem.triangulated input (t, slice_get_within inputs t input h, get_or_from_slice_get inputs t input input h)

never_longer : (points : List Point) → ArePlaced points → (from : List Edge) → IsTriangulation points from → (budget : ℕ) → length points * (length points - 1) / 2 ≤ budget → ¬ IsLawsonRunLonger points from budget
never_longer points P from I budget l longer = over (run_exists points P from I)
  where
    apart : (most budget count : ℕ) → most ≤ budget → budget < count → count ≤ most → ⊥
    apart most budget count i j k = omega arith

    over : (flips to : List Edge) × IsLawsonRun points from flips to → ⊥
    over (flips, to, run) = apart _ budget (length flips) l (longer_means points P from flips to budget I run longer) (run_length points P from flips to I run.0)

pub only_memory : (points : List Point) (inputs : List (List Edge)) (budget : ℕ) (fault : StartFault) → IsProblem points inputs → length points * (length points - 1) / 2 ≤ budget → IsStartFault points inputs budget fault → fault ≡ OutOfMemory
only_memory points inputs budget OutOfMemory problem l h = refl
only_memory points inputs budget (FlipBudget t) problem l h = absurd (never_longer points problem.placed h.input (input_at points inputs t h.input problem h.there) budget l h.longer)
