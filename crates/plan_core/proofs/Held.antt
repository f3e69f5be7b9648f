-- What is known of a held plan: its lists, and where edges flip.
use Rattle.std.proofs.Common.{◌≡◌, ◌∙◌, ℕ, zero, suc, ◌+◌, ◌<◌, ◌≤◌, Option, Some, None, List, [], ◌∷◌, ◌++◌, length, get_or, map, All, slice_get, refl, sym, ap, ap₂, subst, arith}
use Rattle.std.specs.List.{AllZip}
use Rattle.std.specs.Option.{is_some}
use Rattle.std.proofs.lemmas.Option.{get_or_from_slice_get, slice_get_within}
use Rattle.std.proofs.lemmas.Slice.Zip.{AllZip-long}
use Rattle.std.proofs.lemmas.List.Elements.{All-nil, All-cons, Contains-get_or}
use Rattle.std.proofs.lemmas.List.Kept.{AllPairs-filter}
use Rattle.geo_orient.specs.declared.Point.{Point}
use Rattle.edge_table.specs.declared.edge.Edge.{Edge}
use Rattle.edge_table.specs.Edges.{IsBefore}
use Rattle.edge_table.proofs.Ascending.{same_members}
use Rattle.tri_theory.specs.Triangulations.{IsTriangulation}
use Rattle.tri_theory.specs.Flips.{FlipsTo, Flips, IsFlip}
use Rattle.tri_theory.proofs.Proved.{images_are_unique}
use Rattle.tri_check.specs.Layouts.{Layout}
use Rattle.tri_check.specs.Problems.{Problem, IsProblem, AreFewWeights}
use Rattle.flip_list_law.specs.declared.Flip.{Flip}
use Rattle.flip_list_law.specs.FlipLists.{IsFlipList, round_count, follow}
use Rattle.flip_list_law.specs.Laws.{Replays}
use Rattle.flip_list_law.proofs.Proved.{grouping_replays}
use Rattle.flip_mesh.specs.Build.{AreFlippable}
use Rattle.round_pack.specs.Tracks.{FlipTrack, flip}
use Rattle.bound_law.specs.Bounds.{input_at}
use Rattle.plan_law.specs.Images.{image_of, flippable, after_flip}
use Rattle.tri_theory.specs.Rounds.{weighted_sum}
use Rattle.plan_law.specs.Plans.{IsInstance, Plan, IsPlanOf, with_flip, followed, followed_all, last_moves}
use Rattle.plan_law.proofs.Proved.{images_are_found, flips_lead_on, flippable_edges, plans_have_schedules, centres_are_triangulations, following_keeps_plans}
use Rattle.plan_core.specs.HeldPlans.{LeadsTo, HasSchedules, TotalsAfter, lists_of, list_at}
use Rattle.plan_core.specs.States.{plan_of, IsHeld}
use Rattle.plan_core.specs.Steps.{IsLed, IsFollowed, IsRoomier}

-- ---- places
pub flips_at : (tracks : List FlipTrack) (t : ℕ) (track : FlipTrack) → slice_get tracks t ≡ Some track → get_or (lists_of tracks) t [] ≡ track.flips
flips_at [] t track h = absurd (cc)
flips_at (x ∷ tracks) zero track h = let e : x ≡ track = cc in ap (λ (s : FlipTrack). s.flips) e
flips_at (x ∷ tracks) (suc t) track h = flips_at tracks t track h

module _ (points : List Point) (centre : List Edge) where
  pub lead_at : (inputs : List (List Edge)) (tracks : List FlipTrack) (t : ℕ) (track : FlipTrack) → AllZip (LeadsTo points centre) inputs tracks → slice_get tracks t ≡ Some track → LeadsTo points centre (input_at inputs t) track
  lead_at [] [] t track z h = absurd (cc)
  lead_at [] (y ∷ tracks) t track z h = absurd z
  lead_at (x ∷ inputs) [] t track z h = absurd z
  lead_at (x ∷ inputs) (y ∷ tracks) zero track z h = let e : y ≡ track = cc in subst (LeadsTo points centre x) e z.0
  lead_at (x ∷ inputs) (y ∷ tracks) (suc t) track z h = lead_at inputs tracks t track z.1 h

  pub list_led : (inputs : List (List Edge)) (lists : List (List Flip)) (t : ℕ) → AllZip (λ input flips. IsFlipList points input flips centre) inputs lists → t < length inputs → IsFlipList points (input_at inputs t) (get_or lists t []) centre
  list_led [] lists t z h = absurd (omega arith)
  list_led (x ∷ inputs) [] t z h = absurd z
  list_led (x ∷ inputs) (y ∷ lists) zero z h = z.0
  list_led (x ∷ inputs) (y ∷ lists) (suc t) z h = list_led inputs lists t z.1 (omega arith)

  -- tracks that lead to the centre, each by its flips
  pub lists_lead : (inputs : List (List Edge)) (tracks : List FlipTrack) → AllZip (LeadsTo points centre) inputs tracks → ((k : ℕ) (track : FlipTrack) → slice_get tracks k ≡ Some track → IsLed track)
      → AllZip (λ input flips. IsFlipList points input flips centre) inputs (lists_of tracks)
  lists_lead [] [] z led = tt
  lists_lead [] (y ∷ tracks) z led = absurd z
  lists_lead (x ∷ inputs) [] z led = absurd z
  lists_lead (x ∷ inputs) (y ∷ tracks) z led = (
    subst (λ ps. IsFlipList ps x y.flips centre) z.0.of_points (subst (λ s. IsFlipList y.points s y.flips centre) z.0.from (subst (λ u. IsFlipList y.points y.start y.flips u) z.0.to (led 0 y refl))),
    lists_lead inputs tracks z.1 (λ k track h. led (suc k) track h),
  )

  -- where an edge of the centre flips, it flips in the end of each track
  pub all_flip_to : (e f : Edge) → FlipsTo points centre e f → (inputs : List (List Edge)) (tracks : List FlipTrack) → AllZip (LeadsTo points centre) inputs tracks → All (λ (track : FlipTrack). FlipsTo track.points track.end e f) tracks
  all_flip_to e f h inputs [] z = All-nil (λ (track : FlipTrack). FlipsTo track.points track.end e f)
  all_flip_to e f h [] (y ∷ tracks) z = absurd z
  all_flip_to e f h (x ∷ inputs) (y ∷ tracks) z =
      All-cons (λ (track : FlipTrack). FlipsTo track.points track.end e f) y tracks (subst (λ ps. FlipsTo ps y.end e f) (sym z.0.of_points) (subst (λ u. FlipsTo points u e f) (sym z.0.to) h)) (all_flip_to e f h inputs tracks z.1)

  pub all_flip : (e : Edge) → Flips points centre e → (inputs : List (List Edge)) (tracks : List FlipTrack) → AllZip (LeadsTo points centre) inputs tracks → All (λ (track : FlipTrack). Flips track.points track.end e) tracks
  all_flip e h inputs [] z = All-nil (λ (track : FlipTrack). Flips track.points track.end e)
  all_flip e h [] (y ∷ tracks) z = absurd z
  all_flip e h (x ∷ inputs) (y ∷ tracks) z =
      All-cons (λ (track : FlipTrack). Flips track.points track.end e) y tracks (subst (λ ps. Flips ps y.end e) (sym z.0.of_points) (subst (λ u. Flips points u e) (sym z.0.to) h)) (all_flip e h inputs tracks z.1)

  -- more room changes nothing
  pub roomier_lead : (inputs : List (List Edge)) (old new : List FlipTrack) → AllZip (LeadsTo points centre) inputs old → AllZip IsRoomier old new → AllZip (LeadsTo points centre) inputs new
  roomier_lead [] [] [] z w = tt
  roomier_lead [] [] (b ∷ new) z w = absurd w
  roomier_lead [] (a ∷ old) new z w = absurd z
  roomier_lead (x ∷ inputs) [] new z w = absurd z
  roomier_lead (x ∷ inputs) (a ∷ old) [] z w = absurd w
  roomier_lead (x ∷ inputs) (a ∷ old) (b ∷ new) z w =
      (record { of_points = w.0.of_points ∙ z.0.of_points; from = w.0.from ∙ z.0.from; to = w.0.to ∙ z.0.to }, roomier_lead inputs old new z.1 w.1)

pub as_roomy : (track : FlipTrack) → IsRoomier track track
as_roomy track = record { of_points = refl; from = refl; flips = refl; to = refl; spare = omega arith }

pub roomier_lists : (old new : List FlipTrack) → AllZip IsRoomier old new → lists_of new ≡ lists_of old
roomier_lists [] [] w = refl
roomier_lists [] (b ∷ new) w = absurd w
roomier_lists (a ∷ old) [] w = absurd w
roomier_lists (a ∷ old) (b ∷ new) w = ap₂ ◌∷◌ w.0.flips (roomier_lists old new w.1)

pub roomier_spares : (old new : List FlipTrack) → AllZip IsRoomier old new → AllZip (λ (a b : FlipTrack). a.spare ≤ b.spare + 0) old new
roomier_spares [] [] w = tt
roomier_spares [] (b ∷ new) w = absurd w
roomier_spares (a ∷ old) [] w = absurd w
roomier_spares (a ∷ old) (b ∷ new) w = (let h = w.0.spare in omega arith, roomier_spares old new w.1)

pub followed_spares : (e : Edge) (old new : List FlipTrack) → AllZip (IsFollowed e) old new → AllZip (λ (a b : FlipTrack). a.spare ≤ b.spare + 1) old new
followed_spares e [] [] w = tt
followed_spares e [] (b ∷ new) w = absurd w
followed_spares e (a ∷ old) [] w = absurd w
followed_spares e (a ∷ old) (b ∷ new) w = (let h = w.0.spare in omega arith, followed_spares e old new w.1)

-- ---- lists of moves and of rounds
pub last_moves_push : (lists : List (List Flip)) (flips : List Flip) → last_moves (lists ++ flips ∷ []) ≡ last_moves lists ++ last_moves (flips ∷ [])
last_moves_push [] flips = refl
last_moves_push ([] ∷ lists) flips = last_moves_push lists flips
last_moves_push ((g ∷ gs) ∷ lists) flips = ap (λ ms. last_moves ((g ∷ gs) ∷ []) ++ ms) (last_moves_push lists flips)

-- ---- a held plan
module _ (problem : Problem) (centre : Layout) (tracks : List FlipTrack) (H : IsHeld problem centre tracks) where
  abbrev plan : Plan
  plan = plan_of problem centre.edges tracks

  pub instance : IsInstance problem.points problem.inputs
  instance = record {
    placed = H.is_problem.placed;
    triangulated = λ k d l. H.is_problem.triangulated (get_or problem.inputs k d) (Contains-get_or problem.inputs k d l);
    some_input = (let h = H.is_problem.some_input in omega arith);
  }

  pub triangulated : IsTriangulation problem.points centre.edges
  triangulated = centres_are_triangulations problem.points problem.inputs plan instance H.is_plan

  pub as_many : length tracks ≡ length problem.inputs
  as_many = AllZip-long (LeadsTo problem.points centre.edges) problem.inputs tracks H.lead

  pub has_schedules : HasSchedules problem plan
  has_schedules = let p = plans_have_schedules problem.points problem.inputs plan instance H.is_plan in record { is_plan = p.0; weights = refl; as_many = p.1 }

  pub schedule_at : (t : ℕ) → t < length problem.inputs → Replays problem.points (input_at problem.inputs t) (list_at plan t) centre.edges
  schedule_at t h =
      grouping_replays problem.points (input_at problem.inputs t) centre.edges (list_at plan t) instance.placed (H.is_problem.triangulated (input_at problem.inputs t) (Contains-get_or problem.inputs t [] h)) (list_led problem.points centre.edges problem.inputs (lists_of tracks) t H.is_plan.lead h)

  pub is_followed : (e f : Edge) → FlipsTo problem.points centre.edges e f → followed problem.points plan e ≡ Some (with_flip plan (flip e f))
  is_followed e f h =
      ap (λ r. elim r as (λ _. Option Plan) [ Some g ↦ Some (with_flip plan (flip e g)) | None ↦ None ]) ((images_are_found problem.points centre.edges e f instance.placed triangulated).1 h)

  -- the total once an edge is followed
  pub totals_after : (e : Edge) (n : ℕ) → Flips problem.points centre.edges e
      → ((f : Edge) → All (λ (track : FlipTrack). FlipsTo track.points track.end e f) tracks → n ≡ weighted_sum problem.weights (map round_count (map (λ flips. follow flips (flip e f)) (lists_of tracks))))
      → TotalsAfter problem.points plan e n
  totals_after e n (f, h) sums = (with_flip plan (flip e f), is_followed e f h, sums f (all_flip_to problem.points centre.edges e f h problem.inputs tracks H.lead))

  -- the edges that flip, as they are listed
  pub flippable_are : (list : List Edge) → AreFlippable problem.points centre.edges list → list ≡ flippable problem.points centre.edges
  flippable_are list A =
      same_members list (flippable problem.points centre.edges) A.ascending (AllPairs-filter IsBefore (λ e. is_some (image_of problem.points centre.edges e)) centre.edges triangulated.ascending)
      (λ e. (λ c. (flippable_edges problem.points centre.edges e instance.placed triangulated).1 ((A.members e).0 c), λ c. (A.members e).1 ((flippable_edges problem.points centre.edges e instance.placed triangulated).0 c)))

  -- ---- following
  module _ (next : Layout) (new : List FlipTrack) (e f : Edge) (P : next.points ≡ centre.points) (X : IsFlip centre.points centre.edges e f next.edges) (Z : AllZip (IsFollowed e) tracks new) where
    here : IsFlip problem.points centre.edges e f next.edges
    here = subst (λ ps. IsFlip ps centre.edges e f next.edges) H.of_points X

    end_is : (g : Edge) (to : List Edge) → IsFlip problem.points centre.edges e g to → (g ≡ f) × (to ≡ next.edges)
    end_is g to Y =
        let one : g ≡ f = images_are_unique problem.points centre.edges e g f instance.placed triangulated Y.flips here.flips in (
          one,
          ((flips_lead_on problem.points centre.edges to (flip e g) instance.placed triangulated).0 Y).1
              ∙ (ap (λ h. after_flip centre.edges (flip e h)) one ∙ sym (((flips_lead_on problem.points centre.edges next.edges (flip e f) instance.placed triangulated).0 here).1)),
        )

    track_is : (input : List Edge) (a b : FlipTrack) → LeadsTo problem.points centre.edges input a → (F : IsFollowed e a b) → (F.image ≡ f) × (b.end ≡ next.edges)
    track_is input a b L F = end_is F.image b.end (subst (λ ps. IsFlip ps centre.edges e F.image b.end) L.of_points (subst (λ u. IsFlip a.points u e F.image b.end) L.to F.leads))

    lead : (inputs : List (List Edge)) (as_were are : List FlipTrack) → AllZip (LeadsTo problem.points centre.edges) inputs as_were → AllZip (IsFollowed e) as_were are → AllZip (LeadsTo problem.points next.edges) inputs are
    lead [] [] [] z w = tt
    lead [] [] (b ∷ are) z w = absurd w
    lead [] (a ∷ as_were) are z w = absurd z
    lead (x ∷ inputs) [] are z w = absurd z
    lead (x ∷ inputs) (a ∷ as_were) [] z w = absurd w
    lead (x ∷ inputs) (a ∷ as_were) (b ∷ are) z w =
        (record { of_points = w.0.of_points ∙ z.0.of_points; from = w.0.from ∙ z.0.from; to = (track_is x a b z.0 w.0).1 }, lead inputs as_were are z.1 w.1)

    lists : (inputs : List (List Edge)) (as_were are : List FlipTrack) → AllZip (LeadsTo problem.points centre.edges) inputs as_were → AllZip (IsFollowed e) as_were are → lists_of are ≡ map (λ flips. follow flips (flip e f)) (lists_of as_were)
    lists [] [] [] z w = refl
    lists [] [] (b ∷ are) z w = absurd w
    lists [] (a ∷ as_were) are z w = absurd z
    lists (x ∷ inputs) [] are z w = absurd z
    lists (x ∷ inputs) (a ∷ as_were) [] z w = absurd w
    lists (x ∷ inputs) (a ∷ as_were) (b ∷ are) z w = ap₂ ◌∷◌ (w.0.flips ∙ ap (λ g. follow a.flips (flip e g)) (track_is x a b z.0 w.0).0) (lists inputs as_were are z.1 w.1)

    plan_is : plan_of problem next.edges new ≡ with_flip plan (flip e f)
    plan_is =
        ap₂ (λ c ls. record { centre = c; weights = problem.weights; lists = ls }) (((flips_lead_on problem.points centre.edges next.edges (flip e f) instance.placed triangulated).0 here).1) (lists problem.inputs tracks new H.lead Z)

    pub follows : followed problem.points plan e ≡ Some (plan_of problem next.edges new)
    follows = is_followed e f here.flips ∙ ap Some (sym plan_is)

    pub image_is : FlipsTo problem.points centre.edges e f
    image_is = here.flips

    pub held_on : IsHeld problem next new
    held_on = record {
      is_problem = H.is_problem;
      weighed = H.weighed;
      of_points = P ∙ H.of_points;
      lead = lead problem.inputs tracks new H.lead Z;
      is_plan = (following_keeps_plans problem.points problem.inputs plan (plan_of problem next.edges new) (e ∷ []) instance H.is_plan
          (ap (λ r. elim r as (λ _. Option Plan) [ Some p ↦ followed_all problem.points p [] | None ↦ None ]) follows)).0;
    }

  pub held_with_room : (new : List FlipTrack) → AllZip IsRoomier tracks new → IsHeld problem centre new
  held_with_room new Z = record {
    is_problem = H.is_problem;
    weighed = H.weighed;
    of_points = H.of_points;
    lead = roomier_lead problem.points centre.edges problem.inputs tracks new H.lead Z;
    is_plan = subst (λ ls. IsPlanOf problem.points problem.inputs (record { centre = centre.edges; weights = problem.weights; lists = ls })) (sym (roomier_lists tracks new Z)) H.is_plan;
  }

-- tracks that lead from the inputs to a centre are a plan
pub opening_held : (problem : Problem) (centre : Layout) (tracks : List FlipTrack) → IsProblem problem.points problem.inputs → AreFewWeights problem.inputs problem.weights → centre.points ≡ problem.points → AllZip (LeadsTo problem.points centre.edges) problem.inputs tracks → All IsLed tracks
    → IsHeld problem centre tracks
opening_held problem centre tracks I W P Z L = record {
  is_problem = I;
  weighed = W;
  of_points = P;
  lead = Z;
  is_plan = record { weighed = W.weighed; lead = lists_lead problem.points centre.edges problem.inputs tracks Z (λ k track h. subst IsLed (get_or_from_slice_get tracks k track track h) (L k track (slice_get_within tracks k track h))) };
}

-- one track that leads from the only input
pub alone : (points : List Point) (centre : List Edge) (inputs : List (List Edge)) (input : List Edge) (track : FlipTrack) → length inputs ≡ 1 → slice_get inputs 0 ≡ Some input → LeadsTo points centre input track → AllZip (LeadsTo points centre) inputs (track ∷ [])
alone points centre [] input track l h L = absurd (omega arith)
alone points centre (x ∷ []) input track l h L = let e : input ≡ x = cc in (subst (λ i. LeadsTo points centre i track) e L, tt)
alone points centre (x ∷ y ∷ inputs) input track l h L = absurd (omega arith)
