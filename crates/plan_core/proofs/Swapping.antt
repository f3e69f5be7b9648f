-- Another list for one input: the track of rounds that lead to the centre, and the plan with its flips.
use Rattle.std.proofs.Common.{◌≡◌, ◌∙◌, ℕ, zero, suc, ◌+◌, ◌-◌, ◌<◌, ◌≤◌, Option, Some, None, List, [], ◌∷◌, ◌++◌, length, set, slice_get, refl, sym, ap, subst, arith, get_or-set_same}
use Rattle.std.specs.List.{AllZip}
use Rattle.std.proofs.lemmas.List.{append_assoc}
use Rattle.std.proofs.lemmas.Option.{get_or_from_slice_get}
use Rattle.std.proofs.lemmas.Slice.Zip.{AllZip-long}
use Rattle.std.proofs.lemmas.List.Elements.{Contains-get_or}
use Rattle.geo_orient.specs.declared.Point.{Point}
use Rattle.edge_table.specs.declared.edge.Edge.{Edge}
use Rattle.tri_theory.specs.Points.{ArePlaced}
use Rattle.tri_theory.specs.Triangulations.{IsTriangulation}
use Rattle.tri_theory.proofs.Proved.{flips_keep_triangulations}
use Rattle.tri_check.specs.Layouts.{Layout}
use Rattle.tri_check.specs.Problems.{Problem}
use Rattle.flip_list_law.specs.declared.Flip.{Flip}
use Rattle.flip_list_law.specs.FlipLists.{IsFlipList, flipped_edges, round_count, in_turn}
use Rattle.flip_list_law.proofs.Proved.{rounds_flip_in_turn}
use Rattle.round_pack.specs.Tracks.{FlipTrack}
use Rattle.bound_law.specs.Bounds.{input_at}
use Rattle.replay.specs.Independent.{AreRoundsOf}
use Rattle.plan_law.specs.Images.{after_flips, flips_in_turn}
use Rattle.plan_law.specs.Plans.{Plan, IsPlanOf, with_list}
use Rattle.plan_law.specs.PlanLaws.{Swaps}
use Rattle.plan_law.proofs.Proved.{flips_lead_on, flips_are_found, swaps_keep_plans}
use Rattle.plan_core.specs.declared.fault.SwapFault.{SwapFault}
use Rattle.plan_core.specs.declared.fault.SwapFault.TheVariants.{Round, OtherEnd, NotFewer, OutOfMemory}
use Rattle.plan_core.specs.HeldPlans.{LeadsTo, lists_of, list_at}
use Rattle.plan_core.specs.States.{plan_of, IsHeld}
use Rattle.plan_core.specs.Steps.{IsTrackOf, IsTrackFor}
use Rattle.plan_core.specs.SwapFaults.{IsSwapFault, IsLeadFault, IsSwapped, IsNotFewer, Saves}
use Rattle.plan_core.proofs.Held.{instance}

pub in_turn_push : (rounds : List (List Edge)) (round : List Edge) → in_turn (rounds ++ round ∷ []) ≡ in_turn rounds ++ round
in_turn_push [] round = nothing round
  where
    nothing : (es : List Edge) → es ++ [] ≡ es
    nothing [] = refl
    nothing (e ∷ es) = ap (λ l. e ∷ l) (nothing es)
in_turn_push (r ∷ rounds) round = ap (λ l. r ++ l) (in_turn_push rounds round) ∙ sym (append_assoc r (in_turn rounds) round)

-- rounds that don't lead to the centre aren't fit for a swap
pub lead_fault : (problem : Problem) (plan : Plan) (t : ℕ) (rounds : List (List Edge)) (fault : SwapFault) → IsLeadFault problem.points (input_at problem.inputs t) rounds plan.centre fault → IsSwapFault problem plan t rounds fault
lead_fault problem plan t rounds (Round fault) h = h
lead_fault problem plan t rounds (OtherEnd e) h = h
lead_fault problem plan t rounds (NotFewer held given) h = absurd h
lead_fault problem plan t rounds OutOfMemory h = tt

-- a list leads where its flips do, one after the other
list_end : (points : List Point) → ArePlaced points → (flips : List Flip) (from to : List Edge) → IsTriangulation points from → IsFlipList points from flips to → after_flips from flips ≡ to
list_end points P [] from to I h = h
list_end points P (fl ∷ flips) from to I (next, X, L) =
    ap (λ t. after_flips t flips) (sym (((flips_lead_on points from next fl P I).0 X).1)) ∙ list_end points P flips next to (flips_keep_triangulations points from next fl.edge fl.image P I X) L

-- the flips of edges that flip in turn, from one edge set to another
pub record FoundFlips (points : List Point) (from es to : List Edge) : Type 0 where
  pub flips : List Flip
  pub found : flips_in_turn points from es ≡ Some flips
  pub leads : IsFlipList points from flips to

module _ (problem : Problem) (centre : Layout) (tracks : List FlipTrack) (H : IsHeld problem centre tracks) (t : ℕ) (rounds : List (List Edge)) (h : t < length problem.inputs) (R : AreRoundsOf problem.points (input_at problem.inputs t) rounds centre.edges) where
  abbrev plan : Plan
  plan = plan_of problem centre.edges tracks

  abbrev input : List Edge
  input = input_at problem.inputs t

  swaps : Swaps problem.points problem.inputs plan t rounds
  swaps = swaps_keep_plans problem.points problem.inputs plan t rounds (instance problem centre tracks H) H.is_plan h (record { distinct = R.distinct; leads = R.leads })

  whole_input : IsTriangulation problem.points input
  whole_input = H.is_problem.triangulated input (Contains-get_or problem.inputs t [] h)

  found : FoundFlips problem.points input (in_turn rounds) centre.edges
  found = from (rounds_flip_in_turn problem.points input centre.edges rounds H.is_problem.placed whole_input R.leads R.distinct)
    where
      from : (flips : List Flip) × (flipped_edges flips ≡ in_turn rounds) × IsFlipList problem.points input flips centre.edges × (round_count flips ≤ length rounds) → FoundFlips problem.points input (in_turn rounds) centre.edges
      from (flips, e, L, n) = record { flips = flips; found = (flips_are_found problem.points input (in_turn rounds) flips H.is_problem.placed whole_input).1 (e, (centre.edges, L)); leads = L }

  pub rounds_found : (flips : List Flip) × (flips_in_turn problem.points input (in_turn rounds) ≡ Some flips)
  rounds_found = (found.flips, found.found)

  pub track_for : (track : FlipTrack) → IsTrackOf problem.points input (in_turn rounds) track → IsTrackFor problem plan t rounds track
  track_for track T =
      let one : track.flips ≡ found.flips = (let e = sym T.flips ∙ found.found in cc) in
      record {
        leads = R;
        swapped = ap (λ r. elim r as (λ _. Option Plan) [ Some flips ↦ Some (with_list plan t flips) | None ↦ None ]) T.flips;
        is_track = record {
          of_points = T.of_points;
          from = T.from;
          to = T.to ∙ (ap (after_flips input) one ∙ list_end problem.points H.is_problem.placed found.flips input centre.edges whole_input found.leads);
        };
      }

  -- ---- the plan with the track
  module _ (track : FlipTrack) (T : IsTrackFor problem plan t rounds track) where
    pub lists_set : (ts : List FlipTrack) (k : ℕ) → lists_of (set ts k track) ≡ set (lists_of ts) k track.flips
    lists_set [] k = refl
    lists_set (x ∷ ts) zero = refl
    lists_set (x ∷ ts) (suc k) = ap (λ ls. x.flips ∷ ls) (lists_set ts k)

    pub plan_set : plan_of problem centre.edges (set tracks t track) ≡ with_list plan t track.flips
    plan_set = ap (λ ls. record { centre = centre.edges; weights = problem.weights; lists = ls }) (lists_set tracks t)

    same_next : swaps.next ≡ with_list plan t track.flips
    same_next = (let e = sym swaps.is_swapped ∙ T.swapped in cc)

    lead_set : (inputs : List (List Edge)) (ts : List FlipTrack) (k : ℕ) → k < length inputs → AllZip (LeadsTo problem.points centre.edges) inputs ts → LeadsTo problem.points centre.edges (input_at inputs k) track
        → AllZip (LeadsTo problem.points centre.edges) inputs (set ts k track)
    lead_set [] ts k l z L = absurd (omega arith)
    lead_set (x ∷ inputs) [] k l z L = absurd z
    lead_set (x ∷ inputs) (y ∷ ts) zero l z L = (L, z.1)
    lead_set (x ∷ inputs) (y ∷ ts) (suc k) l z L = (z.0, lead_set inputs ts k (omega arith) z.1 L)

    pub held_swapped : IsHeld problem centre (set tracks t track)
    held_swapped = record {
      is_problem = H.is_problem;
      weighed = H.weighed;
      of_points = H.of_points;
      lead = lead_set problem.inputs tracks t h H.lead T.is_track;
      is_plan = subst (IsPlanOf problem.points problem.inputs) (same_next ∙ sym plan_set) swaps.is_plan;
    }

    pub is_swapped : IsSwapped problem plan t rounds (with_list plan t track.flips)
    is_swapped = record { leads = R; swapped = T.swapped }

    pub list_set : list_at (with_list plan t track.flips) t ≡ track.flips
    list_set = get_or-set_same (lists_of tracks) t track.flips [] (omega (arith, h, AllZip-long (λ in_list flips. IsFlipList problem.points in_list flips centre.edges) problem.inputs (lists_of tracks) H.is_plan.lead))

    pub not_fewer : (held given : ℕ) → held ≡ round_count (list_at plan t) → given ≡ round_count track.flips → held ≤ given → IsNotFewer problem plan t rounds held given
    not_fewer held given a b l = record { next = with_list plan t track.flips; is_swapped = is_swapped; held_is = a; given_is = b ∙ ap round_count (sym list_set); not_fewer = l }

    pub saves : (was is held given : ℕ) → held ≡ round_count (list_at plan t) → given ≡ round_count track.flips → given < held
        → Saves (record { problem = problem; plan = plan; spare = was }) (record { problem = problem; plan = plan_of problem centre.edges (set tracks t track); spare = is }) t rounds (held - given)
    saves was is held given a b l = record {
      problem = refl;
      is_swapped = subst (λ p. IsSwapped problem plan t rounds p) (sym plan_set) is_swapped;
      some = omega arith;
      saved_is = subst (λ p. round_count (list_at p t) + (held - given) ≡ round_count (list_at plan t)) (sym plan_set) (let e = ap round_count list_set in omega arith);
    }

-- the input that an instance has at a place
module _ (problem inst : Problem) (input : Layout) (t : ℕ) (I : inst ≡ problem) (P : input.points ≡ inst.points) (E : slice_get inst.inputs t ≡ Some input.edges) where
  points_are : input.points ≡ problem.points
  points_are = P ∙ ap (λ (p : Problem). p.points) I

  edges_are : input.edges ≡ input_at problem.inputs t
  edges_are = sym (get_or_from_slice_get inst.inputs t input.edges [] E) ∙ ap (λ (p : Problem). input_at p.inputs t) I

  pub moved : (F : List Point → List Edge → Type 0) → F input.points input.edges → F problem.points (input_at problem.inputs t)
  moved F f = subst (λ ps. F ps (input_at problem.inputs t)) points_are (subst (λ es. F input.points es) edges_are f)

  pub moved_back : (F : List Point → List Edge → Type 0) → F problem.points (input_at problem.inputs t) → F input.points input.edges
  moved_back F f = subst (λ ps. F ps input.edges) (sym points_are) (subst (λ es. F problem.points es) (sym edges_are) f)
