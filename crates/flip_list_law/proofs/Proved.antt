-- The laws of flip lists, from the lemmas.
use Rattle.std.proofs.Common.{◌≡◌, ◌≢◌, ℕ, suc, ◌+◌, ◌<◌, ◌≤◌, ◌==◌, max, Bool, true, false, cond, Option, Some, None, List, [], ◌∷◌, ◌++◌, length, take, remove, All, AllPairs, refl, sym, ap, ap₂, ◌∙◌, arith, eq-eqb, eqb-true}
use Rattle.edge_table.specs.declared.edge.Edge.{Edge}
use Rattle.edge_table.specs.Edges.{IsAscending}
use Rattle.flip_list_law.specs.declared.Flip.{Flip}
use Rattle.flip_list_law.specs.FlipLists.{IsFlipList, flipped_edges, one_side, other_side, last_maker, round_numbers, round_count, grouped, in_turn, same_place, undone_by}
use Rattle.flip_list_law.specs.Laws.{FlipsLead, FlipListsKeepTriangulations, EdgesDetermineFlips, EdgesFlipInTurn, NumbersCountMakers, RoundsGroupByNumber, GroupingReplays, FlipsAppend, LastNumbersCountMakers, UndoneByTheMaker, FlipsCancel, RemovalKeepsMakers, FollowingLeads, LastImages, LastImagesLeadBack, RoundsFlipInTurn}
use Rattle.flip_list_law.proofs.FlipSets.{flip_from}
use Rattle.flip_list_law.proofs.FlipLists.{turns_to_list, list_to_turns, list_append, list_triangulation, numbers-append, made-append, maker_append, grouped-append, greatest_last, number_at, number_of_last, number_in_list, undone_at, none_stays, before_stays, after_stays}
use Rattle.flip_list_law.proofs.Grouping.{EachRound, grouping_replays as grouping_replays_lem}
use Rattle.flip_list_law.proofs.GroupingShape.{all_rounds, length-grouped, grouped_filled, grouped_members}
use Rattle.flip_list_law.proofs.LastImages.{images_source, images_listed, images_in_order, last_images_back}
use Rattle.flip_list_law.proofs.Cancelling.{cancelled}
use Rattle.flip_list_law.proofs.RoundFlips.{HasNoRepeats, FlipsOf, flips_of_schedule, flips_unique}

pub flips_lead : FlipsLead
flips_lead points edges flip P I f = flip_from points P edges flip I f

pub flip_lists_keep_triangulations : FlipListsKeepTriangulations
flip_lists_keep_triangulations points from to flips P I h = list_triangulation points P from to flips I h

pub edges_determine_flips : EdgesDetermineFlips
edges_determine_flips points from to end flips others P I h k e = flips_unique points P flips others from to end I h k e

pub edges_flip_in_turn : EdgesFlipInTurn
edges_flip_in_turn points from es to = (turns_to_list points from es to, list_to_turns points from es to)

maker_is : (flips : List Flip) (place : Option ℕ) → number_at (round_numbers flips) 0 place ≡ elim place [ Some k ↦ number_at (round_numbers flips) 0 (Some k) | None ↦ 0 ]
maker_is flips (Some k) = refl
maker_is flips None = refl

pub last_numbers_count_makers : LastNumbersCountMakers
last_numbers_count_makers flips t = number_of_last flips t ∙ maker_is flips (last_maker flips t)

pub numbers_count_makers : NumbersCountMakers
numbers_count_makers flips flip place l e =
    number_in_list flips (λ t. 0) place flip l e
    ∙ ap₂ (λ m n. suc (max m n)) (last_numbers_count_makers (take place flips) (one_side flip)) (last_numbers_count_makers (take place flips) (other_side flip))

pub rounds_group_by_number : RoundsGroupByNumber
rounds_group_by_number flips k e = grouped_members flips k e

pub grouping_replays : GroupingReplays
grouping_replays points from to flips P I h =
    let r = grouping_replays_lem points P from to flips I h in
    record {
      schedule = r.schedule;
      as_many = length-grouped flips;
      none_empty = all_rounds (λ round. 0 < length round) (grouped flips) (grouped_filled flips);
      in_order = all_rounds IsAscending (grouped flips) (r.in_order tt);
    }

pub flips_append : FlipsAppend
flips_append points from to next flips flip h X = record {
  leads = list_append points from to next flips (flip ∷ []) h (next, X, refl);
  numbers = numbers-append flips (flip ∷ []) (λ t. 0);
  rounds = greatest_last flips flip;
  grouping = grouped-append flips (flip ∷ []) (λ t. 0) [];
  last = λ t. ap (λ f. f t) (made-append flips (flip ∷ []) (λ t. 0));
  maker = λ t. maker_append flips flip t;
}

same_means : (p q : Option ℕ) (place : ℕ) → same_place p q ≡ Some place → (p ≡ Some place) × (q ≡ Some place)
same_means None q place e = absurd (cc)
same_means (Some i) None place e = absurd (cc)
same_means (Some i) (Some j) place e = by_test (i == j) refl e
  where
    by_test : (v : Bool) → (i == j) ≡ v → cond v (Some i) None ≡ Some place → (Some i ≡ Some place) × (Some j ≡ Some place)
    by_test true h k = (k, ap (λ n. Some n) (sym (eqb-true i j h)) ∙ k)
    by_test false h k = absurd (cc)

same_shown : (p q : Option ℕ) (place : ℕ) → (p ≡ Some place) × (q ≡ Some place) → same_place p q ≡ Some place
same_shown p q place h = ap₂ same_place h.0 h.1 ∙ ap (λ v. cond v (Some place) None) (eq-eqb place place refl)

pub undone_by_the_maker : UndoneByTheMaker
undone_by_the_maker flips flip place = (λ e. same_means _ _ place e, λ h. same_shown _ _ place h)

pub flips_cancel : FlipsCancel
flips_cancel points from to next flips flip place P I h X e =
    let l = undone_at flips flip place e in
    let c = cancelled points P flips place flip from to next I h l.0 l.1 X in
    record { within = c.within; reversed = c.other_way; leads = c.leads; numbers = c.numbers (λ t. 0); last = c.last (λ t. 0) }

pub removal_keeps_makers : RemovalKeepsMakers
removal_keeps_makers flips place t = record { none = none_stays flips place t; before = λ k. before_stays flips place t k; after = λ k. after_stays flips place t k }

pub following_leads : FollowingLeads
following_leads points from to next flips flip P I h X = by_undone (undone_by flips flip) refl
  where
    by_undone : (place : Option ℕ) → undone_by flips flip ≡ place → IsFlipList points from (elim place [ Some k ↦ remove flips k | None ↦ flips ++ (flip ∷ []) ]) next
    by_undone (Some place) e = (flips_cancel points from to next flips flip place P I h X e).leads
    by_undone None e = (flips_append points from to next flips flip h X).leads

pub last_images_law : LastImages
last_images_law points from to flips P I h =
    let both = images_in_order points P flips (λ t. 0) from to (round_count flips) I h (omega arith) in
    record {
      in_order = both.0;
      members = λ e. (images_source (round_count flips) flips (λ t. 0) e, images_listed (round_count flips) flips (λ t. 0) e);
      in_end = both.1;
    }

pub last_images_lead_back : LastImagesLeadBack
last_images_lead_back points from to flips k P I h e = last_images_back points P from to flips I h k e

each_of_all : (rounds : List (List Edge)) → All (λ round. AllPairs ◌≢◌ round) rounds → EachRound HasNoRepeats rounds
each_of_all [] h = tt
each_of_all (round ∷ rounds) h = (h 0 [] (omega arith), each_of_all rounds (λ k d l. h (suc k) d (omega arith)))

pub rounds_flip_in_turn : RoundsFlipInTurn
rounds_flip_in_turn points from to rounds P I h ne = found (flips_of_schedule points P rounds from to (λ t. 0) 0 I h (each_of_all rounds ne) (λ t. omega arith))
  where
    found : FlipsOf points P (in_turn rounds) from to (λ t. 0) (0 + length rounds) → (flips : List Flip) × (flipped_edges flips ≡ in_turn rounds) × IsFlipList points from flips to × (round_count flips ≤ length rounds)
    found m = (m.flips, m.edges_are, m.leads, let b = m.numbers_bounded in omega (arith, b))
