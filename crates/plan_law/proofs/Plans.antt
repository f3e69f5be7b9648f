-- Plans: following, swapping and settling keep them.
use Rattle.std.proofs.Common.{◌≡◌, ◌≢◌, ◌⊎◌, inl, inr, ℕ, zero, suc, ◌+◌, ◌*◌, ◌<◌, ◌≤◌, Bool, true, false, cond, Option, Some, None, List, [], ◌∷◌, ◌++◌, length, map, set, get_or, take, All, AllPairs, Contains, refl, sym, ap, ap₂, ◌∙◌, subst, arith, lt-ltb, ltb-true, ltb-false, get_or-set_same, get_or-set_other}
use Rattle.std.specs.Prelude.{nat_lt, filter}
use Rattle.std.specs.Option.{is_some}
use Rattle.std.specs.List.{AllZip}
use Rattle.std.proofs.lemmas.List.{append-nil}
use Rattle.std.proofs.lemmas.Slice.Zip.{AllZip-long}
use Rattle.geo_orient.specs.declared.Point.{Point}
use Rattle.tri_theory.specs.Points.{ArePlaced}
use Rattle.edge_table.specs.declared.edge.Edge.{Edge}
use Rattle.edge_table.specs.Edges.{IsBefore, IsAscending}
use Rattle.tri_theory.specs.Triangulations.{IsTriangulation}
use Rattle.tri_theory.specs.Flips.{FlipsTo, Flips}
use Rattle.tri_theory.specs.Rounds.{IsRound, IsSchedule, IsPlan, weighted_sum, total}
use Rattle.flip_list_law.specs.declared.Flip.{Flip}
use Rattle.flip_list_law.specs.FlipLists.{Leads, IsFlipList, FlipInTurn, flipped_edges, round_count, grouped, last_images, in_turn, follow}
use Rattle.bound_law.specs.Bounds.{input_at}
use Rattle.plan_law.specs.Images.{image_of, flippable, after_flip, flips_in_turn}
use Rattle.plan_law.specs.Plans.{IsInstance, Plan, IsPlanOf, plan_total, with_flip, followed, followed_all, with_list, last_moves, moves, lowers, IsSettled, first_lowering, Settles}
use Rattle.plan_law.specs.PlanLaws.{ImagesAreFound, FlipsLeadOn, FlippableEdges, FlipsAreFound, PlansHaveSchedules, CentresAreTriangulations, FollowingKeepsPlans, FollowingKeepsWeights, EdgesAreFollowed, MovesAreMade, Swaps, SwapsKeepPlans, SettlingEnds, SettlingIsDetermined, SettlingKeepsPlans}
use Rattle.flip_list_law.proofs.Grouping.{grouping_replays}
use Rattle.flip_list_law.proofs.GroupingShape.{length-grouped}
use Rattle.flip_list_law.proofs.FlipLists.{list_triangulation, list_to_turns}
use Rattle.flip_list_law.proofs.LastImages.{last_images_back}
use Rattle.flip_list_law.proofs.Proved.{following_leads, last_images_law, rounds_flip_in_turn}
use Rattle.flip_list_law.proofs.RoundFlips.{HasNoRepeats}
use Rattle.crossing_law.proofs.Counts.{filter_keeps}
use Rattle.edge_table.proofs.Edges.{edge_swap}
use Rattle.edge_table.proofs.Ascending.{not_before_itself}
use Rattle.plan_law.proofs.Images.{image_found, image_sound, flip_leads, next_is, turns_sound, turns_found, find_passes, find_listed, find_none}

-- ---- what the functions mean
pub images_are_found : ImagesAreFound
images_are_found points edges e f P I = (image_sound points P edges I e f, image_found points P edges I e f)

pub flips_lead_on : FlipsLeadOn
flips_lead_on points edges next flip P I =
    (λ X. (X.flips, next_is points P edges I flip next X), λ h. subst (λ l. Leads points edges flip l) (sym h.1) (flip_leads points P edges I flip h.0))

pub flips_are_found : FlipsAreFound
flips_are_found points edges es flips P I = (λ h. to (turns_sound points P es edges flips I h), λ (e, (to, L)). subst (λ l. flips_in_turn points edges l ≡ Some flips) e (turns_found points P flips edges to I L))
  where
    to : (U : List Edge) × IsFlipList points edges flips U × (flipped_edges flips ≡ es) → (flipped_edges flips ≡ es) × ((to : List Edge) × IsFlipList points edges flips to)
    to (U, L, e) = (e, (U, L))

-- ---- inputs
abbrev pub Each : List Point → List (List Edge) → Type 0
Each points [] = Unit {0}
Each points (input ∷ inputs) = IsTriangulation points input × Each points inputs

pub each_of : (points : List Point) (inputs : List (List Edge)) → All (λ edges. IsTriangulation points edges) inputs → Each points inputs
each_of points [] h = tt
each_of points (input ∷ inputs) h = (h 0 [] (omega arith), each_of points inputs (λ k d l. h (suc k) d (omega arith)))

abbrev pub AreLists : List Point → List (List Edge) → List Edge → List (List Flip) → Type 0
AreLists points inputs centre lists = AllZip (λ input flips. IsFlipList points input flips centre) inputs lists

module _ (points : List Point) (P : ArePlaced points) where
  lists_plan : (inputs : List (List Edge)) (centre : List Edge) (lists : List (List Flip)) → Each points inputs → AreLists points inputs centre lists → IsPlan points inputs centre (map grouped lists)
  lists_plan [] centre [] I h = tt
  lists_plan [] centre (flips ∷ lists) I h = absurd h
  lists_plan (input ∷ inputs) centre [] I h = absurd h
  lists_plan (input ∷ inputs) centre (flips ∷ lists) I h = ((grouping_replays points P input centre flips I.0 h.0).schedule, lists_plan inputs centre lists I.1 h.1)

  lists_follow : (inputs : List (List Edge)) (centre next : List Edge) (lists : List (List Flip)) (flip : Flip) → Each points inputs → AreLists points inputs centre lists → Leads points centre flip next
      → AreLists points inputs next (map (λ flips. follow flips flip) lists)
  lists_follow [] centre next [] flip I h X = tt
  lists_follow [] centre next (flips ∷ lists) flip I h X = absurd h
  lists_follow (input ∷ inputs) centre next [] flip I h X = absurd h
  lists_follow (input ∷ inputs) centre next (flips ∷ lists) flip I h X =
      (following_leads points input centre next flips flip P I.0 h.0 X, lists_follow inputs centre next lists flip I.1 h.1 X)

  centre_triangulation : (inputs : List (List Edge)) (centre : List Edge) (lists : List (List Flip)) → 0 < length inputs → Each points inputs → AreLists points inputs centre lists → IsTriangulation points centre
  centre_triangulation [] centre lists n I h = absurd (omega arith)
  centre_triangulation (input ∷ inputs) centre [] n I h = absurd h
  centre_triangulation (input ∷ inputs) centre (flips ∷ lists) n I h = list_triangulation points P input centre flips I.0 h.0

lists_total : (weights : List ℕ) (lists : List (List Flip)) → total weights (map grouped lists) ≡ weighted_sum weights (map round_count lists)
lists_total [] lists = refl
lists_total (w ∷ ws) [] = refl
lists_total (w ∷ ws) (flips ∷ lists) = ap₂ (λ m n. w * m + n) (length-grouped flips) (lists_total ws lists)

pub plans_have_schedules : PlansHaveSchedules
plans_have_schedules points inputs plan N h = (lists_plan points N.placed inputs plan.centre plan.lists (each_of points inputs N.triangulated) h.lead, lists_total plan.weights plan.lists)

pub centres_are_triangulations : CentresAreTriangulations
centres_are_triangulations points inputs plan N h = centre_triangulation points N.placed inputs plan.centre plan.lists N.some_input (each_of points inputs N.triangulated) h.lead

-- ---- following
pub record Follows (points : List Point) (inputs : List (List Edge)) (plan : Plan) (e : Edge) (next : Plan) : Type 0 where
  pub image : Edge
  pub leads : Leads points plan.centre (record { edge = e; image = image }) next.centre
  pub is_plan : IsPlanOf points inputs next

module _ (points : List Point) (inputs : List (List Edge)) (N : IsInstance points inputs) where
  follow_one : (plan next : Plan) (e : Edge) → IsPlanOf points inputs plan → followed points plan e ≡ Some next → Follows points inputs plan e next
  follow_one plan next e h f = by_image (image_of points plan.centre e) refl f
    where
      I : IsTriangulation points plan.centre
      I = centres_are_triangulations points inputs plan N h

      by_image : (r : Option Edge) → image_of points plan.centre e ≡ r → elim r [ Some f ↦ Some (with_flip plan (record { edge = e; image = f })) | None ↦ None ] ≡ Some next → Follows points inputs plan e next
      by_image None i k = absurd (cc)
      by_image (Some f) i k = subst (Follows points inputs plan e) same (record {
        image = f;
        leads = X;
        is_plan = record { weighed = h.weighed; lead = lists_follow points N.placed inputs plan.centre (after_flip plan.centre flip) plan.lists flip (each_of points inputs N.triangulated) h.lead X };
      })
        where
          flip : Flip
          flip = record { edge = e; image = f }

          X : Leads points plan.centre flip (after_flip plan.centre flip)
          X = flip_leads points N.placed plan.centre I flip (image_sound points N.placed plan.centre I e f i)

          same : with_flip plan flip ≡ next
          same = cc

  pub follow_all : (es : List Edge) (plan next : Plan) → IsPlanOf points inputs plan → followed_all points plan es ≡ Some next → IsPlanOf points inputs next × FlipInTurn points plan.centre es next.centre
  follow_all [] plan next h f = let e : plan ≡ next = cc in (subst (IsPlanOf points inputs) e h, ap (λ p. p.centre) e)
  follow_all (e ∷ es) plan next h f = by_next (followed points plan e) refl f (λ mid k g. follow_all es mid next k g)
    where
      Again : Type 0
      Again = (mid : Plan) → IsPlanOf points inputs mid → followed_all points mid es ≡ Some next → IsPlanOf points inputs next × FlipInTurn points mid.centre es next.centre

      joined : (mid : Plan) → Follows points inputs plan e mid → IsPlanOf points inputs next × FlipInTurn points mid.centre es next.centre → IsPlanOf points inputs next × FlipInTurn points plan.centre (e ∷ es) next.centre
      joined mid F p = (p.0, (F.image, mid.centre, F.leads, p.1))

      by_next : (r : Option Plan) → followed points plan e ≡ r → elim r [ Some mid ↦ followed_all points mid es | None ↦ None ] ≡ Some next → Again
          → IsPlanOf points inputs next × FlipInTurn points plan.centre (e ∷ es) next.centre
      by_next None i k _ = absurd (cc)
      by_next (Some mid) i k again = let F = follow_one plan mid e h i in joined mid F (again mid F.is_plan k)

  pub edges_followed : (es : List Edge) (plan : Plan) (to : List Edge) → IsPlanOf points inputs plan → FlipInTurn points plan.centre es to → (next : Plan) × (followed_all points plan es ≡ Some next) × (next.centre ≡ to)
  edges_followed [] plan to h t = (plan, refl, t)
  edges_followed (e ∷ es) plan to h (f, mid, X, t) =
      by_rest (edges_followed es next to F.is_plan (subst (λ l. FlipInTurn points l es to) (next_is points N.placed plan.centre I flip mid X) t))
    where
      I : IsTriangulation points plan.centre
      I = centres_are_triangulations points inputs plan N h

      flip : Flip
      flip = record { edge = e; image = f }

      next : Plan
      next = with_flip plan flip

      is_next : followed points plan e ≡ Some next
      is_next = ap (λ r. elim r as (λ _. Option Plan) [ Some f ↦ Some (with_flip plan (record { edge = e; image = f })) | None ↦ None ]) (image_found points N.placed plan.centre I e f X.flips)

      F : Follows points inputs plan e next
      F = follow_one plan next e h is_next

      by_rest : (end : Plan) × (followed_all points next es ≡ Some end) × (end.centre ≡ to) → (end : Plan) × (followed_all points plan (e ∷ es) ≡ Some end) × (end.centre ≡ to)
      by_rest (end, i, c) = (end, ap (λ r. elim r as (λ _. Option Plan) [ Some mid ↦ followed_all points mid es | None ↦ None ]) is_next ∙ i, c)

pub following_keeps_plans : FollowingKeepsPlans
following_keeps_plans points inputs plan next es N h f = follow_all points inputs N es plan next h f

pub followed_weights : (points : List Point) (es : List Edge) (plan next : Plan) → followed_all points plan es ≡ Some next → next.weights ≡ plan.weights
followed_weights points [] plan next f = let e : plan ≡ next = cc in ap (λ p. p.weights) (sym e)
followed_weights points (e ∷ es) plan next f = by_image (image_of points plan.centre e) f (λ mid g. followed_weights points es mid next g)
  where
    by_image : (r : Option Edge)
        → elim (elim r as (λ _. Option Plan) [ Some f ↦ Some (with_flip plan (record { edge = e; image = f })) | None ↦ None ]) as (λ _. Option Plan) [ Some mid ↦ followed_all points mid es | None ↦ None ] ≡ Some next
        → ((mid : Plan) → followed_all points mid es ≡ Some next → next.weights ≡ mid.weights) → next.weights ≡ plan.weights
    by_image None g again = absurd (cc)
    by_image (Some f) g again = again (with_flip plan (record { edge = e; image = f })) g

pub following_keeps_weights : FollowingKeepsWeights
following_keeps_weights points plan next es f = followed_weights points es plan next f

pub edges_are_followed : EdgesAreFollowed
edges_are_followed points inputs plan es to N h t = edges_followed points inputs N es plan to h t

-- ---- moves
contains_split : {X : Type 0} (xs ys : List X) (x : X) → Contains (xs ++ ys) x → Contains xs x ⊎ Contains ys x
contains_split [] ys x h = inr h
contains_split {X} (z ∷ zs) ys x (zero, l, h) = inl (0, omega arith, h)
contains_split {X} (z ∷ zs) ys x (suc k, l, h) = later (contains_split zs ys x (k, omega arith, h))
  where
    later : Contains zs x ⊎ Contains ys x → Contains (z ∷ zs) x ⊎ Contains ys x
    later (inl (p, m, i)) = inl (suc p, omega arith, i)
    later (inr c) = inr c

singles_source : (es : List Edge) (move : List Edge) → Contains (map (λ e. e ∷ []) es) move → (e : Edge) × Contains es e × (move ≡ e ∷ [])
singles_source [] move (k, l, h) = absurd (omega arith)
singles_source (e ∷ es) move (zero, l, h) = (e, (0, omega arith, refl), sym h)
singles_source (e ∷ es) move (suc k, l, h) = later (singles_source es move (k, omega arith, h))
  where
    later : (f : Edge) × Contains es f × (move ≡ f ∷ []) → (f : Edge) × Contains (e ∷ es) f × (move ≡ f ∷ [])
    later (f, (p, m, i), j) = (f, (suc p, omega arith, i), j)

filter_source : {X : Type 0} (test : X → Bool) (xs : List X) (x : X) → Contains (filter test xs) x → Contains xs x × (test x ≡ true)
filter_source test [] x (k, l, h) = absurd (omega arith)
filter_source {X} test (y ∷ ys) x c = by_test (test y) refl c (λ d. filter_source test ys x d)
  where
    later : Contains ys x × (test x ≡ true) → Contains (y ∷ ys) x × (test x ≡ true)
    later ((k, l, h), t) = ((suc k, omega arith, h), t)

    by_test : (v : Bool) → test y ≡ v → Contains (cond v (y ∷ filter test ys) (filter test ys)) x → (Contains (filter test ys) x → Contains ys x × (test x ≡ true)) → Contains (y ∷ ys) x × (test x ≡ true)
    by_test true t (zero, l, h) _ = ((0, omega arith, h), subst (λ z. test z ≡ true) h t)
    by_test true t (suc k, l, h) again = later (again (k, omega arith, h))
    by_test false t d again = later (again d)

some_value : (r : Option Edge) → is_some r ≡ true → (f : Edge) × (r ≡ Some f)
some_value (Some f) h = (f, refl)
some_value None h = absurd (cc)

pub flippable_edges : FlippableEdges
flippable_edges points edges e P I = (λ c. to (filter_source (λ e. is_some (image_of points edges e)) edges e c), back)
  where
    to : Contains edges e × (is_some (image_of points edges e) ≡ true) → Flips points edges e
    to (c, t) = found (some_value (image_of points edges e) t)
      where
        found : (f : Edge) × (image_of points edges e ≡ Some f) → Flips points edges e
        found (f, i) = (f, image_sound points P edges I e f i)

    member : (f : Edge) → FlipsTo points edges e f → Contains edges e
    member f (a, b, c, d, he, hf, q) = subst (Contains edges) (sym he) q.left.ab

    back : Flips points edges e → Contains (flippable points edges) e
    back (f, h) = filter_keeps (λ e. is_some (image_of points edges e)) edges e (member_from f h) (ap is_some (image_found points P edges I e f h))
      where
        member_from : (f : Edge) → FlipsTo points edges e f → Contains edges e
        member_from f (a, b, c, d, he, hf, q) = subst (Contains edges) (sym (he ∙ edge_swap a c)) q.right.ca

pub distinct_of_ascending : (es : List Edge) → IsAscending es → HasNoRepeats es
distinct_of_ascending es up i j d h k e = not_before_itself (get_or es j d) (subst (λ z. IsBefore z (get_or es j d)) e (up i j d h k))

module _ (points : List Point) (P : ArePlaced points) (centre : List Edge) (C : IsTriangulation points centre) where
  -- the last images of a list flip in turn
  last_in_turn : (input : List Edge) (flip : Flip) (flips : List Flip) → IsTriangulation points input → IsFlipList points input (flip ∷ flips) centre → (to : List Edge) × FlipInTurn points centre (last_images (flip ∷ flips)) to
  last_in_turn input flip flips I h = by_count (round_count (flip ∷ flips)) refl
    where
      by_round : (before : List Edge) → IsRound points centre (last_images (flip ∷ flips)) before → (to : List Edge) × FlipInTurn points centre (last_images (flip ∷ flips)) to
      by_round before R = found (rounds_flip_in_turn points centre before (last_images (flip ∷ flips) ∷ []) P C (before, R, refl) each)
        where
          up : HasNoRepeats (last_images (flip ∷ flips))
          up = distinct_of_ascending _ (last_images_law points input centre (flip ∷ flips) P I h).in_order

          each : All (λ round. AllPairs ◌≢◌ round) (last_images (flip ∷ flips) ∷ [])
          each zero d l = up
          each (suc k) d l = absurd (omega arith)

          found : (more : List Flip) × (flipped_edges more ≡ in_turn (last_images (flip ∷ flips) ∷ [])) × IsFlipList points centre more before × (round_count more ≤ 1) → (to : List Edge) × FlipInTurn points centre (last_images (flip ∷ flips)) to
          found (more, e, L, n) = (before, list_to_turns points centre (last_images (flip ∷ flips)) before (more, e ∙ append-nil (last_images (flip ∷ flips)), L))

      by_count : (n : ℕ) → round_count (flip ∷ flips) ≡ n → (to : List Edge) × FlipInTurn points centre (last_images (flip ∷ flips)) to
      by_count zero e = absurd (omega (arith, e))
      by_count (suc k) e = at_last (last_images_back points P input centre (flip ∷ flips) I h k e)
        where
          at_last : (before : List Edge) × IsSchedule points input (take k (grouped (flip ∷ flips))) before × IsRound points centre (last_images (flip ∷ flips)) before → (to : List Edge) × FlipInTurn points centre (last_images (flip ∷ flips)) to
          at_last (before, s, R) = by_round before R

  last_moves_turn : (inputs : List (List Edge)) (lists : List (List Flip)) (move : List Edge) → Each points inputs → AreLists points inputs centre lists → Contains (last_moves lists) move → (to : List Edge) × FlipInTurn points centre move to
  last_moves_turn [] [] move I h (k, l, e) = absurd (omega arith)
  last_moves_turn [] (flips ∷ lists) move I h c = absurd h
  last_moves_turn (input ∷ inputs) [] move I h c = absurd h
  last_moves_turn (input ∷ inputs) ([] ∷ lists) move I h c = last_moves_turn inputs lists move I.1 h.1 c
  last_moves_turn (input ∷ inputs) ((flip ∷ flips) ∷ lists) move I h (zero, l, e) = subst (λ m. (to : List Edge) × FlipInTurn points centre m to) e (last_in_turn input flip flips I.0 h.0)
  last_moves_turn (input ∷ inputs) ((flip ∷ flips) ∷ lists) move I h (suc k, l, e) = last_moves_turn inputs lists move I.1 h.1 (k, omega arith, e)

  single_turn : (e : Edge) → Flips points centre e → (to : List Edge) × FlipInTurn points centre (e ∷ []) to
  single_turn e (f, h) = let flip : Flip = record { edge = e; image = f } in (after_flip centre flip, (f, after_flip centre flip, flip_leads points P centre C flip h, refl))

pub moves_are_made : MovesAreMade
moves_are_made points inputs plan move N h c = by_turn (by_cases (contains_split (map (λ e. e ∷ []) (flippable points plan.centre)) (last_moves plan.lists) move c))
  where
    C : IsTriangulation points plan.centre
    C = centres_are_triangulations points inputs plan N h

    single : (e : Edge) × Contains (flippable points plan.centre) e × (move ≡ e ∷ []) → (to : List Edge) × FlipInTurn points plan.centre move to
    single (e, d, i) = subst (λ m. (to : List Edge) × FlipInTurn points plan.centre m to) (sym i) (single_turn points N.placed plan.centre C e ((flippable_edges points plan.centre e N.placed C).0 d))

    by_cases : Contains (map (λ e. e ∷ []) (flippable points plan.centre)) move ⊎ Contains (last_moves plan.lists) move → (to : List Edge) × FlipInTurn points plan.centre move to
    by_cases (inl d) = single (singles_source (flippable points plan.centre) move d)
    by_cases (inr d) = last_moves_turn points N.placed plan.centre C inputs plan.lists move (each_of points inputs N.triangulated) h.lead d

    by_turn : (to : List Edge) × FlipInTurn points plan.centre move to → (next : Plan) × (followed_all points plan move ≡ Some next)
    by_turn (to, t) = made (edges_followed points inputs N move plan to h t)
      where
        made : (next : Plan) × (followed_all points plan move ≡ Some next) × (next.centre ≡ to) → (next : Plan) × (followed_all points plan move ≡ Some next)
        made (next, i, _) = (next, i)

-- ---- another list
set_lists : (points : List Point) (inputs : List (List Edge)) (centre : List Edge) (lists : List (List Flip)) (i : ℕ) (flips : List Flip) → AreLists points inputs centre lists → i < length inputs
    → IsFlipList points (input_at inputs i) flips centre → AreLists points inputs centre (set lists i flips)
set_lists points [] centre lists i flips h l L = absurd (omega arith)
set_lists points (input ∷ inputs) centre [] i flips h l L = absurd h
set_lists points (input ∷ inputs) centre (old ∷ lists) zero flips h l L = (L, h.1)
set_lists points (input ∷ inputs) centre (old ∷ lists) (suc i) flips h l L = (h.0, set_lists points inputs centre lists i flips h.1 (omega arith) L)

set_sum : (f : List Flip → ℕ) (weights : List ℕ) (lists : List (List Flip)) (i : ℕ) (flips : List Flip) → i < length lists
    → weighted_sum weights (map f (set lists i flips)) + get_or weights i 0 * f (get_or lists i []) ≡ weighted_sum weights (map f lists) + get_or weights i 0 * f flips
set_sum f weights [] i flips l = absurd (omega arith)
set_sum f [] (old ∷ lists) i flips l = none i
  where
    none : (i : ℕ) → 0 + get_or [] i 0 * f (get_or (old ∷ lists) i []) ≡ 0 + get_or [] i 0 * f flips
    none zero = omega arith
    none (suc i) = omega arith
set_sum f (w ∷ ws) (old ∷ lists) zero flips l = omega arith
set_sum f (w ∷ ws) (old ∷ lists) (suc i) flips l = let e = set_sum f ws lists i flips (omega arith) in omega (arith, e)

pub swaps_keep_plans : SwapsKeepPlans
swaps_keep_plans points inputs plan i rounds N h l R = found (rounds_flip_in_turn points (input_at inputs i) plan.centre rounds N.placed I R.leads R.distinct)
  where
    I : IsTriangulation points (input_at inputs i)
    I = N.triangulated i [] l

    l' : i < length plan.lists
    l' = omega (arith, l, AllZip-long (λ input flips. IsFlipList points input flips plan.centre) inputs plan.lists h.lead)

    found : (flips : List Flip) × (flipped_edges flips ≡ in_turn rounds) × IsFlipList points (input_at inputs i) flips plan.centre × (round_count flips ≤ length rounds) → Swaps points inputs plan i rounds
    found (flips, e, L, n) = record {
      next = with_list plan i flips;
      is_swapped =
          ap (λ r. elim r as (λ _. Option Plan) [ Some flips ↦ Some (with_list plan i flips) | None ↦ None ])
          (subst (λ es. flips_in_turn points (input_at inputs i) es ≡ Some flips) e (turns_found points N.placed flips (input_at inputs i) plan.centre I L));
      is_plan = record { weighed = h.weighed; lead = set_lists points inputs plan.centre plan.lists i flips h.lead l L };
      same_centre = refl;
      same_weights = refl;
      edges = ap flipped_edges here ∙ e;
      no_more = subst (λ z. round_count z ≤ length rounds) (sym here) n;
      others = λ k ne. (let o : get_or (set plan.lists i flips) k [] ≡ get_or plan.lists k [] = get_or-set_other plan.lists i k flips [] ne in o);
      totals = sums;
    }
      where
        here : get_or (set plan.lists i flips) i [] ≡ flips
        here = get_or-set_same plan.lists i flips [] l'

        sums : plan_total (with_list plan i flips) + get_or plan.weights i 0 * round_count (get_or plan.lists i []) ≡ plan_total plan + get_or plan.weights i 0 * round_count (get_or (set plan.lists i flips) i [])
        sums = set_sum round_count plan.weights plan.lists i flips l' ∙ ap (λ fs. plan_total plan + get_or plan.weights i 0 * round_count fs) (sym here)

-- ---- settling
pub lowers_means : (points : List Point) (plan : Plan) (es : List Edge) → lowers points plan es ≡ true → (next : Plan) × (followed_all points plan es ≡ Some next) × (plan_total next < plan_total plan)
lowers_means points plan es h = by_next (followed_all points plan es) refl h
  where
    by_next : (r : Option Plan) → followed_all points plan es ≡ r → elim r [ Some next ↦ nat_lt (plan_total next) (plan_total plan) | None ↦ false ] ≡ true → (next : Plan) × (followed_all points plan es ≡ Some next) × (plan_total next < plan_total plan)
    by_next (Some next) e t = (next, e, ltb-true (plan_total next) (plan_total plan) t)
    by_next None e t = absurd (cc)

lowers_shown : (points : List Point) (plan next : Plan) (es : List Edge) → followed_all points plan es ≡ Some next → plan_total next < plan_total plan → lowers points plan es ≡ true
lowers_shown points plan next es e l = ap (λ r. elim r as (λ _. Bool) [ Some next ↦ nat_lt (plan_total next) (plan_total plan) | None ↦ false ]) e ∙ lt-ltb (plan_total next) (plan_total plan) l

module _ (points : List Point) where
  settled_by : (plan : Plan) → first_lowering points plan ≡ None → IsSettled points plan
  settled_by plan e move next c f = by_order (ℕ_trichotomy (plan_total next) (plan_total plan))
    where
      by_order : (plan_total next < plan_total plan) ⊎ (plan_total plan ≤ plan_total next) → plan_total plan ≤ plan_total next
      by_order (inl l) = absurd (find_none (lowers points plan) (moves points plan) move e c (lowers_shown points plan next move f l))
      by_order (inr l) = l

      ℕ_trichotomy : (a b : ℕ) → (a < b) ⊎ (b ≤ a)
      ℕ_trichotomy a b = by_test (nat_lt a b) refl
        where
          by_test : (v : Bool) → nat_lt a b ≡ v → (a < b) ⊎ (b ≤ a)
          by_test true t = inl (ltb-true a b t)
          by_test false t = inr (ltb-false a b t)

  abbrev Ends : Plan → Type 0
  Ends plan = (made : List (List Edge)) × (end : Plan) × Settles points plan made end × (length made + plan_total end ≤ plan_total plan)

  settle_step : (plan : Plan) → ((next : Plan) → plan_total next < plan_total plan → Ends next) → Ends plan
  settle_step plan again = by_first (first_lowering points plan) refl
    where
      by_first : (r : Option (List Edge)) → first_lowering points plan ≡ r → Ends plan
      by_first None e = ([], plan, (refl, settled_by plan e), omega arith)
      by_first (Some move) e = by_next (lowers_means points plan move (find_passes (lowers points plan) (moves points plan) move e))
        where
          by_next : (next : Plan) × (followed_all points plan move ≡ Some next) × (plan_total next < plan_total plan) → Ends plan
          by_next (next, f, l) = by_rest (again next l)
            where
              by_rest : Ends next → Ends plan
              by_rest (made, end, S, b) = (move ∷ made, end, (next, e, f, S), omega arith)

  settling_within : (n : ℕ) (plan : Plan) → plan_total plan ≤ n → Ends plan
  settling_within zero plan b = settle_step plan (λ next l. absurd (omega arith))
  settling_within (suc n) plan b = settle_step plan (λ next l. settling_within n next (omega arith))

  settled_no_first : (plan : Plan) (move : List Edge) → IsSettled points plan → first_lowering points plan ≡ Some move → ⊥
  settled_no_first plan move s e = by_next (lowers_means points plan move (find_passes (lowers points plan) (moves points plan) move e))
    where
      by_next : (next : Plan) × (followed_all points plan move ≡ Some next) × (plan_total next < plan_total plan) → ⊥
      by_next (next, f, l) = let k = s move next (find_listed (lowers points plan) (moves points plan) move e) f in omega (arith, k, l)

  settling_one : (plan end other : Plan) (made moves : List (List Edge)) → Settles points plan made end → Settles points plan moves other → (made ≡ moves) × (end ≡ other)
  settling_one plan end other [] [] (e, s) (f, t) = (refl, sym e ∙ f)
  settling_one plan end other [] (move ∷ moves) (e, s) (next, f, g, S) = absurd (settled_no_first plan move s f)
  settling_one plan end other (move ∷ made) [] (next, f, g, S) (e, t) = absurd (settled_no_first plan move t f)
  settling_one plan end other (move ∷ made) (move' ∷ moves) (next, f, g, S) (next', f', g', S') =
      let i : move ≡ move' = cc in
      let j : next ≡ next' = by_same i in
      let r = settling_one next' end other made moves (subst (λ p. Settles points p made end) j S) S' in
      (ap₂ (λ m l. m ∷ l) i r.0, r.1)
    where
      by_same : move ≡ move' → next ≡ next'
      by_same i = let k : followed_all points plan move ≡ followed_all points plan move' = ap (followed_all points plan) i in cc

pub settling_ends : SettlingEnds
settling_ends points plan = settling_within points (plan_total plan) plan (omega arith)

pub settling_is_determined : SettlingIsDetermined
settling_is_determined points plan end other made moves S S' = settling_one points plan end other made moves S S'

settling_plan : (points : List Point) (inputs : List (List Edge)) → IsInstance points inputs → (made : List (List Edge)) (plan end : Plan) → IsPlanOf points inputs plan → Settles points plan made end → IsPlanOf points inputs end
settling_plan points inputs N [] plan end h (e, s) = subst (IsPlanOf points inputs) e h
settling_plan points inputs N (move ∷ made) plan end h (next, e, f, S) = settling_plan points inputs N made next end (follow_all points inputs N move plan next h f).0 S

pub settling_keeps_plans : SettlingKeepsPlans
settling_keeps_plans points inputs plan end made N h S = settling_plan points inputs N made plan end h S
