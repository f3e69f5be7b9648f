-- The boundary of a sweep with a further point.
use Rattle.std.proofs.Common.{◌≡◌, ◌⊎◌, inl, inr, ℕ, ◌+◌, ◌<◌, ◌≤◌, ℤ, pos, ◌≤ℤ◌, List, [], ◌∷◌, ◌++◌, length, get_or, take, Contains, sym, ap, ◌∙◌, subst, subst₂, arith}
use Rattle.std.proofs.lemmas.Int.{ints}
use Rattle.std.proofs.lemmas.List.{get_or_append_left, get_or-take, get_or_push, length-take-le, length_push}
use Rattle.std.proofs.lemmas.List.Elements.{Contains-get_or, Contains-append_left, Contains-append_right, Contains-push, Contains-push_cases, Contains-append_cases}
use Rattle.std.proofs.lemmas.List.Quantifiers.{all_pairs_push}
use native.Mathlib.Decide.{ℕ_discrete}
use Rattle.geo_orient.specs.declared.Point.{Point}
use Rattle.tri_theory.specs.Points.{point, turn}
use Rattle.planar_law.specs.Chains.{link}
use Rattle.planar_law.proofs.Patches.{flat_last}
use Rattle.sweep_law.specs.Sweeps.{Pair, ComesBefore}
use Rattle.sweep_law.specs.Boundaries.{IsDirection, CanBeSwept, Side, right, left, IsOn, ArePassed, ComesNext, IsBoundary, IsFirstSeen, AreListed, AreAmong, IsSwept, AreTaken, turned, pairs_with}
use Rattle.sweep_law.proofs.Ordered.{in_taken, in_map, from_map, pairs_taken}
use Rattle.sweep_law.proofs.Sight.{Boundary, Further, Seen, not_right, turn_side, old_kept}
use Rattle.sweep_law.proofs.Sides.{sided, sloped, boundary, further, some_earlier, seen_to, seen_from, not_on, flat_on}

-- ---- the list with the turn
module _ (chain : List ℕ) (k p : ℕ) (within : k < length chain) where
  count : length (take (k + 1) chain) ≡ k + 1
  count = length-take-le (k + 1) chain (omega (arith, within))

  pub turned_count : length (turned chain k p) ≡ k + 2
  turned_count = length_push (take (k + 1) chain) p ∙ ap (λ t. t + 1) count ∙ omega arith

  pub kept_link : (i : ℕ) → i ≤ k → link (turned chain k p) i ≡ link chain i
  kept_link i le = get_or_append_left (take (k + 1) chain) (p ∷ []) 0 i (omega (arith, le, count)) ∙ get_or-take (k + 1) chain i 0 (omega (arith, le))

  pub turn_link : (i : ℕ) → i ≡ k + 1 → link (turned chain k p) i ≡ p
  turn_link i e = get_or_push (take (k + 1) chain) p 0 i (count ∙ sym e)

  pub holds_kept : (s i : ℕ) → i ≤ k → s ≡ link chain i → Contains (turned chain k p) s
  holds_kept s i le e = subst (Contains (turned chain k p)) (kept_link i le ∙ sym e) (Contains-get_or (turned chain k p) i 0 (omega (arith, le, turned_count)))

  pub turned_cases : (s : ℕ) → Contains (turned chain k p) s → Contains chain s ⊎ (p ≡ s)
  turned_cases s h = by_case (Contains-push_cases (take (k + 1) chain) p s h)
    where
      by_case : Contains (take (k + 1) chain) s ⊎ (p ≡ s) → Contains chain s ⊎ (p ≡ s)
      by_case (inl m) = inl (in_taken (k + 1) chain s m)
      by_case (inr e) = inr e

module _ (points : List Point) (a b : ℤ) (can : CanBeSwept points) (D : IsDirection a b) (earlier : List ℕ) (A : ArePassed points a b earlier) (p : ℕ) (N : ComesNext points a b earlier p) where
  abbrev Before : ℕ → ℕ → Type 0
  Before r s = ComesBefore a b (point points r) (point points s)

  -- ---- the points that were passed
  pub passed_with : ArePassed points a b (earlier ++ p ∷ [])
  passed_with = record {
    named = λ i h. by_case i (Contains-push_cases earlier p i h);
    ascend = all_pairs_push Before earlier p A.ascend (λ k d l. N.after (get_or earlier k d) (Contains-get_or earlier k d l));
  }
    where
      by_case : (i : ℕ) → Contains earlier i ⊎ (p ≡ i) → i < length points
      by_case i (inl h) = A.named i h
      by_case i (inr e) = subst (λ t. t < length points) e N.named

  module _ (side : Side) (chain : List ℕ) (I : IsBoundary side points a b earlier chain) (k : ℕ) (first : IsFirstSeen side points chain p k) where
    B : Boundary (sided points a b can D side) (sloped points a b can D side) (Contains earlier) (link chain) (length chain)
    B = boundary points a b can D earlier A side chain I

    F : Further (sided points a b can D side) (sloped points a b can D side) (Contains earlier) p
    F = further points a b can D earlier A side p N

    V : Seen (sided points a b can D side) (link chain) (length chain) p k
    V = seen_to points a b can D side chain p k first.seen

    least : (i : ℕ) → Seen (sided points a b can D side) (link chain) (length chain) p i → k ≤ i
    least i v = first.lowest i (seen_from points a b can D side chain p i v)

    within : k < length chain
    within = V.within

    -- what the boundary says of the way from c to d
    record IsEdge (c d : ℕ) : Type 0 where
      pub closed : (s : ℕ) → Contains (earlier ++ p ∷ []) s → ¬ IsOn side points c d s
      pub whole : (s : ℕ) → Contains (earlier ++ p ∷ []) s → turn points c d s ≡ pos 0 → Contains (turned chain k p) s

    p_in : (s : ℕ) → p ≡ s → Contains (turned chain k p) s
    p_in s e = subst (Contains (turned chain k p)) e (Contains-push (take (k + 1) chain) p)

    held : (s : ℕ) → (i : ℕ) × (i ≤ k) × (s ≡ link chain i) → Contains (turned chain k p) s
    held s (i, le, e) = holds_kept chain k p within s i le e

    old_edge : (j : ℕ) → j + 1 ≤ k → IsEdge (link chain j) (link chain (j + 1))
    old_edge j l = record {
      closed = λ s h. closed_by s (Contains-push_cases earlier p s h);
      whole = λ s h e. whole_by s e (Contains-push_cases earlier p s h);
    }
      where
        low : pos 0 ≤ℤ (sided points a b can D side).o (link chain j) (link chain (j + 1)) p
        low = not_right (sided points a b can D side) (sloped points a b can D side) (Contains earlier) (link chain) (length chain) B p F k V least j l

        closed_by : (s : ℕ) → Contains earlier s ⊎ (p ≡ s) → ¬ IsOn side points (link chain j) (link chain (j + 1)) s
        closed_by s (inl h) = I.closed j s (omega (arith, l, within)) h
        closed_by s (inr e) = subst (λ t. ¬ IsOn side points (link chain j) (link chain (j + 1)) t) e (not_on points a b can D side (link chain j) (link chain (j + 1)) p low)

        whole_by : (s : ℕ) → turn points (link chain j) (link chain (j + 1)) s ≡ pos 0 → Contains earlier s ⊎ (p ≡ s) → Contains (turned chain k p) s
        whole_by s e (inl h) = held s (old_kept (sided points a b can D side) (sloped points a b can D side) (Contains earlier) (link chain) (length chain) B p F k V least j s l h (flat_on points a b can D side (link chain j) (link chain (j + 1)) s e))
        whole_by s e (inr f) = p_in s f

    new_edge : IsEdge (link chain k) p
    new_edge = record {
      closed = λ s h. closed_by s (Contains-push_cases earlier p s h);
      whole = λ s h e. whole_by s e (Contains-push_cases earlier p s h);
    }
      where
        itself : pos 0 ≤ℤ (sided points a b can D side).o (link chain k) p p
        itself = zero ((sided points a b can D side).o (link chain k) p p) (flat_last (sided points a b can D side) (link chain k) p)
          where
            zero : (x : ℤ) → x ≡ pos 0 → pos 0 ≤ℤ x
            zero x e = omega (arith, ints, e)

        by_turn : (s : ℕ) → Contains earlier s → (pos 0 ≤ℤ (sided points a b can D side).o (link chain k) p s) × ((sided points a b can D side).o (link chain k) p s ≡ pos 0 → (i : ℕ) × (i ≤ k) × (s ≡ link chain i))
        by_turn s h = turn_side (sided points a b can D side) (sloped points a b can D side) (Contains earlier) (link chain) (length chain) B p F k V least s h

        closed_by : (s : ℕ) → Contains earlier s ⊎ (p ≡ s) → ¬ IsOn side points (link chain k) p s
        closed_by s (inl h) = not_on points a b can D side (link chain k) p s (by_turn s h).0
        closed_by s (inr e) = subst (λ t. ¬ IsOn side points (link chain k) p t) e (not_on points a b can D side (link chain k) p p itself)

        whole_by : (s : ℕ) → turn points (link chain k) p s ≡ pos 0 → Contains earlier s ⊎ (p ≡ s) → Contains (turned chain k p) s
        whole_by s e (inl h) = held s ((by_turn s h).1 (flat_on points a b can D side (link chain k) p s e))
        whole_by s e (inr f) = p_in s f

    edge : (j : ℕ) → j + 1 < length (turned chain k p) → IsEdge (link (turned chain k p) j) (link (turned chain k p) (j + 1))
    edge j l = by_test (ℕ_discrete j k)
      where
        below : j + 1 < k + 2
        below = subst (λ t. j + 1 < t) (turned_count chain k p within) l

        by_test : Dec (j ≡ k) → IsEdge (link (turned chain k p) j) (link (turned chain k p) (j + 1))
        by_test (yes e) = subst₂ IsEdge (sym (kept_link chain k p within j (omega (arith, e)) ∙ ap (link chain) e)) (sym (turn_link chain k p within (j + 1) (omega (arith, e)))) new_edge
        by_test (no ne) = subst₂ IsEdge (sym (kept_link chain k p within j (omega (arith, below)))) (sym (kept_link chain k p within (j + 1) (omega (arith, below, ne)))) (old_edge j (omega (arith, below, ne)))

    some : 0 < length earlier
    some = some_earlier points a b can D earlier A side chain I

    ends_at : (j i : ℕ) → j + 1 ≡ length (turned chain k p) → i + 1 ≡ length (earlier ++ p ∷ []) → link (turned chain k p) j ≡ link (earlier ++ p ∷ []) i
    ends_at j i e f = turn_link chain k p within j (omega (arith, e, turned_count chain k p within)) ∙ sym (get_or_push earlier p 0 i (omega (arith, f, length_push earlier p)))

    in_all : (s : ℕ) → Contains chain s ⊎ (p ≡ s) → Contains (earlier ++ p ∷ []) s
    in_all s (inl h) = Contains-append_left earlier (p ∷ []) s (I.members s h)
    in_all s (inr e) = subst (Contains (earlier ++ p ∷ [])) e (Contains-push earlier p)

    before_p : (i d : ℕ) → i < length (take (k + 1) chain) → Before (get_or (take (k + 1) chain) i d) p
    before_p i d l = N.after (get_or (take (k + 1) chain) i d) (I.members (get_or (take (k + 1) chain) i d) (in_taken (k + 1) chain (get_or (take (k + 1) chain) i d) (Contains-get_or (take (k + 1) chain) i d l)))

    pub boundary_with : IsBoundary side points a b (earlier ++ p ∷ []) (turned chain k p)
    boundary_with = record {
      some = omega (arith, turned_count chain k p within);
      members = λ i h. in_all i (turned_cases chain k p within i h);
      ascends = all_pairs_push Before (take (k + 1) chain) p (pairs_taken Before (k + 1) chain I.ascends) before_p;
      first = kept_link chain k p within 0 (omega arith) ∙ I.first ∙ sym (get_or_append_left earlier (p ∷ []) 0 0 some);
      last = ends_at;
      closed = λ j s l h. (edge j l).closed s h;
      whole = λ j s l h e. (edge j l).whole s h e;
    }

    pub listed_with : (listed : List Pair) (taken : List ℕ) → AreListed listed chain → Contains taken (link chain k) → AreListed (listed ++ pairs_with p taken) (turned chain k p)
    listed_with listed taken L t j l = by_test (ℕ_discrete j k)
      where
        below : j + 1 < k + 2
        below = subst (λ t. j + 1 < t) (turned_count chain k p within) l

        to_p : Contains (listed ++ pairs_with p taken) (record { before = link chain k; joined = p })
        to_p = Contains-append_right listed (pairs_with p taken) (record { before = link chain k; joined = p }) (in_map (λ r. let f : Pair = record { before = r; joined = p } in f) taken (link chain k) t)

        old : j + 1 ≤ k → Contains (listed ++ pairs_with p taken) (record { before = link chain j; joined = link chain (j + 1) })
        old le = Contains-append_left listed (pairs_with p taken) (record { before = link chain j; joined = link chain (j + 1) }) (L j (omega (arith, le, within)))

        by_test : Dec (j ≡ k) → Contains (listed ++ pairs_with p taken) (record { before = link (turned chain k p) j; joined = link (turned chain k p) (j + 1) })
        by_test (yes e) = subst₂ (λ c d. Contains (listed ++ pairs_with p taken) (record { before = c; joined = d })) (sym (kept_link chain k p within j (omega (arith, e)) ∙ ap (link chain) e)) (sym (turn_link chain k p within (j + 1) (omega (arith, e)))) to_p
        by_test (no ne) = subst₂ (λ c d. Contains (listed ++ pairs_with p taken) (record { before = c; joined = d })) (sym (kept_link chain k p within j (omega (arith, below)))) (sym (kept_link chain k p within (j + 1) (omega (arith, below, ne)))) (old (omega (arith, below, ne)))

  -- ---- all together
  module _ (listed : List Pair) (rights lefts : List ℕ) (W : IsSwept points a b earlier listed rights lefts) (i j : ℕ) (taken : List ℕ) (first_right : IsFirstSeen right points rights p i) (first_left : IsFirstSeen left points lefts p j) (K : AreTaken points a b rights i lefts j taken) where
    taken_earlier : (r : ℕ) → Contains taken r → Contains earlier r
    taken_earlier r h = by_sound (K.sound r h)
      where
        by_sound : ((k : ℕ) × (i ≤ k) × (k < length rights) × (r ≡ link rights k)) ⊎ ((k : ℕ) × (j ≤ k) × (k < length lefts) × (r ≡ link lefts k)) → Contains earlier r
        by_sound (inl (k, le, l, e)) = subst (Contains earlier) (sym e) (W.on_right.members (link rights k) (Contains-get_or rights k 0 l))
        by_sound (inr (k, le, l, e)) = subst (Contains earlier) (sym e) (W.on_left.members (link lefts k) (Contains-get_or lefts k 0 l))

    among : AreAmong (listed ++ pairs_with p taken) (earlier ++ p ∷ [])
    among f h = by_case (Contains-append_cases listed (pairs_with p taken) f h)
      where
        old : (r : ℕ) → Contains earlier r → Contains (earlier ++ p ∷ []) r
        old r m = Contains-append_left earlier (p ∷ []) r m

        by_pair : (r : ℕ) × Contains taken r × ((let g : Pair = record { before = r; joined = p } in g) ≡ f) → Contains (earlier ++ p ∷ []) f.before × Contains (earlier ++ p ∷ []) f.joined
        by_pair (r, m, e) = (
          subst (Contains (earlier ++ p ∷ [])) (ap (λ (g : Pair). g.before) e) (old r (taken_earlier r m)),
          subst (Contains (earlier ++ p ∷ [])) (ap (λ (g : Pair). g.joined) e) (Contains-push earlier p),
        )

        by_case : Contains listed f ⊎ Contains (pairs_with p taken) f → Contains (earlier ++ p ∷ []) f.before × Contains (earlier ++ p ∷ []) f.joined
        by_case (inl m) = let e = W.among f m in (old f.before e.0, old f.joined e.1)
        by_case (inr m) = by_pair (from_map (λ r. let g : Pair = record { before = r; joined = p } in g) taken f m)

    pub swept_with : IsSwept points a b (earlier ++ p ∷ []) (listed ++ pairs_with p taken) (turned rights i p) (turned lefts j p)
    swept_with = record {
      passed = passed_with;
      among = among;
      on_right = boundary_with right rights W.on_right i first_right;
      on_left = boundary_with left lefts W.on_left j first_left;
      rights_listed = listed_with right rights W.on_right i first_right listed taken W.rights_listed (K.rights_in i (omega arith) first_right.seen.within);
      lefts_listed = listed_with left lefts W.on_left j first_left listed taken W.lefts_listed (K.lefts_in j (omega arith) first_left.seen.within);
    }
