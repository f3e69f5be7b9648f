-- Which edges a round of a descent has to look at: each that flips to one which fewer members of the centre cross. Of the others it takes none.
use Rattle.std.proofs.Common.{◌≡◌, ◌⊎◌, inl, inr, ◌∙◌, ℕ, zero, suc, ◌<◌, Bool, true, false, cond, ◌&&◌, Option, Some, None, List, [], ◌∷◌, Contains, refl, sym, ap, ap₂, subst, subst₂, arith, lt-ltb, ltb-true}
use Rattle.std.specs.Prelude.{nat_lt, filter}
use Rattle.std.proofs.lemmas.List.Kept.{AllPairs-filter}
use Rattle.geo_orient.specs.declared.Point.{Point}
use Rattle.edge_table.specs.declared.edge.Edge.{Edge}
use Rattle.edge_table.specs.Edges.{IsBefore, IsAscending}
use Rattle.edge_table.proofs.Edges.{contains_here, contains_later, contains_cases}
use Rattle.edge_table.proofs.Ascending.{same_members}
use Rattle.tri_theory.specs.Points.{ArePlaced}
use Rattle.tri_theory.specs.Triangulations.{IsTriangulation}
use Rattle.tri_theory.specs.Flips.{FlipsTo}
use Rattle.tri_theory.specs.Crossings.{crossings}
use Rattle.tri_theory.specs.Rounds.{IsRound}
use Rattle.tri_theory.proofs.Lists.{one_image_of}
use Rattle.tri_theory.proofs.Schedules.{next_triangulation}
use Rattle.crossing_law.proofs.Counts.{filter_keeps}
use Rattle.crossing_law.proofs.Proved.{members_are_uncrossed}
use Rattle.flip_list_law.specs.declared.Flip.{Flip}
use Rattle.flip_list_law.specs.FlipLists.{Triangle, one_side, other_side, flipped_edges}
use Rattle.replay.specs.Independent.{ShareTriangle}
use Rattle.plan_law.specs.Images.{image_of, after_flips}
use Rattle.plan_law.specs.Improvers.{is_free, greedy, greedy_round}
use Rattle.plan_law.proofs.Improvers.{HasSide, edge_source}
use Rattle.plan_law.proofs.Replays.{sides_of}
use Rattle.plan_law.proofs.Proved.{images_are_found, greedy_rounds}
use Rattle.plan_moves.specs.Rounds.{HasEachLower, HasEachNeighbour}
use Rattle.plan_moves.proofs.GreedyRounds.{SharesWith, free_or, edge_listed, shared}
use Rattle.plan_moves.proofs.Neighbours.{IsNew, IsBeside, flips_after, flips_back}

in_filter : (test : Edge → Bool) (es : List Edge) (e : Edge) → Contains (filter test es) e → Contains es e × (test e ≡ true)
in_filter test [] e (k, l, h) = absurd (omega arith)
in_filter test (d ∷ es) e h = by_test (test d) refl h (λ k. in_filter test es e k)
  where
    first : test d ≡ true → (d ≡ e) ⊎ Contains (filter test es) e → (Contains (filter test es) e → Contains es e × (test e ≡ true)) → Contains (d ∷ es) e × (test e ≡ true)
    first t (inl i) again = (contains_here e d es i, subst (λ x. test x ≡ true) i t)
    first t (inr k) again = let r = again k in (contains_later e d es r.0, r.1)

    by_test : (b : Bool) → test d ≡ b → Contains (cond b (d ∷ filter test es) (filter test es)) e → (Contains (filter test es) e → Contains es e × (test e ≡ true)) → Contains (d ∷ es) e × (test e ≡ true)
    by_test true t k again = first t (contains_cases e d (filter test es) k) again
    by_test false t k again = let r = again k in (contains_later e d es r.0, r.1)

module _ (points : List Point) (P : ArePlaced points) (T : List Edge) (I : IsTriangulation points T) (centre : List Edge) where
  abbrev weight : Edge → ℕ
  weight = crossings points centre

  abbrev made : Edge → Edge → Flip
  made e f = record { edge = e; image = f }

  -- whether e flips to an edge of less weight, by its image
  abbrev lower_at : Edge → Option Edge → Bool
  lower_at e r = elim r [ Some f ↦ nat_lt (weight f) (weight e) | None ↦ false ]

  abbrev lower : Edge → Bool
  lower e = lower_at e (image_of points T e)

  lower_means : (e : Edge) → lower e ≡ true → (f : Edge) × FlipsTo points T e f × (weight f < weight e)
  lower_means e h = by_image (image_of points T e) refl h
    where
      by_image : (r : Option Edge) → image_of points T e ≡ r → lower_at e r ≡ true → (f : Edge) × FlipsTo points T e f × (weight f < weight e)
      by_image None i k = absurd (cc)
      by_image (Some f) i k = (f, (images_are_found points T e f P I).0 i, ltb-true (weight f) (weight e) k)

  -- what is taken from an edge on, by its image
  abbrev taken_at : List Triangle → Edge → List Edge → Option Edge → List Flip
  taken_at used e es r = elim r [
    | Some f ↦ cond (nat_lt (weight f) (weight e) && is_free used (made e f)) (made e f ∷ greedy points weight T (one_side (made e f) ∷ other_side (made e f) ∷ used) es) (greedy points weight T used es)
    | None ↦ greedy points weight T used es
  ]

  -- at an edge that flips to one of less weight
  lower_taken : (used : List Triangle) (e f : Edge) (es : List Edge) → image_of points T e ≡ Some f → nat_lt (weight f) (weight e) ≡ true
      → greedy points weight T used (e ∷ es) ≡ cond (is_free used (made e f)) (made e f ∷ greedy points weight T (one_side (made e f) ∷ other_side (made e f) ∷ used) es) (greedy points weight T used es)
  lower_taken used e f es i j =
      ap (taken_at used e es) i
      ∙ ap (λ v. cond (v && is_free used (made e f)) (made e f ∷ greedy points weight T (one_side (made e f) ∷ other_side (made e f) ∷ used) es) (greedy points weight T used es)) j

  -- the others can be left out
  over_lower : (es : List Edge) (used : List Triangle) → greedy points weight T used es ≡ greedy points weight T used (filter lower es)
  over_lower [] used = refl
  over_lower (e ∷ es) used = by_image (image_of points T e) refl (λ used. over_lower es used)
    where
      Again : Type 0
      Again = (used : List Triangle) → greedy points weight T used es ≡ greedy points weight T used (filter lower es)

      by_image : (r : Option Edge) → image_of points T e ≡ r → Again → taken_at used e es r ≡ greedy points weight T used (cond (lower_at e r) (e ∷ filter lower es) (filter lower es))
      by_image None i again = again used
      by_image (Some f) i again = by_test (nat_lt (weight f) (weight e)) refl
        where
          by_test : (b : Bool) → nat_lt (weight f) (weight e) ≡ b
              → cond (b && is_free used (made e f)) (made e f ∷ greedy points weight T (one_side (made e f) ∷ other_side (made e f) ∷ used) es) (greedy points weight T used es) ≡ greedy points weight T used (cond b (e ∷ filter lower es) (filter lower es))
          by_test false j = again used
          by_test true j =
              ap₂ (cond (is_free used (made e f))) (ap (λ G. made e f ∷ G) (again (one_side (made e f) ∷ other_side (made e f) ∷ used))) (again used)
              ∙ sym (lower_taken used e f (filter lower es) i j)

  -- the round takes what it would take of all edges
  pub over_candidates : (candidates : List Edge) → IsAscending candidates → HasEachLower points centre T candidates → greedy_round points centre T ≡ greedy points (crossings points centre) T [] candidates
  over_candidates candidates up H = over_lower T [] ∙ (ap (greedy points weight T []) same ∙ sym (over_lower candidates []))
    where
      to : (e : Edge) → Contains T e × (lower e ≡ true) → Contains (filter lower candidates) e
      to e (c, l) = let m = lower_means e l in filter_keeps lower candidates e (H e m.0 m.1 m.2) l

      member : (e f : Edge) → FlipsTo points T e f → Contains T e
      member e f (a, b, c, d, he, hf, q) = subst (Contains T) (sym he) q.left.ab

      from : (e : Edge) → Contains candidates e × (lower e ≡ true) → Contains (filter lower T) e
      from e (c, l) = let m = lower_means e l in filter_keeps lower T e (member e m.0 m.1) l

      same : filter lower T ≡ filter lower candidates
      same =
          same_members (filter lower T) (filter lower candidates) (AllPairs-filter IsBefore lower T I.ascending) (AllPairs-filter IsBefore lower candidates up)
          (λ e. (λ h. to e (in_filter lower T e h), λ h. from e (in_filter lower candidates e h)))

  -- ---- what is taken flips to an edge of less weight
  abbrev Lowers : Flip → Type 0
  Lowers g = FlipsTo points T g.edge g.image × (weight g.image < weight g.edge)

  taken_lower : (es : List Edge) (used : List Triangle) (g : Flip) → Contains (greedy points weight T used es) g → Lowers g
  taken_lower [] used g (k, l, h) = absurd (omega arith)
  taken_lower (e ∷ es) used g h = by_image (image_of points T e) refl h (λ used k. taken_lower es used g k)
    where
      Again : Type 0
      Again = (used : List Triangle) → Contains (greedy points weight T used es) g → Lowers g

      by_image : (r : Option Edge) → image_of points T e ≡ r → Contains (taken_at used e es r) g → Again → Lowers g
      by_image None i k again = again used k
      by_image (Some f) i k again = by_tests (nat_lt (weight f) (weight e)) (is_free used (made e f)) refl k
        where
          by_tests : (a b : Bool) → nat_lt (weight f) (weight e) ≡ a
              → Contains (cond (a && b) (made e f ∷ greedy points weight T (one_side (made e f) ∷ other_side (made e f) ∷ used) es) (greedy points weight T used es)) g → Lowers g
          by_tests true true j (zero, l, x) = subst Lowers x ((images_are_found points T e f P I).0 i, ltb-true (weight f) (weight e) j)
          by_tests true true j (suc k, l, x) = again (one_side (made e f) ∷ other_side (made e f) ∷ used) (k, omega arith, x)
          by_tests true false j k = again used k
          by_tests false b j k = again used k

  pub round_lower : (g : Flip) → Contains (greedy_round points centre T) g → FlipsTo points T g.edge g.image × (crossings points centre g.image < crossings points centre g.edge)
  round_lower g c = taken_lower T [] g c

  -- ---- an edge that flips to one of less weight is taken, or shares a triangle with one that is taken
  abbrev Meets : List Flip → List Flip → Flip → Type 0
  Meets F G flip = (g : Flip) × (Contains F g ⊎ Contains G g) × ((t : Triangle) × HasSide g t × HasSide flip t)

  abbrev Chosen : List Flip → List Flip → Flip → Type 0
  Chosen F G flip = Contains (flipped_edges G) flip.edge ⊎ Meets F G flip

  taken_or_meets : (es : List Edge) (F : List Flip) (e f : Edge) → Contains es e → image_of points T e ≡ Some f → nat_lt (weight f) (weight e) ≡ true → Chosen F (greedy points weight T (sides_of F) es) (made e f)
  taken_or_meets [] F e f (k, l, h) i j = absurd (omega arith)
  taken_or_meets (d ∷ es) F e f h i j = by_place (contains_cases e d es h) (λ F k. taken_or_meets es F e f k i j)
    where
      Again : Type 0
      Again = (F : List Flip) → Contains es e → Chosen F (greedy points weight T (sides_of F) es) (made e f)

      here : Chosen F (greedy points weight T (sides_of F) (e ∷ es)) (made e f)
      here = by_free (free_or F (made e f))
        where
          by_free : (is_free (sides_of F) (made e f) ≡ true) ⊎ SharesWith F (made e f) → Chosen F (greedy points weight T (sides_of F) (e ∷ es)) (made e f)
          by_free (inl k) =
              subst (λ G. Chosen F G (made e f))
              (sym (lower_taken (sides_of F) e f es i j ∙ ap (λ v. cond v (made e f ∷ greedy points weight T (sides_of (made e f ∷ F)) es) (greedy points weight T (sides_of F) es)) k))
              (inl (contains_here e e (flipped_edges (greedy points weight T (sides_of (made e f ∷ F)) es)) refl))
          by_free (inr (g, c, s)) = inr (g, inl c, s)

      deeper : (flip : Flip) (G : List Flip) → Chosen (flip ∷ F) G (made e f) → Chosen F (flip ∷ G) (made e f)
      deeper flip G (inl c) = inl (contains_later e flip.edge (flipped_edges G) c)
      deeper flip G (inr (g, inl (zero, l, x), s)) = inr (g, inr (zero, omega arith, x), s)
      deeper flip G (inr (g, inl (suc k, l, x), s)) = inr (g, inl (k, omega arith, x), s)
      deeper flip G (inr (g, inr (k, l, x), s)) = inr (g, inr (suc k, omega arith, x), s)

      by_image : (r : Option Edge) → Contains es e → Again → Chosen F (taken_at (sides_of F) d es r) (made e f)
      by_image None k again = again F k
      by_image (Some f') k again = by_tests (nat_lt (weight f') (weight d)) (is_free (sides_of F) (made d f'))
        where
          by_tests : (a b : Bool) → Chosen F (cond (a && b) (made d f' ∷ greedy points weight T (sides_of (made d f' ∷ F)) es) (greedy points weight T (sides_of F) es)) (made e f)
          by_tests true true = deeper (made d f') (greedy points weight T (sides_of (made d f' ∷ F)) es) (again (made d f' ∷ F) k)
          by_tests true false = again F k
          by_tests false b = again F k

      by_place : (d ≡ e) ⊎ Contains es e → Again → Chosen F (greedy points weight T (sides_of F) (d ∷ es)) (made e f)
      by_place (inl x) again = subst (λ d. Chosen F (greedy points weight T (sides_of F) (d ∷ es)) (made e f)) (sym x) here
      by_place (inr k) again = by_image (image_of points T d) k again

  -- ---- after the round
  abbrev G : List Flip
  G = greedy_round points centre T

  abbrev F : List Edge
  F = flipped_edges G

  abbrev U : List Edge
  U = after_flips T G

  R : IsRound points T F U
  R = (greedy_rounds points centre T P I).0

  I' : IsTriangulation points U
  I' = next_triangulation points P T F U I R

  -- an image is crossed by fewer members of the centre than the edge to which it flips
  image_lower : (g e f : Edge) → Contains F g → FlipsTo points T g e → FlipsTo points U e f → weight f < weight e → ⊥
  image_lower g e f k i h l = by_source (edge_source points P T I G g k)
    where
      back : f ≡ g
      back = one_image_of points P U I' e f g h (flips_back points P T F U I R g e k i)

      by_source : (flip : Flip) × Contains G flip × (flip.edge ≡ g) → ⊥
      by_source (flip, c, x) =
          let r = round_lower flip c in
          let y : flip.image ≡ e = one_image_of points P T I g flip.image e (subst (λ d. FlipsTo points T d flip.image) x r.0) i in
          let m : weight e < weight g = subst₂ (λ d b. weight d < weight b) y x r.1 in
          let n : weight g < weight e = subst (λ d. weight d < weight e) back l in
          omega (arith, m, n)

  -- the sides of its quadrilaterals are candidates enough
  pub next_candidates : (neighbours : List Edge) → HasEachNeighbour points T (flipped_edges (greedy_round points centre T)) neighbours → HasEachLower points centre (after_flips T (greedy_round points centre T)) neighbours
  next_candidates neighbours H e f h l = by_cases (flips_after points P T F U I R e f h)
    where
      by_taken : ¬ Contains F e → FlipsTo points T e f → Chosen [] G (made e f) → Contains neighbours e
      by_taken n i (inl c) = absurd (n c)
      by_taken n i (inr (g, inl (k, m, x), s)) = absurd (omega arith)
      by_taken n i (inr (g, inr c, (t, s, s'))) =
          H g.edge e (edge_listed G g c) (swapped (shared points P T I (made e f) g t i (round_lower g c).0 s s')) (λ x. n (subst (Contains F) (sym x) (edge_listed G g c)))
        where
          swapped : ShareTriangle points T e g.edge → ShareTriangle points T g.edge e
          swapped (a, b, c, t, s, s') = (a, b, c, t, s', s)

      by_old : ¬ Contains F e → FlipsTo points T e f → Contains neighbours e
      by_old n (a, b, c, d, he, hf, q) =
          by_taken n (a, b, c, d, he, hf, q)
          (taken_or_meets T [] e f (subst (Contains T) (sym he) q.left.ab) ((images_are_found points T e f P I).1 (a, b, c, d, he, hf, q)) (lt-ltb (weight f) (weight e) l))

      by_cases : IsNew points P T F U I R e ⊎ ((¬ Contains F e) × (IsBeside points P T F U I R e ⊎ FlipsTo points T e f)) → Contains neighbours e
      by_cases (inl (g, k, i)) = absurd (image_lower g e f k i h l)
      by_cases (inr (n, inl (g, k, s))) = H g e k s (λ x. n (subst (Contains F) (sym x) k))
      by_cases (inr (n, inr i)) = by_old n i

-- at the centre nothing is taken
pub none_at_centre : (points : List Point) → ArePlaced points → (T : List Edge) → IsTriangulation points T → greedy_round points T T ≡ []
none_at_centre points P T I = by_round (greedy_round points T T) (λ g c. round_lower points P T I T g c)
  where
    by_round : (G : List Flip) → ((g : Flip) → Contains G g → FlipsTo points T g.edge g.image × (crossings points T g.image < crossings points T g.edge)) → G ≡ []
    by_round [] low = refl
    by_round (flip ∷ flips) low = by_flip (low flip (0, omega arith, refl))
      where
        by_flip : FlipsTo points T flip.edge flip.image × (crossings points T flip.image < crossings points T flip.edge) → flip ∷ flips ≡ []
        by_flip ((a, b, c, d, he, hf, q), l) = let z = members_are_uncrossed points T flip.edge I (subst (Contains T) (sym he) q.left.ab) in absurd (omega (arith, z, l))
