-- The flips of a schedule's rounds, in order, are a flip list with the same end, and it needs no more rounds.
use Rattle.std.proofs.Common.{◌≡◌, ◌≢◌, ◌⊎◌, inl, inr, ◌↔◌, ℕ, suc, ◌+◌, ◌<◌, ◌≤◌, max, Bool, true, false, cond, List, [], ◌∷◌, ◌++◌, length, Contains, AllPairs, refl, sym, ap, ap₂, ◌∙◌, subst, arith}
use Rattle.geo_orient.specs.declared.Point.{Point}
use Rattle.tri_theory.specs.Points.{ArePlaced}
use Rattle.edge_table.specs.declared.edge.Edge.{Edge}
use Rattle.edge_table.specs.Edges.{edge}
use Rattle.tri_theory.specs.Triangulations.{AreJoined, IsEmptyTriangle, IsTriangulation}
use Rattle.tri_theory.specs.Flips.{FlipsTo}
use Rattle.tri_theory.specs.Rounds.{IsRound, IsSchedule}
use Rattle.flip_list_law.specs.declared.Flip.{Flip}
use Rattle.flip_list_law.specs.FlipLists.{Leads, IsFlipList, Triangle, triangle, one_side, other_side, makes, rounds_before, number_after, numbers_from, last_numbers_from, greatest, flipped_edges, in_turn}
use Rattle.tri_theory.proofs.Plane.{Plane}
use Rattle.tri_theory.proofs.Net.{Tri}
use Rattle.tri_theory.proofs.Flip.{Quad, Swapped, Same, turn_tri}
use Rattle.tri_theory.proofs.Round.{In, Image, Round, rest}
use Rattle.edge_table.proofs.Edges.{edge_swap, edge_of, contains_here, contains_later}
use Rattle.tri_theory.proofs.Lists.{plane, tri_to, tri_from, net_of, quad_from, one_image_of}
use Rattle.edge_table.proofs.Ascending.{same_members}
use Rattle.tri_theory.proofs.Schedules.{in_to, in_from, round_to, next_triangulation}
use Rattle.flip_list_law.proofs.Triangles.{triangle_swap, side_of, Makes, makes_means, taken, made, Either}
use Rattle.flip_list_law.proofs.FlipSets.{flip_unique, flip_triangulation, flip_from, image_is_new, triangulation_ordered, round_ordered, round_member_of, round_from, swapped_of}
use Rattle.flip_list_law.proofs.Grouping.{EachRound, AreBounded, counted, stood_before}
use Rattle.flip_list_law.proofs.FlipLists.{list_append, numbers-append, made-append, greatest-append}

-- ---- a round from the same pairs, said in another way
same_start : (S : Plane) (L M F K : ℕ → ℕ → Type 0) → ((x y : ℕ) → L x y ↔ M x y) → Round S L F K → Round S M F K
same_start S L M F K is R = record {
  flips = λ f. flip_by (R.flips f);
  apart = λ t f g. R.apart (tri M L (λ x y. (is x y).1) t) f g;
  split = λ k. split_by (R.split k);
  joins = λ h. join_by h;
}
  where
    tri : (A B : ℕ → ℕ → Type 0) → ((x y : ℕ) → A x y → B x y) → {x y z : ℕ} → Tri S A x y z → Tri S B x y z
    tri A B to {x} {y} {z} t = record { turns = t.turns; ab = to x y t.ab; bc = to y z t.bc; ca = to z x t.ca; empty = t.empty }

    quad : (A B : ℕ → ℕ → Type 0) → ((x y : ℕ) → A x y → B x y) → {a b c d : ℕ} → Quad S A a b c d → Quad S B a b c d
    quad A B to q = record { right = tri A B to q.right; over = tri A B to q.over; at_a = q.at_a; at_c = q.at_c }

    flip_by : {x y : ℕ} → (b d : ℕ) × Quad S L x b y d → (b d : ℕ) × Quad S M x b y d
    flip_by (b, d, q) = (b, d, quad L M (λ x y. (is x y).0) q)

    split_by : {x y : ℕ} → (L x y × ¬ F x y) ⊎ Image S L F x y → (M x y × ¬ F x y) ⊎ Image S M F x y
    split_by {x} {y} (inl h) = inl ((is x y).0 h.0, h.1)
    split_by (inr (a, b, c, d, f, q, s)) = inr (a, b, c, d, f, quad L M (λ x y. (is x y).0) q, s)

    join_by : {x y : ℕ} → (M x y × ¬ F x y) ⊎ Image S M F x y → K x y
    join_by {x} {y} (inl h) = R.joins (inl ((is x y).1 h.0, h.1))
    join_by (inr (a, b, c, d, f, q, s)) = R.joins (inr (a, b, c, d, f, quad M L (λ x y. (is x y).1) q, s))

-- ---- lists without repeats
abbrev pub HasNoRepeats : List Edge → Type 0
HasNoRepeats es = AllPairs (λ e f. e ≢ f) es

no_repeats_head : (e : Edge) (es : List Edge) → HasNoRepeats (e ∷ es) → ¬ Contains es e
no_repeats_head e es up (k, l, h) = up 0 (suc k) e (omega arith) (omega arith) (sym h)

no_repeats_tail : (e : Edge) (es : List Edge) → HasNoRepeats (e ∷ es) → HasNoRepeats es
no_repeats_tail e es up i j d h k = up (suc i) (suc j) d (omega arith) (omega arith)

module _ (points : List Point) (P : ArePlaced points) where
  abbrev S : Plane
  S = plane points P

  -- ---- the first flip of a round
  pub record FirstFlip (T : List Edge) (e : Edge) (F U : List Edge) : Type 0 where
    pub flip : Flip
    pub next : List Edge
    pub of_edge : flip.edge ≡ e
    pub is_flip : Leads points T flip next
    pub is_round : IsRound points next F U

  pub first_flip : (T : List Edge) (e : Edge) (F U : List Edge) → IsTriangulation points T → IsRound points T (e ∷ F) U → ¬ Contains F e → FirstFlip T e F U
  first_flip T e F U I R fresh = by_quad (round.flips (inl (inl (refl, refl))))
    where
      J : ℕ → ℕ → Type 0
      J = AreJoined T

      round : Round S J (In (e ∷ F)) (AreJoined U)
      round = round_to points P T (e ∷ F) U I R

      ordered : (f : Edge) → Contains (e ∷ F) f → f.0 < f.1
      ordered = round_ordered points P T (e ∷ F) U I R

      e_of : edge e.0 e.1 ≡ e
      e_of = edge_of e (ordered e (contains_here e e F refl))

      f_ordered : (f : Edge) → Contains F f → f.0 < f.1
      f_ordered f h = ordered f (contains_later f e F h)

      by_quad : (b d : ℕ) × Quad S J e.0 b e.1 d → FirstFlip T e F U
      by_quad (b, d, q) = by_flip (flip_from points P T flip I (e.0, b, e.1, d, sym e_of, refl, quad_from points P T e.0 b e.1 d q))
        where
          flip : Flip
          flip = record { edge = e; image = edge b d }

          by_flip : (next : List Edge) × Leads points T flip next → FirstFlip T e F U
          by_flip (next, X) = record {
            flip = flip;
            next = next;
            of_edge = refl;
            is_flip = X;
            is_round = round_from points P next F U (In F) (λ x y. (in_to F f_ordered x y, in_from F f_ordered x y))
                (triangulation_ordered points P next (flip_triangulation points P T next flip I X)) f_ordered
                (triangulation_ordered points P U (next_triangulation points P T (e ∷ F) U I R)) R.ascending
                (same_start S (λ x y. (J x y × ¬ Same e.0 e.1 x y) ⊎ Same b d x y) (AreJoined next) (In F) (AreJoined U) (λ x y. (λ h. to x y h, λ k. w.split k))
                (rest S J (AreJoined U) (net_of points P T I) e.0 e.1 F round (λ k. fresh (subst (Contains F) e_of (in_from F f_ordered e.0 e.1 k))) b d q));
          }
            where
              w : Swapped J (AreJoined next) e.0 b e.1 d
              w = swapped_of points P T next flip e.0 b e.1 d (record { ends = sym e_of; image_ends = refl }) X

              to : (x y : ℕ) → (J x y × ¬ Same e.0 e.1 x y) ⊎ Same b d x y → AreJoined next x y
              to x y (inl h) = w.old h.0 h.1
              to x y (inr s) = w.new s

  -- the empty round leads nowhere
  stays_put : (T U : List Edge) → IsTriangulation points T → IsRound points T [] U → T ≡ U
  stays_put T U I R = same_members T U I.ascending R.ascending (λ e. (λ h. (R.members e).1 (inl (h, none e)), λ h. by_cases e ((R.members e).0 h)))
    where
      none : (e : Edge) → ¬ Contains [] e
      none e (k, l, h) = omega arith

      by_cases : (e : Edge) → (Contains T e × ¬ Contains [] e) ⊎ ((g : Edge) × Contains [] g × FlipsTo points T g e) → Contains T e
      by_cases e (inl h) = h.0
      by_cases e (inr (g, h, k)) = absurd (none g h)

  -- the triangles at the edges of a round count at most r
  abbrev pub RoundBound : (Triangle → ℕ) → ℕ → List Edge → List Edge → Type 0
  RoundBound number_of r T F = (x y z : ℕ) → IsEmptyTriangle points T x y z → Contains F (edge x y) → number_of (triangle x y z) ≤ r

  turn_empty : (T : List Edge) (x y z : ℕ) → IsEmptyTriangle points T x y z → IsEmptyTriangle points T y z x
  turn_empty T x y z t = tri_from points P T y z x (turn_tri S (AreJoined T) (tri_to points P T x y z t))

  -- the number of a round's first flip, and what holds for the others after it
  pub record StepBound (number_of : Triangle → ℕ) (r : ℕ) (flip : Flip) (next F : List Edge) : Type 0 where
    pub before : rounds_before number_of flip ≤ r
    pub others : RoundBound (number_after number_of flip) r next F

  step_bound : (number_of : Triangle → ℕ) (r : ℕ) (T : List Edge) (flip : Flip) (F U next : List Edge) → IsTriangulation points T → IsRound points T (flip.edge ∷ F) U → Leads points T flip next → RoundBound number_of r T (flip.edge ∷ F) → StepBound number_of r flip next F
  step_bound number_of r T flip F U next I R X up = by_flip X.flips
    where
      by_flip : FlipsTo points T flip.edge flip.image → StepBound number_of r flip next F
      by_flip (a, b, c, d, he, hf, q) = record { before = low (taken flip a b c d he hf); others = λ x y z t h. by_test x y z t h (makes flip (triangle x y z)) refl }
        where
          here : (x y : ℕ) → edge x y ≡ flip.edge → AreJoined (flip.edge ∷ F) x y
          here x y e = contains_here (edge x y) flip.edge F (sym e)

          later : {e : Edge} → Contains F e → Contains (flip.edge ∷ F) e
          later {e} h = contains_later e flip.edge F h

          acd : number_of (triangle a c d) ≤ r
          acd = up a c d q.left (here a c (sym he))

          cab : IsEmptyTriangle points T c a b
          cab = turn_empty T b c a (turn_empty T a b c q.right)

          acb : number_of (triangle a c b) ≤ r
          acb = subst (λ t. number_of t ≤ r) (triangle_swap c a b) (up c a b cab (here c a (edge_swap c a ∙ sym he)))

          low : Either (one_side flip) (other_side flip) (triangle a c b) (triangle a c d) → rounds_before number_of flip ≤ r
          low (inl s) =
              let one = subst (λ t. number_of t ≤ r) (sym s.0) acb in let other = subst (λ t. number_of t ≤ r) (sym s.1) acd in
              omega (arith, one, other)
          low (inr s) =
              let one = subst (λ t. number_of t ≤ r) (sym s.0) acd in let other = subst (λ t. number_of t ≤ r) (sym s.1) acb in
              omega (arith, one, other)

          -- no other edge of the round is a side of the quadrilateral, or the image
          not_image : ¬ Contains F (edge b d)
          not_image h = image_is_new points P T flip I X.flips (round_member_of points P T (flip.edge ∷ F) U R flip.image (later (subst (Contains F) (sym hf) h)))

          not_da : ¬ Contains F (edge d a)
          not_da h = R.apart d a c (turn_empty T c d a (turn_empty T a c d q.left)) (later h) (here a c (sym he))

          not_ab : ¬ Contains F (edge a b)
          not_ab h = R.apart c a b cab (here c a (edge_swap c a ∙ sym he)) (later h)

          not_dc : ¬ Contains F (edge d c)
          not_dc h = R.apart a c d q.left (here a c (sym he)) (later (subst (Contains F) (edge_swap d c) h))

          not_cb : ¬ Contains F (edge c b)
          not_cb h = R.apart b c a (turn_empty T a b c q.right) (later (subst (Contains F) (edge_swap c b) h)) (here c a (edge_swap c a ∙ sym he))

          not_made : (x y z : ℕ) → Contains F (edge x y) → (triangle x y z ≡ triangle b d a) ⊎ (triangle x y z ≡ triangle b d c) → ⊥
          not_made x y z h (inl e) = by_side (side_of x y z b d a e)
            where
              by_side : (edge x y ≡ edge b d) ⊎ ((edge x y ≡ edge d a) ⊎ (edge x y ≡ edge a b)) → ⊥
              by_side (inl i) = not_image (subst (Contains F) i h)
              by_side (inr (inl i)) = not_da (subst (Contains F) i h)
              by_side (inr (inr i)) = not_ab (subst (Contains F) i h)
          not_made x y z h (inr e) = by_side (side_of x y z b d c e)
            where
              by_side : (edge x y ≡ edge b d) ⊎ ((edge x y ≡ edge d c) ⊎ (edge x y ≡ edge c b)) → ⊥
              by_side (inl i) = not_image (subst (Contains F) i h)
              by_side (inr (inl i)) = not_dc (subst (Contains F) i h)
              by_side (inr (inr i)) = not_cb (subst (Contains F) i h)

          not_makes : (x y z : ℕ) → Contains F (edge x y) → ¬ Makes flip (triangle x y z)
          not_makes x y z h m = not_made x y z h ((made flip a b c d he hf (triangle x y z)).0 m)

          by_test : (x y z : ℕ) → IsEmptyTriangle points next x y z → Contains F (edge x y) → (test : Bool) → makes flip (triangle x y z) ≡ test → cond test (suc (rounds_before number_of flip)) (number_of (triangle x y z)) ≤ r
          by_test x y z t h true e = absurd (not_makes x y z h (makes_means flip (triangle x y z) e))
          by_test x y z t h false e = up x y z (stood_before points P T next flip I X x y z t (not_makes x y z h)).0 (later h)

  -- the flips of one round
  pub record FlipsOf (edges T U : List Edge) (number_of : Triangle → ℕ) (n : ℕ) : Type 0 where
    pub flips : List Flip
    pub edges_are : flipped_edges flips ≡ edges
    pub leads : IsFlipList points T flips U
    pub numbers_bounded : greatest (numbers_from number_of flips) ≤ n
    pub made_bounded : AreBounded (last_numbers_from number_of flips) n

  pub flips_of_round : (F T U : List Edge) (number_of : Triangle → ℕ) (r : ℕ) → IsTriangulation points T → IsRound points T F U → HasNoRepeats F → AreBounded number_of (suc r) → RoundBound number_of r T F → FlipsOf F T U number_of (suc r)
  flips_of_round [] T U number_of r I R ne up round_up = record { flips = []; edges_are = refl; leads = stays_put T U I R; numbers_bounded = omega arith; made_bounded = up }
  flips_of_round (e ∷ F) T U number_of r I R ne up round_up =
      by_first (first_flip T e F U I R (no_repeats_head e F ne))
      (λ next J R' number_of up round_up. flips_of_round F next U number_of r J R' (no_repeats_tail e F ne) up round_up)
    where
      by_first : FirstFlip T e F U → ((next : List Edge) → IsTriangulation points next → IsRound points next F U → (number_of : Triangle → ℕ) → AreBounded number_of (suc r) → RoundBound number_of r next F → FlipsOf F next U number_of (suc r)) → FlipsOf (e ∷ F) T U number_of (suc r)
      by_first f again = record {
        flips = f.flip ∷ m.flips;
        edges_are = ap₂ ◌∷◌ f.of_edge m.edges_are;
        leads = (f.next, f.is_flip, m.leads);
        numbers_bounded = join _ _ _ s.before m.numbers_bounded;
        made_bounded = m.made_bounded;
      }
        where
          join : (k g r : ℕ) → k ≤ r → g ≤ suc r → max (suc k) g ≤ suc r
          join k g r h l = omega arith

          s : StepBound number_of r f.flip f.next F
          s = step_bound number_of r T f.flip F U f.next I (subst (λ g. IsRound points T (g ∷ F) U) (sym f.of_edge) R) f.is_flip (subst (λ g. RoundBound number_of r T (g ∷ F)) (sym f.of_edge) round_up)

          m : FlipsOf F f.next U (number_after number_of f.flip) (suc r)
          m = again f.next (flip_triangulation points P T f.next f.flip I f.is_flip) f.is_round (number_after number_of f.flip)
              (λ t. counted (makes f.flip t) _ _ (suc r) (let b = s.before in omega (arith, b)) (up t)) s.others

  map-append : (flips more : List Flip) → flipped_edges (flips ++ more) ≡ flipped_edges flips ++ flipped_edges more
  map-append [] more = refl
  map-append (flip ∷ flips) more = ap (λ es. flip.edge ∷ es) (map-append flips more)

  -- the flips of a round, and then those of the rounds after it
  both_flips : (round : List Edge) (rounds : List (List Edge)) (A next B : List Edge) (number_of : Triangle → ℕ) (r : ℕ) (m : FlipsOf round A next number_of (suc r)) → FlipsOf (in_turn rounds) next B (last_numbers_from number_of m.flips) (suc r + length rounds) → FlipsOf (in_turn (round ∷ rounds)) A B number_of (r + length (round ∷ rounds))
  both_flips round rounds A next B number_of r m n = record {
    flips = m.flips ++ n.flips;
    edges_are = map-append m.flips n.flips ∙ ap₂ ◌++◌ m.edges_are n.edges_are;
    leads = list_append points A next B m.flips n.flips m.leads n.leads;
    numbers_bounded = subst (λ g. g ≤ r + length (round ∷ rounds)) (sym (ap greatest (numbers-append m.flips n.flips number_of) ∙ greatest-append (numbers_from number_of m.flips) (numbers_from (last_numbers_from number_of m.flips) n.flips))) (join _ _ r (length rounds) m.numbers_bounded n.numbers_bounded);
    made_bounded = λ t. subst (λ f. f t ≤ r + length (round ∷ rounds)) (sym (made-append m.flips n.flips number_of)) (let u = n.made_bounded t in omega (arith, u));
  }
    where
      join : (g k r n : ℕ) → g ≤ suc r → k ≤ suc r + n → max g k ≤ r + suc n
      join g k r n h l = omega arith

  -- the flips of a schedule's rounds
  pub flips_of_schedule : (rounds : List (List Edge)) (A B : List Edge) (number_of : Triangle → ℕ) (r : ℕ) → IsTriangulation points A → IsSchedule points A rounds B → EachRound HasNoRepeats rounds → AreBounded number_of r → FlipsOf (in_turn rounds) A B number_of (r + length rounds)
  flips_of_schedule [] A B number_of r I e ne up = record { flips = []; edges_are = refl; leads = e; numbers_bounded = omega arith; made_bounded = λ t. let u = up t in omega (arith, u) }
  flips_of_schedule (round ∷ rounds) A B number_of r I (next, R, h) ne up =
      let m = flips_of_round round A next number_of r I R ne.0 (λ t. let u = up t in omega (arith, u)) (λ x y z t k. up (triangle x y z)) in
      both_flips round rounds A next B number_of r m (flips_of_schedule rounds next B (last_numbers_from number_of m.flips) (suc r) (next_triangulation points P A round next I R) h ne.1 m.made_bounded)

  -- a flip list is known by its edges
  pub flips_unique : (fs gs : List Flip) (A B C : List Edge) → IsTriangulation points A → IsFlipList points A fs B → IsFlipList points A gs C → flipped_edges fs ≡ flipped_edges gs → (fs ≡ gs) × (B ≡ C)
  flips_unique [] [] A B C I e k _ = (refl, sym e ∙ k)
  flips_unique [] (g ∷ gs) A B C I e k i = absurd (cc)
  flips_unique (f ∷ fs) [] A B C I e k i = absurd (cc)
  flips_unique (f ∷ fs) (g ∷ gs) A B C I (next, X, h) (next', Y, k) i =
      let again = flips_unique fs gs next B C (flip_triangulation points P A next f I X) h (subst (λ T. IsFlipList points T gs C) (sym same_next) k) rests in
      (ap₂ ◌∷◌ same again.0, again.1)
    where
      edges : f.edge ≡ g.edge
      edges = cc

      rests : flipped_edges fs ≡ flipped_edges gs
      rests = cc

      images : f.image ≡ g.image
      images = one_image_of points P A I f.edge f.image g.image X.flips (subst (λ e. FlipsTo points A e g.image) (sym edges) Y.flips)

      same : f ≡ g
      same = λ j. record { edge = edges j; image = images j }

      same_next : next ≡ next'
      same_next = flip_unique points A next next' f X (subst (λ h. Leads points A h next') (sym same) Y)
