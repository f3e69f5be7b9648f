-- A flip list without the flip that last made both triangles of an edge: the later flips move along, and keep their numbers.
use Rattle.std.proofs.Common.{◌≡◌, ◌≢◌, ◌⊎◌, inl, inr, ℕ, zero, suc, ◌<◌, max, Bool, true, false, cond, List, [], ◌∷◌, length, get_or, remove, Contains, refl, sym, ap, ap₂, ◌∙◌, subst, arith}
use Rattle.geo_orient.specs.declared.Point.{Point}
use Rattle.tri_theory.specs.Points.{ArePlaced}
use Rattle.edge_table.specs.declared.edge.Edge.{Edge}
use Rattle.edge_table.specs.Edges.{edge}
use Rattle.tri_theory.specs.Triangulations.{AreJoined, IsEmptyTriangle, IsTriangulation}
use Rattle.tri_theory.specs.Flips.{FlipsTo}
use Rattle.tri_theory.specs.Rounds.{IsRound}
use Rattle.flip_list_law.specs.declared.Flip.{Flip}
use Rattle.flip_list_law.specs.FlipLists.{Leads, IsFlipList, Triangle, triangle, one_side, other_side, makes, rounds_before, number_after, numbers_from, last_numbers_from}
use Rattle.tri_theory.proofs.Plane.{Plane, turned}
use Rattle.tri_theory.proofs.Net.{Net}
use Rattle.tri_theory.proofs.Flip.{Quad, Swapped, Same, half_swapped, half_turn, image_tri, turn_tri, b_not_d}
use Rattle.edge_table.proofs.Edges.{edge_swap, edge_of, contains_here, contains_cases, edge_discrete}
use Rattle.tri_theory.proofs.Edges.{edge_same}
use Rattle.tri_theory.proofs.Lists.{plane, tri_to, tri_from, net_of, quad_to, quad_from, one_image_of}
use Rattle.flip_list_law.proofs.Commute.{sides_of_quad}
use Rattle.flip_list_law.proofs.Triangles.{triangle_turn, triangle_swap, side_of, Makes, makes_means, makes_shown, taken, Either, reversed}
use Rattle.flip_list_law.proofs.FlipSets.{Corners, flip_unique, flip_triangulation, flip_from, image_is_new, triangulation_ordered, moves_round, swapped_of}
use Rattle.tri_theory.proofs.Single.{flip_round}
use Rattle.flip_list_law.proofs.Grouping.{stood_before}
use Rattle.flip_list_law.proofs.FlipLists.{NoneMakes, LastAt}

other_test : (b : Bool) → b ≡ false → b ≡ true → ⊥
other_test b e f = cc

module _ (points : List Point) (P : ArePlaced points) where
  abbrev S : Plane
  S = plane points P

  -- ---- a flip and the round of its edge alone
  pub round_flip : (A B : List Edge) (flip : Flip) → IsTriangulation points A → IsRound points A (flip.edge ∷ []) B → FlipsTo points A flip.edge flip.image → Leads points A flip B
  round_flip A B flip I R f = record {
    flips = f;
    ascending = R.ascending;
    members = λ e. (λ h. to e ((R.members e).0 h), λ h. (R.members e).1 (from e h));
  }
    where
      one : (e : Edge) → Contains (flip.edge ∷ []) e → e ≡ flip.edge
      one e h = by_cases (contains_cases e flip.edge [] h)
        where
          by_cases : (flip.edge ≡ e) ⊎ Contains [] e → e ≡ flip.edge
          by_cases (inl i) = sym i
          by_cases (inr (k, l, i)) = absurd (omega arith)

      to : (e : Edge) → (Contains A e × ¬ Contains (flip.edge ∷ []) e) ⊎ ((g : Edge) × Contains (flip.edge ∷ []) g × FlipsTo points A g e) → (Contains A e × (e ≢ flip.edge)) ⊎ (e ≡ flip.image)
      to e (inl h) = inl (h.0, λ i. h.1 (contains_here e flip.edge [] (sym i)))
      to e (inr (g, h, k)) = inr (one_image_of points P A I flip.edge e flip.image (subst (λ x. FlipsTo points A x e) (one g h) k) f)

      from : (e : Edge) → (Contains A e × (e ≢ flip.edge)) ⊎ (e ≡ flip.image) → (Contains A e × ¬ Contains (flip.edge ∷ []) e) ⊎ ((g : Edge) × Contains (flip.edge ∷ []) g × FlipsTo points A g e)
      from e (inl h) = inl (h.0, λ k. h.1 (one e k))
      from e (inr i) = inr (flip.edge, contains_here flip.edge flip.edge [] refl, subst (λ x. FlipsTo points A flip.edge x) (sym i) f)

  flips_member : (A : List Edge) (e f : Edge) → FlipsTo points A e f → Contains A e
  flips_member A e f (a, b, c, d, he, hf, q) = subst (Contains A) (sym he) q.left.ab

  -- a flipped edge is gone
  flipped_gone : (A B : List Edge) (flip : Flip) → IsTriangulation points A → Leads points A flip B → ¬ Contains B flip.edge
  flipped_gone A B flip I X h = by_cases ((X.members flip.edge).0 h)
    where
      by_cases : (Contains A flip.edge × (flip.edge ≢ flip.edge)) ⊎ (flip.edge ≡ flip.image) → ⊥
      by_cases (inl k) = k.1 refl
      by_cases (inr i) = image_is_new points P A flip I X.flips (subst (Contains A) i (flips_member A flip.edge flip.image X.flips))

  -- the image flips back
  pub flip_back : (A B : List Edge) (flip : Flip) → IsTriangulation points A → Leads points A flip B → Leads points B (reversed flip) A
  flip_back A B flip I X = record {
    flips = by_flip X.flips;
    ascending = I.ascending;
    members = λ e. (λ h. to e h (edge_discrete e flip.edge), λ h. from e h);
  }
    where
      to : (e : Edge) → Contains A e → Dec (e ≡ flip.edge) → (Contains B e × (e ≢ flip.image)) ⊎ (e ≡ flip.edge)
      to e h (yes i) = inr i
      to e h (no n) = inl ((X.members e).1 (inl (h, n)), λ i. image_is_new points P A flip I X.flips (subst (Contains A) i h))

      from : (e : Edge) → (Contains B e × (e ≢ flip.image)) ⊎ (e ≡ flip.edge) → Contains A e
      from e (inr i) = subst (Contains A) (sym i) (flips_member A flip.edge flip.image X.flips)
      from e (inl h) = old ((X.members e).0 h.0)
        where
          old : (Contains A e × (e ≢ flip.edge)) ⊎ (e ≡ flip.image) → Contains A e
          old (inl k) = k.0
          old (inr i) = absurd (h.1 i)

      by_flip : FlipsTo points A flip.edge flip.image → FlipsTo points B flip.image flip.edge
      by_flip (a, b, c, d, he, hf, q) = (b, c, d, a, hf, he ∙ edge_swap a c, quad_from points P B b c d a back)
        where
          J : ℕ → ℕ → Type 0
          J = AreJoined A

          K : ℕ → ℕ → Type 0
          K = AreJoined B

          N : Net S J
          N = net_of points P A I

          p : Quad S J a b c d
          p = quad_to points P A a b c d q

          w : Swapped J K a b c d
          w = swapped_of points P A B flip a b c d (record { ends = he; image_ends = hf }) X

          back : Quad S K b c d a
          back = record {
            right = turn_tri S K (image_tri S J K N (half_turn S J p) (half_swapped w));
            over = image_tri S J K N p w;
            at_a = p.right.turns;
            at_c = turned S p.over.turns;
          }

  -- a triangle of the end that no flip of the list made stood from the start
  stands_back : (flips : List Flip) (A B : List Edge) → IsTriangulation points A → IsFlipList points A flips B → (x y z : ℕ) → IsEmptyTriangle points B x y z → NoneMakes flips (triangle x y z) → IsEmptyTriangle points A x y z
  stands_back [] A B I e x y z t n = subst (λ T. IsEmptyTriangle points T x y z) (sym e) t
  stands_back (f ∷ flips) A B I (next, X, h) x y z t n =
      let u = stands_back flips next B (flip_triangulation points P A next f I X) h x y z t n.1 in
      (stood_before points P A next f I X x y z u (λ m. other_test (makes f (triangle x y z)) n.0 (makes_shown f (triangle x y z) m))).0

  -- a triangle that stands after a flip is none of those at its edge
  not_taken : (A B : List Edge) (f : Flip) → IsTriangulation points A → Leads points A f B → (k x y z : ℕ) → IsEmptyTriangle points B x y z → triangle f.edge.0 f.edge.1 k ≢ triangle x y z
  not_taken A B f I X k x y z t e = by_side (side_of f.edge.0 f.edge.1 k x y z e)
    where
      e_of : edge f.edge.0 f.edge.1 ≡ f.edge
      e_of = edge_of f.edge (triangulation_ordered points P A I f.edge (flips_member A f.edge f.image X.flips))

      gone : (g : Edge) → edge f.edge.0 f.edge.1 ≡ g → Contains B g → ⊥
      gone g i h = flipped_gone A B f I X (subst (Contains B) (sym i ∙ e_of) h)

      by_side : (edge f.edge.0 f.edge.1 ≡ edge x y) ⊎ ((edge f.edge.0 f.edge.1 ≡ edge y z) ⊎ (edge f.edge.0 f.edge.1 ≡ edge z x)) → ⊥
      by_side (inl i) = gone (edge x y) i t.ab
      by_side (inr (inl i)) = gone (edge y z) i t.bc
      by_side (inr (inr i)) = gone (edge z x) i t.ca

  module _ (flip : Flip) (a b c d : ℕ) (C : Corners flip a b c d) where
    -- no flip of the list makes a triangle of the quadrilateral
    abbrev NoneMakesBoth : List Flip → Type 0
    NoneMakesBoth flips = NoneMakes flips (triangle a c b) × NoneMakes flips (triangle a c d)

    -- two counts agree on all other triangles
    abbrev AgreeElsewhere : (Triangle → ℕ) → (Triangle → ℕ) → Type 0
    AgreeElsewhere number_of other = (t : Triangle) → t ≢ triangle a c b → t ≢ triangle a c d → number_of t ≡ other t

    acb : triangle a c b ≡ triangle a b c
    acb = triangle_swap a c b ∙ triangle_turn c a b

    quad_before : (flips : List Flip) (A B : List Edge) → IsTriangulation points A → IsFlipList points A flips B → Quad S (AreJoined B) a b c d → NoneMakesBoth flips → Quad S (AreJoined A) a b c d
    quad_before flips A B I h q n = record {
      right = tri_to points P A a b c (stands_back flips A B I h a b c (tri_from points P B a b c q.right) (subst (NoneMakes flips) acb n.0));
      over = tri_to points P A a c d (stands_back flips A B I h a c d (tri_from points P B a c d q.over) n.1);
      at_a = q.at_a;
      at_c = q.at_c;
    }

    quad_flips : (T : List Edge) → Quad S (AreJoined T) a b c d → FlipsTo points T flip.edge flip.image
    quad_flips T q = (a, b, c, d, C.ends, C.image_ends, quad_from points P T a b c d q)

    -- a flip before and after which the quadrilateral stands
    one_moves : (A B : List Edge) (f : Flip) (A' B' : List Edge) → IsTriangulation points A → Leads points A f B → Quad S (AreJoined A) a b c d → Quad S (AreJoined B) a b c d → Leads points A flip A' → Leads points B flip B' → Leads points A' f B'
    one_moves A B f A' B' I X q r Y Z = round_flip A' B' f (flip_triangulation points P A A' flip I Y) R (by_members ((R.members f.image).0 in_end))
      where
        R : IsRound points A' (f.edge ∷ []) B'
        R = moves_round points P A B (f.edge ∷ []) I (flip_round points P A B f.edge f.image I X) flip a b c d C q (sides_of_quad S (AreJoined B) r) B' Z A' Y

        fresh : ¬ Contains A f.image
        fresh = image_is_new points P A f I X.flips

        in_b : Contains B f.image
        in_b = (X.members f.image).1 (inr refl)

        in_end : Contains B' f.image
        in_end = (Z.members f.image).1 (inl (in_b, λ e. fresh (subst (Contains A) (sym (e ∙ C.ends)) q.over.ab)))

        not_b : f.image ≢ flip.image
        not_b e = image_is_new points P B flip (flip_triangulation points P A B f I X) (quad_flips B r) (subst (Contains B) e in_b)

        not_a' : ¬ Contains A' f.image
        not_a' h = by_cases ((Y.members f.image).0 h)
          where
            by_cases : (Contains A f.image × (f.image ≢ flip.edge)) ⊎ (f.image ≡ flip.image) → ⊥
            by_cases (inl k) = fresh k.0
            by_cases (inr e) = not_b e

        by_members : (Contains A' f.image × ¬ Contains (f.edge ∷ []) f.image) ⊎ ((e : Edge) × Contains (f.edge ∷ []) e × FlipsTo points A' e f.image) → FlipsTo points A' f.edge f.image
        by_members (inl h) = absurd (not_a' h.0)
        by_members (inr (e, h, k)) = by_cases (contains_cases e f.edge [] h)
          where
            by_cases : (f.edge ≡ e) ⊎ Contains [] e → FlipsTo points A' f.edge f.image
            by_cases (inl i) = subst (λ x. FlipsTo points A' x f.image) (sym i) k
            by_cases (inr (n, l, i)) = absurd (omega arith)

    -- a list through which the quadrilateral stands leads on from where the flip led
    list_moves : (flips : List Flip) (A B A' B' : List Edge) → IsTriangulation points A → IsFlipList points A flips B → Quad S (AreJoined B) a b c d → NoneMakesBoth flips → Leads points A flip A' → Leads points B flip B' → IsFlipList points A' flips B'
    list_moves [] A B A' B' I e q n Y Z = flip_unique points A A' B' flip Y (subst (λ T. Leads points T flip B') (sym e) Z)
    list_moves (f ∷ flips) A B A' B' I (next, X, h) q n Y Z =
        by_flip (flip_from points P next flip I' (quad_flips next r)) (λ next' W. list_moves flips next B next' B' I' h q (n.0.1, n.1.1) W Z)
      where
        I' : IsTriangulation points next
        I' = flip_triangulation points P A next f I X

        r : Quad S (AreJoined next) a b c d
        r = quad_before flips next B I' h q (n.0.1, n.1.1)

        by_flip : (next' : List Edge) × Leads points next flip next' → ((next' : List Edge) → Leads points next flip next' → IsFlipList points next' flips B') → IsFlipList points A' (f ∷ flips) B'
        by_flip (next', W) again = (next', one_moves A next f A' next' I X (quad_before (f ∷ flips) A B I (next, X, h) q n) r Y W, again next' W)

    -- a flip after which the quadrilateral stands has the same number, whatever its triangles count
    before_same : (f : Flip) (flips : List Flip) (A next B : List Edge) → IsTriangulation points A → Leads points A f next → IsFlipList points next flips B → Quad S (AreJoined B) a b c d → NoneMakesBoth (f ∷ flips) → (number_of other : Triangle → ℕ) → AgreeElsewhere number_of other → rounds_before number_of f ≡ rounds_before other f
    before_same f flips A next B I X h q n number_of other is = ap₂ (λ u v. max u v) (at f.image.0) (at f.image.1)
      where
        r : Quad S (AreJoined next) a b c d
        r = quad_before flips next B (flip_triangulation points P A next f I X) h q (n.0.1, n.1.1)

        at : (k : ℕ) → number_of (triangle f.edge.0 f.edge.1 k) ≡ other (triangle f.edge.0 f.edge.1 k)
        at k = is (triangle f.edge.0 f.edge.1 k) (λ e. not_taken A next f I X k a b c (tri_from points P next a b c r.right) (e ∙ acb)) (λ e. not_taken A next f I X k a c d (tri_from points P next a c d r.over) e)

    agree_after : (f : Flip) (number_of other : Triangle → ℕ) → rounds_before number_of f ≡ rounds_before other f → AgreeElsewhere number_of other → AgreeElsewhere (number_after number_of f) (number_after other f)
    agree_after f number_of other e is t m k = ap₂ (λ u v. cond (makes f t) (suc u) v) e (is t m k)

    -- so its flips keep their numbers
    numbers_same : (flips : List Flip) (A B : List Edge) → IsTriangulation points A → IsFlipList points A flips B → Quad S (AreJoined B) a b c d → NoneMakesBoth flips → (number_of other : Triangle → ℕ) → AgreeElsewhere number_of other → numbers_from number_of flips ≡ numbers_from other flips
    numbers_same [] A B I e q n number_of other is = refl
    numbers_same (f ∷ flips) A B I (next, X, h) q n number_of other is =
        let e = before_same f flips A next B I X h q n number_of other is in
        ap₂ ◌∷◌ (ap (λ k. suc k) e) (numbers_same flips next B (flip_triangulation points P A next f I X) h q (n.0.1, n.1.1) (number_after number_of f) (number_after other f) (agree_after f number_of other e is))

    -- and so do all other triangles
    last_same : (flips : List Flip) (A B : List Edge) → IsTriangulation points A → IsFlipList points A flips B → Quad S (AreJoined B) a b c d → NoneMakesBoth flips → (number_of other : Triangle → ℕ) → AgreeElsewhere number_of other → AgreeElsewhere (last_numbers_from number_of flips) (last_numbers_from other flips)
    last_same [] A B I e q n number_of other is = is
    last_same (f ∷ flips) A B I (next, X, h) q n number_of other is =
        last_same flips next B (flip_triangulation points P A next f I X) h q (n.0.1, n.1.1) (number_after number_of f) (number_after other f)
        (agree_after f number_of other (before_same f flips A next B I X h q n number_of other is) is)

    -- a flip that made both triangles of the quadrilateral is the flip the other way round
    undoes : (A B : List Edge) (g : Flip) → IsTriangulation points A → Leads points A g B → Quad S (AreJoined B) a b c d → Makes g (triangle a c b) → Makes g (triangle a c d) → (g.image ≡ flip.edge) × (g.edge ≡ flip.image)
    undoes A B g I X q m k = (image_is, one_image_of points P B I' flip.edge g.edge flip.image (subst (λ e. FlipsTo points B e g.edge) image_is back.flips) (quad_flips B q))
      where
        I' : IsTriangulation points B
        I' = flip_triangulation points P A B g I X

        N : Net S (AreJoined B)
        N = net_of points P B I'

        back : Leads points B (reversed g) A
        back = flip_back A B g I X

        e : Edge
        e = edge g.image.0 g.image.1

        e_of : e ≡ g.image
        e_of = edge_of g.image (triangulation_ordered points P B I' g.image (flips_member B g.image g.edge back.flips))

        side : (x y z : ℕ) → Makes g (triangle x y z) → (e ≡ edge x y) ⊎ ((e ≡ edge y z) ⊎ (e ≡ edge z x))
        side x y z (inl i) = side_of g.image.0 g.image.1 g.edge.0 x y z (sym i)
        side x y z (inr i) = side_of g.image.0 g.image.1 g.edge.1 x y z (sym i)

        ca : a ≢ c
        ca = N.apart q.over.ab

        cd : c ≢ d
        cd = N.apart q.over.bc

        da : d ≢ a
        da = N.apart q.over.ca

        ab : a ≢ b
        ab = N.apart q.right.ab

        bc : b ≢ c
        bc = N.apart q.right.bc

        bd : b ≢ d
        bd = b_not_d S (AreJoined B) (AreJoined B) N q

        no_cb_cd : Same c d c b → ⊥
        no_cb_cd (inl s) = bd s.1
        no_cb_cd (inr s) = cd s.0

        no_cb_da : Same d a c b → ⊥
        no_cb_da (inl s) = cd s.0
        no_cb_da (inr s) = ca (sym s.0)

        no_ba_cd : Same c d b a → ⊥
        no_ba_cd (inl s) = bc s.0
        no_ba_cd (inr s) = bd s.0

        no_ba_da : Same d a b a → ⊥
        no_ba_da (inl s) = bd s.0
        no_ba_da (inr s) = ab (sym s.0)

        common : (e ≡ edge a c) ⊎ ((e ≡ edge c b) ⊎ (e ≡ edge b a)) → (e ≡ edge a c) ⊎ ((e ≡ edge c d) ⊎ (e ≡ edge d a)) → e ≡ edge a c
        common (inl i) _ = i
        common (inr _) (inl j) = j
        common (inr (inl i)) (inr (inl j)) = absurd (no_cb_cd (edge_same c d c b (sym i ∙ j)))
        common (inr (inl i)) (inr (inr j)) = absurd (no_cb_da (edge_same d a c b (sym i ∙ j)))
        common (inr (inr i)) (inr (inl j)) = absurd (no_ba_cd (edge_same c d b a (sym i ∙ j)))
        common (inr (inr i)) (inr (inr j)) = absurd (no_ba_da (edge_same d a b a (sym i ∙ j)))

        image_is : g.image ≡ flip.edge
        image_is = sym e_of ∙ common (side a c b m) (side a c d k) ∙ sym C.ends

  -- the list without the flip at a place, and the numbers of the others
  pub record Cancelled (A B' : List Edge) (flip : Flip) (flips rest : List Flip) (place : ℕ) : Type 0 where
    pub within : place < length flips
    pub other_way : ((get_or flips place flip).edge ≡ flip.image) × ((get_or flips place flip).image ≡ flip.edge)
    pub leads : IsFlipList points A rest B'
    pub numbers : (number_of : Triangle → ℕ) → numbers_from number_of rest ≡ remove (numbers_from number_of flips) place
    pub last : (number_of : Triangle → ℕ) (t : Triangle) → t ≢ one_side flip → t ≢ other_side flip → last_numbers_from number_of rest t ≡ last_numbers_from number_of flips t

  cancelled_first : (g flip : Flip) (flips : List Flip) (A B B' : List Edge) → IsTriangulation points A → IsFlipList points A (g ∷ flips) B → LastAt (g ∷ flips) 0 (one_side flip) → LastAt (g ∷ flips) 0 (other_side flip) → Leads points B flip B' → Cancelled A B' flip (g ∷ flips) flips 0
  cancelled_first g flip flips A B B' I (next, X, h) l m Z = by_flip Z.flips
    where
      I' : IsTriangulation points next
      I' = flip_triangulation points P A next g I X

      by_flip : FlipsTo points B flip.edge flip.image → Cancelled A B' flip (g ∷ flips) flips 0
      by_flip (a, b, c, d, he, hf, q) = by_sides (taken flip a b c d he hf)
        where
          C : Corners flip a b c d
          C = record { ends = he; image_ends = hf }

          p : Quad S (AreJoined B) a b c d
          p = quad_to points P B a b c d q

          found : (one other : Triangle) → (triangle a c b ≡ one) → (triangle a c d ≡ other) → LastAt (g ∷ flips) 0 one → LastAt (g ∷ flips) 0 other → ((t : Triangle) → Makes (reversed flip) t → (t ≡ triangle a c b) ⊎ (t ≡ triangle a c d)) → ((t : Triangle) → t ≢ one_side flip → t ≢ other_side flip → (t ≢ triangle a c b) × (t ≢ triangle a c d)) → Cancelled A B' flip (g ∷ flips) flips 0
          found one other i j u v is apart = record {
            within = omega arith;
            other_way = (both.1, both.0);
            leads = list_moves flip a b c d C flips next B A B' I' h p n back Z;
            numbers = λ number_of. sym (numbers_same flip a b c d C flips next B I' h p n (number_after number_of g) number_of (λ t nt nt'. agrees number_of t nt nt' (makes g t) refl));
            last = λ number_of t nt nt'. let m = apart t nt nt' in sym (last_same flip a b c d C flips next B I' h p n (number_after number_of g) number_of (λ t nt nt'. agrees number_of t nt nt' (makes g t) refl) t m.0 m.1);
          }
            where
              n : NoneMakesBoth flip a b c d C flips
              n = (subst (NoneMakes flips) (sym i) u.1, subst (NoneMakes flips) (sym j) v.1)

              r : Quad S (AreJoined next) a b c d
              r = quad_before flip a b c d C flips next B I' h p n

              both : (g.image ≡ flip.edge) × (g.edge ≡ flip.image)
              both = undoes flip a b c d C A next g I X r (makes_means g (triangle a c b) (ap (makes g) i ∙ u.0)) (makes_means g (triangle a c d) (ap (makes g) j ∙ v.0))

              same : reversed g ≡ flip
              same = λ k. record { edge = both.0 k; image = both.1 k }

              same' : g ≡ reversed flip
              same' = λ k. record { edge = both.1 k; image = both.0 k }

              back : Leads points next flip A
              back = subst (λ f. Leads points next f A) same (flip_back A next g I X)

              agrees : (number_of : Triangle → ℕ) (t : Triangle) → t ≢ triangle a c b → t ≢ triangle a c d → (test : Bool) → makes g t ≡ test → cond test (suc (rounds_before number_of g)) (number_of t) ≡ number_of t
              agrees number_of t nt nt' false e = refl
              agrees number_of t nt nt' true e = absurd (by_is (is t (subst (λ f. Makes f t) same' (makes_means g t e))))
                where
                  by_is : (t ≡ triangle a c b) ⊎ (t ≡ triangle a c d) → ⊥
                  by_is (inl k) = nt k
                  by_is (inr k) = nt' k

          own : (t : Triangle) → Makes (reversed flip) t → (t ≡ one_side flip) ⊎ (t ≡ other_side flip)
          own t k = k

          by_sides : Either (one_side flip) (other_side flip) (triangle a c b) (triangle a c d) → Cancelled A B' flip (g ∷ flips) flips 0
          by_sides (inl s) = found (one_side flip) (other_side flip) (sym s.0) (sym s.1) l m (λ t k. by_own t (own t k)) (λ t u v. (λ e. u (e ∙ sym s.0), λ e. v (e ∙ sym s.1)))
            where
              by_own : (t : Triangle) → (t ≡ one_side flip) ⊎ (t ≡ other_side flip) → (t ≡ triangle a c b) ⊎ (t ≡ triangle a c d)
              by_own t (inl k) = inl (k ∙ s.0)
              by_own t (inr k) = inr (k ∙ s.1)
          by_sides (inr s) = found (other_side flip) (one_side flip) (sym s.1) (sym s.0) m l (λ t k. by_own t (own t k)) (λ t u v. (λ e. v (e ∙ sym s.1), λ e. u (e ∙ sym s.0)))
            where
              by_own : (t : Triangle) → (t ≡ one_side flip) ⊎ (t ≡ other_side flip) → (t ≡ triangle a c b) ⊎ (t ≡ triangle a c d)
              by_own t (inl k) = inr (k ∙ s.0)
              by_own t (inr k) = inl (k ∙ s.1)

  pub cancelled : (flips : List Flip) (place : ℕ) (flip : Flip) (A B B' : List Edge) → IsTriangulation points A → IsFlipList points A flips B → LastAt flips place (one_side flip) → LastAt flips place (other_side flip) → Leads points B flip B' → Cancelled A B' flip flips (remove flips place) place
  cancelled [] place flip A B B' I h l m Z = absurd l
  cancelled (g ∷ flips) zero flip A B B' I h l m Z = cancelled_first g flip flips A B B' I h l m Z
  cancelled (g ∷ flips) (suc place) flip A B B' I (next, X, h) l m Z =
      let again = cancelled flips place flip next B B' (flip_triangulation points P A next g I X) h l m Z in
      record { within = let w = again.within in omega arith; other_way = again.other_way; leads = (next, X, again.leads); numbers = λ number_of. ap (λ ns. suc (rounds_before number_of g) ∷ ns) (again.numbers (number_after number_of g)); last = λ number_of. again.last (number_after number_of g) }
