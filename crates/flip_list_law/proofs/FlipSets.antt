-- One flip of a triangulation, for lists of edges; and how it commutes with a round, or joins it.
use Rattle.std.proofs.Common.{◌≡◌, ◌≢◌, ◌⊎◌, inl, inr, ◌↔◌, ℕ, ◌<◌, Bool, true, false, ◌&&◌, ◌==◌, nat_lt, cond, List, [], ◌∷◌, Contains, refl, sym, ◌∙◌, subst, arith, eqb-true, eq-eqb, ltb-true, lt-ltb}
use Rattle.geo_orient.specs.declared.Point.{Point}
use Rattle.tri_theory.specs.Points.{ArePlaced}
use Rattle.edge_table.specs.declared.edge.Edge.{Edge}
use Rattle.edge_table.specs.Edges.{edge, IsBefore, IsAscending, is_before}
use Rattle.tri_theory.specs.Triangulations.{AreJoined, IsTriangulation}
use Rattle.tri_theory.specs.Flips.{FlipsTo, Flips}
use Rattle.tri_theory.specs.Rounds.{IsRound}
use Rattle.flip_list_law.specs.declared.Flip.{Flip}
use Rattle.flip_list_law.specs.FlipLists.{Leads, with_edge}
use Rattle.tri_theory.proofs.Plane.{Plane}
use Rattle.tri_theory.proofs.Flip.{Quad, Swapped, Same}
use Rattle.tri_theory.proofs.Round.{In, in_swap, Image, Round, not_joined}
use Rattle.edge_table.proofs.Edges.{edge_of, contains_here, contains_later, contains_cases, edge_discrete, dec_contains}
use Rattle.tri_theory.proofs.Edges.{edge_same, same_edge, joined_swap}
use Rattle.tri_theory.proofs.Lists.{plane, tri_to, net_of, quad_to, quad_from}
use Rattle.edge_table.proofs.Ascending.{before_joins, before_cases, ascending_tail, ascending_head, ascending_cons, same_members}
use Rattle.tri_theory.proofs.Schedules.{AreOrdered, in_to, in_from, round_to, next_triangulation}
use Rattle.tri_theory.proofs.Single
use Rattle.flip_list_law.proofs.Commute.{Sides, moved_quad, joined_round, moved_round, quad_stays}
use Rattle.flip_list_law.proofs.Triangles.{or_cases, or_left, or_right, and_both, and_true}

-- ---- lists in edge order, with one edge more or less
before_means : (e f : Edge) → is_before e f ≡ true → IsBefore e f
before_means e f h = by_cases (or_cases (nat_lt e.0 f.0) ((e.0 == f.0) && nat_lt e.1 f.1) h)
  where
    by_cases : (nat_lt e.0 f.0 ≡ true) ⊎ ((e.0 == f.0) && nat_lt e.1 f.1 ≡ true) → IsBefore e f
    by_cases (inl k) = inl (ltb-true e.0 f.0 k)
    by_cases (inr k) = let b = and_both (e.0 == f.0) (nat_lt e.1 f.1) k in inr (eqb-true e.0 f.0 b.0, ltb-true e.1 f.1 b.1)

before_shown : (e f : Edge) → IsBefore e f → is_before e f ≡ true
before_shown e f (inl h) = or_left (nat_lt e.0 f.0) ((e.0 == f.0) && nat_lt e.1 f.1) (lt-ltb e.0 f.0 h)
before_shown e f (inr h) = or_right (nat_lt e.0 f.0) ((e.0 == f.0) && nat_lt e.1 f.1) (and_true (e.0 == f.0) (nat_lt e.1 f.1) (eq-eqb e.0 f.0 h.0) (lt-ltb e.1 f.1 h.1))

pub with_edge_cases : (e f : Edge) (es : List Edge) → Contains (with_edge e es) f → (f ≡ e) ⊎ Contains es f
with_edge_cases e f [] h = by_cases (contains_cases f e [] h)
  where
    by_cases : (e ≡ f) ⊎ Contains [] f → (f ≡ e) ⊎ Contains [] f
    by_cases (inl i) = inl (sym i)
    by_cases (inr k) = inr k
with_edge_cases e f (g ∷ es) h = by_test (is_before e g) h (λ k. with_edge_cases e f es k)
  where
    Cases : List Edge → Type 0
    Cases es = (f ≡ e) ⊎ Contains es f

    first : (e ≡ f) ⊎ Contains (g ∷ es) f → (f ≡ e) ⊎ Contains (g ∷ es) f
    first (inl i) = inl (sym i)
    first (inr k) = inr k

    deeper : (f ≡ e) ⊎ Contains es f → (f ≡ e) ⊎ Contains (g ∷ es) f
    deeper (inl i) = inl i
    deeper (inr k) = inr (contains_later f g es k)

    second : (g ≡ f) ⊎ Contains (with_edge e es) f → (Contains (with_edge e es) f → (f ≡ e) ⊎ Contains es f) → (f ≡ e) ⊎ Contains (g ∷ es) f
    second (inl i) _ = inr (contains_here f g es i)
    second (inr k) again = deeper (again k)

    by_test : (b : Bool) → Contains (cond b (e ∷ g ∷ es) (g ∷ with_edge e es)) f → (Contains (with_edge e es) f → (f ≡ e) ⊎ Contains es f) → (f ≡ e) ⊎ Contains (g ∷ es) f
    by_test true k again = first (contains_cases f e (g ∷ es) k)
    by_test false k again = second (contains_cases f g (with_edge e es) k) again

pub with_edge_has : (e f : Edge) (es : List Edge) → (f ≡ e) ⊎ Contains es f → Contains (with_edge e es) f
with_edge_has e f [] (inl i) = contains_here f e [] (sym i)
with_edge_has e f [] (inr k) = contains_later f e [] k
with_edge_has e f (g ∷ es) h = by_test (is_before e g) h (λ k. with_edge_has e f es k)
  where
    second : (g ≡ f) ⊎ Contains es f → (((f ≡ e) ⊎ Contains es f) → Contains (with_edge e es) f) → Contains (g ∷ with_edge e es) f
    second (inl i) again = contains_here f g (with_edge e es) i
    second (inr k) again = contains_later f g (with_edge e es) (again (inr k))

    by_test : (b : Bool) → (f ≡ e) ⊎ Contains (g ∷ es) f → (((f ≡ e) ⊎ Contains es f) → Contains (with_edge e es) f) → Contains (cond b (e ∷ g ∷ es) (g ∷ with_edge e es)) f
    by_test true (inl i) again = contains_here f e (g ∷ es) (sym i)
    by_test true (inr k) again = contains_later f e (g ∷ es) k
    by_test false (inl i) again = contains_later f g (with_edge e es) (again (inl i))
    by_test false (inr k) again = second (contains_cases f g es k) again

pub with_edge_ascending : (e : Edge) (es : List Edge) → IsAscending es → ¬ Contains es e → IsAscending (with_edge e es)
with_edge_ascending e [] up n = ascending_cons e [] (λ f k. none f k) up
  where
    none : (f : Edge) → Contains [] f → IsBefore e f
    none f (k, l, h) = absurd (omega arith)
with_edge_ascending e (g ∷ es) up n = by_test (is_before e g) refl (with_edge_ascending e es (ascending_tail g es up) (λ k. n (contains_later e g es k)))
  where
    below : IsBefore e g → (f : Edge) → (g ≡ f) ⊎ Contains es f → IsBefore e f
    below h f (inl i) = subst (IsBefore e) i h
    below h f (inr k) = before_joins e g f h (ascending_head g es up f k)

    after : (is_before e g ≡ false) → (e ≡ g) ⊎ (IsBefore e g ⊎ IsBefore g e) → IsBefore g e
    after no_test (inl i) = absurd (n (contains_here e g es (sym i)))
    after no_test (inr (inl h)) = absurd (let t = before_shown e g h in cc)
    after no_test (inr (inr h)) = h

    above : IsBefore g e → (f : Edge) → (f ≡ e) ⊎ Contains es f → IsBefore g f
    above h f (inl i) = subst (IsBefore g) (sym i) h
    above h f (inr k) = ascending_head g es up f k

    by_test : (b : Bool) → is_before e g ≡ b → IsAscending (with_edge e es) → IsAscending (cond b (e ∷ g ∷ es) (g ∷ with_edge e es))
    by_test true t again = ascending_cons e (g ∷ es) (λ f k. below (before_means e g t) f (contains_cases f g es k)) up
    by_test false t again = ascending_cons g (with_edge e es) (λ f k. above (after t (before_cases e g)) f (with_edge_cases e f es k)) again

abbrev pub kept_unless : {e f : Edge} → Dec (f ≡ e) → List Edge → List Edge
kept_unless {e} {f} (yes i) es = es
kept_unless {e} {f} (no n) es = f ∷ es

abbrev pub without_edge : Edge → List Edge → List Edge
without_edge e [] = []
without_edge e (f ∷ es) = kept_unless (edge_discrete f e) (without_edge e es)

pub without_cases : (e g : Edge) (es : List Edge) → Contains (without_edge e es) g → Contains es g × (g ≢ e)
without_cases e g [] (k, l, h) = absurd (omega arith)
without_cases e g (f ∷ es) h = by_test (edge_discrete f e) h (λ k. without_cases e g es k)
  where
    deeper : Contains es g × (g ≢ e) → Contains (f ∷ es) g × (g ≢ e)
    deeper h = (contains_later g f es h.0, h.1)

    second : ¬ (f ≡ e) → (f ≡ g) ⊎ Contains (without_edge e es) g → (Contains (without_edge e es) g → Contains es g × (g ≢ e)) → Contains (f ∷ es) g × (g ≢ e)
    second n (inl i) again = (contains_here g f es i, λ j. n (i ∙ j))
    second n (inr k) again = deeper (again k)

    by_test : (t : Dec (f ≡ e)) → Contains (kept_unless t (without_edge e es)) g → (Contains (without_edge e es) g → Contains es g × (g ≢ e)) → Contains (f ∷ es) g × (g ≢ e)
    by_test (yes i) k again = deeper (again k)
    by_test (no n) k again = second n (contains_cases g f (without_edge e es) k) again

pub without_has : (e g : Edge) (es : List Edge) → Contains es g → g ≢ e → Contains (without_edge e es) g
without_has e g [] h n = h
without_has e g (f ∷ es) h n = by_test (edge_discrete f e) (contains_cases g f es h) (λ k. without_has e g es k n)
  where
    by_test : (t : Dec (f ≡ e)) → (f ≡ g) ⊎ Contains es g → (Contains es g → Contains (without_edge e es) g) → Contains (kept_unless t (without_edge e es)) g
    by_test (yes i) (inl j) again = absurd (n (sym j ∙ i))
    by_test (yes i) (inr k) again = again k
    by_test (no m) (inl j) again = contains_here g f (without_edge e es) j
    by_test (no m) (inr k) again = contains_later g f (without_edge e es) (again k)

pub without_ascending : (e : Edge) (es : List Edge) → IsAscending es → IsAscending (without_edge e es)
without_ascending e [] up = up
without_ascending e (f ∷ es) up = by_test (edge_discrete f e) (without_ascending e es (ascending_tail f es up))
  where
    by_test : (t : Dec (f ≡ e)) → IsAscending (without_edge e es) → IsAscending (kept_unless t (without_edge e es))
    by_test (yes i) again = again
    by_test (no n) again = ascending_cons f (without_edge e es) (λ g k. ascending_head f es up g (without_cases e g es k).0) again

-- ---- flips
pub flip_unique : (points : List Point) (A B C : List Edge) (flip : Flip) → Leads points A flip B → Leads points A flip C → B ≡ C
flip_unique points A B C flip X Y = same_members B C X.ascending Y.ascending (λ e. (λ h. (Y.members e).1 ((X.members e).0 h), λ h. (X.members e).1 ((Y.members e).0 h)))

-- the corners of a flip's quadrilateral
pub record Corners (flip : Flip) (a b c d : ℕ) : Type 0 where
  pub ends : flip.edge ≡ edge a c
  pub image_ends : flip.image ≡ edge b d

module _ (points : List Point) (P : ArePlaced points) where
  abbrev S : Plane
  S = plane points P

  pub swapped_of : (T U : List Edge) (flip : Flip) (a b c d : ℕ) → Corners flip a b c d → Leads points T flip U → Swapped (AreJoined T) (AreJoined U) a b c d
  swapped_of T U flip a b c d C X = record {
    decided = λ x y. dec_contains U (edge x y);
    split = λ {x} {y} k. split_by x y ((X.members (edge x y)).0 k);
    old = λ {x} {y} j n. (X.members (edge x y)).1 (inl (j, λ e. n (edge_same a c x y (e ∙ C.ends))));
    new = λ {x} {y} s. (X.members (edge x y)).1 (inr (same_edge b d x y s ∙ sym C.image_ends));
  }
    where
      split_by : (x y : ℕ) → (Contains T (edge x y) × (edge x y ≢ flip.edge)) ⊎ (edge x y ≡ flip.image) → (AreJoined T x y × ¬ Same a c x y) ⊎ Same b d x y
      split_by x y (inl h) = inl (h.0, λ s. h.1 (same_edge a c x y s ∙ sym C.ends))
      split_by x y (inr e) = inr (edge_same b d x y (e ∙ C.image_ends))

  -- a flip leads from a triangulation to a triangulation
  pub flip_triangulation : (T U : List Edge) (flip : Flip) → IsTriangulation points T → Leads points T flip U → IsTriangulation points U
  flip_triangulation T U flip I X = Single.flip_triangulation points P T U flip.edge flip.image I X

  -- the image of a flip is no member
  pub image_is_new : (T : List Edge) (flip : Flip) → IsTriangulation points T → FlipsTo points T flip.edge flip.image → ¬ Contains T flip.image
  image_is_new T flip I (a, b, c, d, he, hf, q) h = not_joined S (AreJoined T) (net_of points P T I) (quad_to points P T a b c d q) (subst (Contains T) hf h)

  -- where an edge flips, the flip leads on
  pub flip_from : (T : List Edge) (flip : Flip) → IsTriangulation points T → FlipsTo points T flip.edge flip.image → (next : List Edge) × Leads points T flip next
  flip_from T flip I h = (
    with_edge flip.image (without_edge flip.edge T),
    record {
      flips = h;
      ascending = with_edge_ascending flip.image (without_edge flip.edge T) (without_ascending flip.edge T I.ascending) (λ k. image_is_new T flip I h (without_cases flip.edge flip.image T k).0);
      members = λ e. (λ k. turned e (with_edge_cases flip.image e (without_edge flip.edge T) k), λ k. with_edge_has flip.image e (without_edge flip.edge T) (listed e k));
    },
  )
    where
      turned : (e : Edge) → (e ≡ flip.image) ⊎ Contains (without_edge flip.edge T) e → (Contains T e × (e ≢ flip.edge)) ⊎ (e ≡ flip.image)
      turned e (inl i) = inr i
      turned e (inr k) = inl (without_cases flip.edge e T k)

      listed : (e : Edge) → (Contains T e × (e ≢ flip.edge)) ⊎ (e ≡ flip.image) → (e ≡ flip.image) ⊎ Contains (without_edge flip.edge T) e
      listed e (inl k) = inr (without_has flip.edge e T k.0 k.1)
      listed e (inr i) = inl i

  -- a round over the plane is a round of lists
  pub round_from : (T F U : List Edge) (G : ℕ → ℕ → Type 0) → ((x y : ℕ) → AreJoined F x y ↔ G x y) → AreOrdered T → AreOrdered F → AreOrdered U → IsAscending U → Round S (AreJoined T) G (AreJoined U) → IsRound points T F U
  round_from T F U G is t_up f_up u_up up R = record {
    flips = λ e h. flips_by e h (R.flips ((is e.0 e.1).0 (subst (Contains F) (sym (edge_of e (f_up e h))) h)));
    apart = λ a b c t h k. R.apart (tri_to points P T a b c t) ((is a b).0 h) ((is b c).0 k);
    ascending = up;
    members = λ f. (λ h. let e = edge_of f (u_up f h) in subst Split e (split_at f.0 f.1 (R.split (subst (Contains U) (sym e) h))), λ h. joins_by f h);
  }
    where
      Split : Edge → Type 0
      Split f = (Contains T f × ¬ Contains F f) ⊎ ((e : Edge) × Contains F e × FlipsTo points T e f)

      flips_by : (e : Edge) → Contains F e → (b d : ℕ) × Quad S (AreJoined T) e.0 b e.1 d → Flips points T e
      flips_by e h (b, d, q) = (edge b d, (e.0, b, e.1, d, sym (edge_of e (f_up e h)), refl, quad_from points P T e.0 b e.1 d q))

      split_at : (x y : ℕ) → (AreJoined T x y × ¬ G x y) ⊎ Image S (AreJoined T) G x y → Split (edge x y)
      split_at x y (inl h) = inl (h.0, λ k. h.1 ((is x y).0 k))
      split_at x y (inr (a, b, c, d, g, q, s)) = inr (edge a c, (is a c).1 g, (a, b, c, d, refl, same_edge b d x y s, quad_from points P T a b c d q))

      joins_by : (f : Edge) → Split f → Contains U f
      joins_by f (inl h) =
          let e = edge_of f (t_up f h.0) in
          subst (Contains U) e (R.joins (inl (subst (Contains T) (sym e) h.0, λ g. h.1 (subst (Contains F) e ((is f.0 f.1).1 g)))))
      joins_by f (inr (e, h, (a, b, c, d, he, hf, q))) =
          subst (Contains U) (sym hf) (R.joins (inr (a, b, c, d, (is a c).0 (subst (Contains F) he h), quad_to points P T a b c d q, inl (refl, refl))))

  pub triangulation_ordered : (T : List Edge) → IsTriangulation points T → AreOrdered T
  triangulation_ordered T I e h = let s = I.segments e h in s.low_first

  pub round_member_of : (T F U : List Edge) → IsRound points T F U → (e : Edge) → Contains F e → Contains T e
  round_member_of T F U R e h = by_flip (R.flips e h)
    where
      by_flip : Flips points T e → Contains T e
      by_flip (f, (a, b, c, d, he, hf, q)) = subst (Contains T) (sym he) q.left.ab

  pub round_ordered : (T F U : List Edge) → IsTriangulation points T → IsRound points T F U → AreOrdered F
  round_ordered T F U I R e h = triangulation_ordered T I e (round_member_of T F U R e h)

  module _ (A B F : List Edge) (I : IsTriangulation points A) (R : IsRound points A F B) (flip : Flip) (a b c d : ℕ) (C : Corners flip a b c d) (q : Quad S (AreJoined A) a b c d) (s : Sides (AreJoined B) a b c d) (B' : List Edge) (Y : Leads points B flip B') where
    r : Quad S (AreJoined B) a b c d
    r = moved_quad S (AreJoined A) (AreJoined B) (joined_swap B) q s

    b_triangulation : IsTriangulation points B
    b_triangulation = next_triangulation points P A F B I R

    b'_ordered : AreOrdered B'
    b'_ordered = triangulation_ordered B' (flip_triangulation B B' flip b_triangulation Y)

    round : Round S (AreJoined A) (In F) (AreJoined B)
    round = round_to points P A F B I R

    f_ordered : AreOrdered F
    f_ordered = round_ordered A F B I R

    flip_ordered : (flip.edge).0 < (flip.edge).1
    flip_ordered = triangulation_ordered A I flip.edge (subst (Contains A) (sym C.ends) q.over.ab)

    -- the round leads on from where the flip led
    pub moves_round : (A' : List Edge) → Leads points A flip A' → IsRound points A' F B'
    moves_round A' X =
        round_from A' F B' (In F) (λ x y. (in_to F f_ordered x y, in_from F f_ordered x y)) (triangulation_ordered A' (flip_triangulation A A' flip I X)) f_ordered b'_ordered Y.ascending
        (moved_round S (AreJoined A) (In F) (AreJoined B) (net_of points P A I) (in_swap F) round a b c d q r (AreJoined B') (swapped_of B B' flip a b c d C Y) (AreJoined A') (swapped_of A A' flip a b c d C X))

    -- and its edges keep their images
    pub moves_flips : (A' : List Edge) → Leads points A flip A' → (e g : Edge) → Contains F e → FlipsTo points A e g → FlipsTo points A' e g
    moves_flips A' X e g h (a', b', c', d', he, hf, p) = (
      a',
      b',
      c',
      d',
      he,
      hf,
      quad_from points P A' a' b' c' d'
          (quad_stays S (AreJoined A) (In F) (AreJoined B) (net_of points P A I) (in_swap F) round a b c d q r (AreJoined B') (swapped_of B B' flip a b c d C Y) (AreJoined A') (swapped_of A A' flip a b c d C X)
          (in_to F f_ordered a' c' (subst (Contains F) he h)) (quad_to points P A a' b' c' d' p)),
    )

    -- the flip joins the round
    pub joins_round : IsRound points A (with_edge flip.edge F) B'
    joins_round =
        round_from A (with_edge flip.edge F) B' (λ x y. Same a c x y ⊎ In F x y) (λ x y. (λ h. to x y (with_edge_cases flip.edge (edge x y) F h), λ h. with_edge_has flip.edge (edge x y) F (from x y h)))
        (triangulation_ordered A I) (λ e h. ordered e (with_edge_cases flip.edge e F h)) b'_ordered Y.ascending
        (joined_round S (AreJoined A) (In F) (AreJoined B) (net_of points P A I) (in_swap F) round a b c d q r (AreJoined B') (swapped_of B B' flip a b c d C Y))
      where
        to : (x y : ℕ) → (edge x y ≡ flip.edge) ⊎ Contains F (edge x y) → Same a c x y ⊎ In F x y
        to x y (inl e) = inl (edge_same a c x y (e ∙ C.ends))
        to x y (inr h) = inr (in_to F f_ordered x y h)

        from : (x y : ℕ) → Same a c x y ⊎ In F x y → (edge x y ≡ flip.edge) ⊎ Contains F (edge x y)
        from x y (inl t) = inl (same_edge a c x y t ∙ sym C.ends)
        from x y (inr h) = inr (in_from F f_ordered x y h)

        ordered : (e : Edge) → (e ≡ flip.edge) ⊎ Contains F e → e.0 < e.1
        ordered e (inl i) = subst (λ (g : Edge). g.0 < g.1) (sym i) flip_ordered
        ordered e (inr h) = f_ordered e h

    -- and was not yet in it
    pub fresh : ¬ Contains F flip.edge
    fresh h = by_split ((R.members flip.edge).0 (subst (Contains B) (sym C.ends) s.ac))
      where
        by_split : (Contains A flip.edge × ¬ Contains F flip.edge) ⊎ ((e : Edge) × Contains F e × FlipsTo points A e flip.edge) → ⊥
        by_split (inl k) = k.1 h
        by_split (inr (e, k, f)) = image_is_new A (record { edge = e; image = flip.edge }) I f (round_member_of A F B R flip.edge h)

  -- the empty round
  pub empty_round : (T : List Edge) → IsTriangulation points T → IsRound points T [] T
  empty_round T I = record {
    flips = λ e h. absurd (none e h);
    apart = λ a b c t h k. none (edge a b) h;
    ascending = I.ascending;
    members = λ f. (λ h. inl (h, none f), λ h. by_cases f h);
  }
    where
      none : (e : Edge) → ¬ Contains [] e
      none e (k, l, h) = omega arith

      by_cases : (f : Edge) → (Contains T f × ¬ Contains [] f) ⊎ ((e : Edge) × Contains [] e × FlipsTo points T e f) → Contains T f
      by_cases f (inl h) = h.0
      by_cases f (inr (e, h, k)) = absurd (none e h)
