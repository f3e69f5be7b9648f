-- Walks lower the total, and descents take rounds, which lower the sum of the weights.
use Rattle.std.proofs.Common.{◌≡◌, ◌≢◌, ◌⊎◌, inl, inr, ◌↔◌, ℕ, zero, suc, ◌+◌, ◌*◌, ◌<◌, ◌≤◌, Bool, true, false, cond, not, ◌&&◌, ◌||◌, Option, Some, None, List, [], ◌∷◌, ◌++◌, length, get_or, take, All, Contains, refl, sym, ap, ap₂, ◌∙◌, subst, arith, ltb-true, ltb-false}
use Rattle.std.specs.Prelude.{nat_lt, sum_by, Decides}
use Rattle.std.specs.List.{list_any}
use Rattle.std.proofs.lemmas.Bool.Decides.{Decides-and, Decides-or}
use Rattle.std.proofs.lemmas.List.Sums.{sum_by-cons}
use Rattle.geo_orient.specs.declared.Point.{Point}
use Rattle.tri_theory.specs.Points.{ArePlaced}
use Rattle.edge_table.specs.declared.edge.Edge.{Edge}
use Rattle.edge_table.specs.Edges.{edge, IsAscending, is_before}
use Rattle.tri_theory.specs.Triangulations.{AreJoined, IsEmptyTriangle, IsTriangulation}
use Rattle.tri_theory.specs.Flips.{FlipsTo}
use Rattle.tri_theory.specs.Rounds.{IsRound, IsSchedule}
use Rattle.tri_theory.specs.Crossings.{crossings}
use Rattle.flip_list_law.specs.declared.Flip.{Flip}
use Rattle.flip_list_law.specs.FlipLists.{Leads, IsFlipList, Triangle, triangle, is_same, one_side, other_side, flipped_edges, round_count, with_edge}
use Rattle.bound_law.specs.Bounds.{input_at}
use Rattle.plan_law.specs.Images.{is_equal, are_equal, without, image_of, after_flip, after_flips}
use Rattle.plan_law.specs.Plans.{IsInstance, Plan, IsPlanOf, plan_total, followed, followed_all, moves}
use Rattle.plan_law.specs.Improvers.{picked, walk_from, is_free, greedy, greedy_round, Descended, preceded, descended, Descent, Better, NotBetter, Stuck, weight_of}
use Rattle.plan_law.specs.Books.{AreRoundsOf, Lowers}
use Rattle.plan_law.specs.PlanLaws.{Swaps}
use Rattle.plan_law.specs.ImproverLaws.{WalksLower, GreedyRounds, DescentsEnd, IsBetter, DescentsLower, DescentsReach, DescentsStick}
use Rattle.tri_theory.proofs.Plane.{Plane}
use Rattle.tri_theory.proofs.Net.{Net}
use Rattle.tri_theory.proofs.Flip.{Same, Quad, turn_tri, one_apex}
use Rattle.flip_list_law.proofs.Commute.{Sides, moved_quad}
use Rattle.tri_theory.proofs.Edges.{edge_same, joined_swap}
use Rattle.edge_table.proofs.Edges.{contains_here, contains_later, contains_cases}
use Rattle.edge_table.proofs.Ascending.{ascending_head, ascending_tail, ascending_cons}
use Rattle.tri_theory.proofs.Lists.{plane, tri_to, tri_from, net_of, quad_to, quad_from}
use Rattle.tri_theory.proofs.Schedules.{next_triangulation}
use Rattle.flip_list_law.proofs.Triangles.{triangle_turn, triangle_swap, Either, taken, same_means, same_shown}
use Rattle.flip_list_law.proofs.FlipSets.{with_edge_cases, with_edge_has, flip_triangulation, joins_round, empty_round}
use Rattle.plan_law.proofs.Images.{equal_decided, image_sound, flip_leads, next_is}
use Rattle.plan_law.proofs.Plans.{swaps_keep_plans, distinct_of_ascending}

-- ---- walks
followed_append : (points : List Point) (es fs : List Edge) (plan mid : Plan) → followed_all points plan es ≡ Some mid → followed_all points plan (es ++ fs) ≡ followed_all points mid fs
followed_append points [] fs plan mid e = let i : plan ≡ mid = cc in ap (λ p. followed_all points p fs) i
followed_append points (e ∷ es) fs plan mid h = by_next (followed points plan e) h (λ next k. followed_append points es fs next mid k)
  where
    by_next : (r : Option Plan) → elim r [ Some next ↦ followed_all points next es | None ↦ None ] ≡ Some mid → ((next : Plan) → followed_all points next es ≡ Some mid → followed_all points next (es ++ fs) ≡ followed_all points mid fs)
        → elim r [ Some next ↦ followed_all points next (es ++ fs) | None ↦ None ] ≡ followed_all points mid fs
    by_next (Some next) k again = again next k
    by_next None k again = absurd (cc)

module _ (points : List Point) (start : Plan) where
  walked : (words : List ℕ) (so_far : List Edge) (plan : Plan) (es : List Edge) → followed_all points start so_far ≡ Some plan → walk_from points (plan_total start) so_far plan words ≡ Some es → Lowers start (followed_all points start es)
  walked [] so_far plan es f h = absurd (cc)
  walked (word ∷ words) so_far plan es f h = by_move (picked (moves points plan) word) h (λ so next g k. walked words so next es g k)
    where
      Again : Type 0
      Again = (so : List Edge) (next : Plan) → followed_all points start so ≡ Some next → walk_from points (plan_total start) so next words ≡ Some es → Lowers start (followed_all points start es)

      after : List Edge → Option Plan → Option (List Edge)
      after move r = elim r [ Some next ↦ cond (nat_lt (plan_total next) (plan_total start)) (Some (so_far ++ move)) (walk_from points (plan_total start) (so_far ++ move) next words) | None ↦ None ]

      by_move : (r : Option (List Edge))
          → elim r [
            | Some move ↦ elim (followed_all points plan move) [ Some next ↦ cond (nat_lt (plan_total next) (plan_total start)) (Some (so_far ++ move)) (walk_from points (plan_total start) (so_far ++ move) next words) | None ↦ None ]
            | None ↦ None
          ] ≡ Some es → Again → Lowers start (followed_all points start es)
      by_move None k _ = absurd (cc)
      by_move (Some move) k again = by_next (followed_all points plan move) refl k
        where
          by_next : (r : Option Plan) → followed_all points plan move ≡ r
              → elim r [ Some next ↦ cond (nat_lt (plan_total next) (plan_total start)) (Some (so_far ++ move)) (walk_from points (plan_total start) (so_far ++ move) next words) | None ↦ None ] ≡ Some es → Lowers start (followed_all points start es)
          by_next None g j = absurd (cc)
          by_next (Some next) g j = by_test (nat_lt (plan_total next) (plan_total start)) refl j
            where
              there : followed_all points start (so_far ++ move) ≡ Some next
              there = followed_append points so_far move start plan f ∙ g

              by_test : (v : Bool) → nat_lt (plan_total next) (plan_total start) ≡ v → cond v (Some (so_far ++ move)) (walk_from points (plan_total start) (so_far ++ move) next words) ≡ Some es → Lowers start (followed_all points start es)
              by_test true t i = let s : so_far ++ move ≡ es = cc in (next, subst (λ l. followed_all points start l ≡ Some next) s there, ltb-true (plan_total next) (plan_total start) t)
              by_test false t i = again (so_far ++ move) next there i

pub walks_lower : WalksLower
walks_lower points plan words es h = walked points plan (take 8 words) [] plan es refl h

-- ---- triangles of flips
abbrev pub HasSide : Flip → Triangle → Type 0
HasSide flip t = (t ≡ one_side flip) ⊎ (t ≡ other_side flip)

pub free_means : (used : List Triangle) (flip : Flip) (t : Triangle) → is_free used flip ≡ true → Contains used t → HasSide flip t → ⊥
free_means [] flip t f (k, l, e) s = omega arith
free_means (u ∷ used) flip t f c s = by_place c (free_means used flip t (first f).1)
  where
    test : Triangle → Bool
    test t = is_same t (one_side flip) || is_same t (other_side flip)

    split : (a b : Bool) → not (a || b) ≡ true → (a ≡ false) × (not b ≡ true)
    split true b h = absurd (cc)
    split false b h = (refl, h)

    first : is_free (u ∷ used) flip ≡ true → ((is_same u (one_side flip) || is_same u (other_side flip)) ≡ false) × (is_free used flip ≡ true)
    first h = split (is_same u (one_side flip) || is_same u (other_side flip)) (list_any (λ t. is_same t (one_side flip) || is_same t (other_side flip)) used) h

    decided : Decides (is_same u (one_side flip) || is_same u (other_side flip)) (HasSide flip u)
    decided = Decides-or _ _ (same_means u (one_side flip), same_shown u (one_side flip)) (same_means u (other_side flip), same_shown u (other_side flip))

    by_place : Contains (u ∷ used) t → (Contains used t → HasSide flip t → ⊥) → ⊥
    by_place (zero, l, e) _ = let a = decided.1 (subst (HasSide flip) (sym e) s) in let b = (first f).0 in cc
    by_place (suc k, l, e) again = again (k, omega arith, e) s

either_in : (flip : Flip) (t u : Triangle) → Either (one_side flip) (other_side flip) t u → HasSide flip t × HasSide flip u
either_in flip t u (inl (e, f)) = (inl (sym e), inr (sym f))
either_in flip t u (inr (e, f)) = (inr (sym f), inl (sym e))

-- ---- greedy rounds
module _ (points : List Point) (P : ArePlaced points) (T : List Edge) (I : IsTriangulation points T) where
  abbrev S : Plane
  S = plane points P

  abbrev J : ℕ → ℕ → Type 0
  J = AreJoined T

  -- an empty triangle with the flip's edge as a side is one of its two
  pub side_tri : (g : Flip) → FlipsTo points T g.edge g.image → (x y z : ℕ) → IsEmptyTriangle points T x y z → edge x y ≡ g.edge → HasSide g (triangle x y z)
  side_tri g (a, b, c, d, he, hf, q) x y z t e = by_same (edge_same a c x y (e ∙ he))
    where
      N : Net S J
      N = net_of points P T I

      both : HasSide g (triangle a c b) × HasSide g (triangle a c d)
      both = either_in g (triangle a c b) (triangle a c d) (taken g a b c d he hf)

      left_is : IsEmptyTriangle points T a c z → HasSide g (triangle a c z)
      left_is u = subst (λ k. HasSide g (triangle a c k)) (one_apex S J N a c d z (tri_to points P T a c d q.left) (tri_to points P T a c z u)) both.1

      right_is : IsEmptyTriangle points T c a z → HasSide g (triangle c a z)
      right_is u =
          subst (λ k. HasSide g (triangle c a k)) (one_apex S J N c a b z (turn_tri S J (turn_tri S J (tri_to points P T a b c q.right))) (tri_to points P T c a z u))
          (subst (HasSide g) (triangle_swap a c b) both.0)

      by_same : Same a c x y → HasSide g (triangle x y z)
      by_same (inl (i, j)) = subst (λ (s : ℕ × ℕ). IsEmptyTriangle points T s.0 s.1 z → HasSide g (triangle s.0 s.1 z)) (ap₂ (λ m n. (m, n)) (sym i) (sym j)) left_is t
      by_same (inr (i, j)) = subst (λ (s : ℕ × ℕ). IsEmptyTriangle points T s.0 s.1 z → HasSide g (triangle s.0 s.1 z)) (ap₂ (λ m n. (m, n)) (sym i) (sym j)) right_is t

  -- what was taken so far
  pub record Taking (F : List Flip) (used : List Triangle) (U : List Edge) : Type 0 where
    pub round : IsRound points T (flipped_edges F) U
    pub flips : (g : Flip) → Contains F g → FlipsTo points T g.edge g.image
    pub covers : (g : Flip) → Contains F g → Contains used (one_side g) × Contains used (other_side g)

  pub edge_source : (F : List Flip) (e : Edge) → Contains (flipped_edges F) e → (g : Flip) × Contains F g × (g.edge ≡ e)
  edge_source [] e (k, l, h) = absurd (omega arith)
  edge_source (g ∷ F) e (zero, l, h) = (g, (0, omega arith, refl), h)
  edge_source (g ∷ F) e (suc k, l, h) = later (edge_source F e (k, omega arith, h))
    where
      later : (f : Flip) × Contains F f × (f.edge ≡ e) → (f : Flip) × Contains (g ∷ F) f × (f.edge ≡ e)
      later (f, (p, m, i), j) = (f, (suc p, omega arith, i), j)

  pub round_of_members : (F G U : List Edge) → ((e : Edge) → Contains F e ↔ Contains G e) → IsRound points T F U → IsRound points T G U
  round_of_members F G U is R = record {
    flips = λ e h. R.flips e ((is e).1 h);
    apart = λ a b c t h k. R.apart a b c t ((is (edge a b)).1 h) ((is (edge b c)).1 k);
    ascending = R.ascending;
    members = λ f. (λ h. to f ((R.members f).0 h), λ h. (R.members f).1 (from f h));
  }
    where
      to : (f : Edge) → (Contains T f × ¬ Contains F f) ⊎ ((e : Edge) × Contains F e × FlipsTo points T e f) → (Contains T f × ¬ Contains G f) ⊎ ((e : Edge) × Contains G e × FlipsTo points T e f)
      to f (inl h) = inl (h.0, λ k. h.1 ((is f).1 k))
      to f (inr (e, h, k)) = inr (e, (is e).0 h, k)

      from : (f : Edge) → (Contains T f × ¬ Contains G f) ⊎ ((e : Edge) × Contains G e × FlipsTo points T e f) → (Contains T f × ¬ Contains F f) ⊎ ((e : Edge) × Contains F e × FlipsTo points T e f)
      from f (inl h) = inl (h.0, λ k. h.1 ((is f).0 k))
      from f (inr (e, h, k)) = inr (e, (is e).1 h, k)

  -- a flip whose triangles are free is taken too
  pub take_one : (F : List Flip) (used : List Triangle) (U : List Edge) (flip : Flip) → Taking F used U → FlipsTo points T flip.edge flip.image → is_free used flip ≡ true
      → Leads points U flip (after_flip U flip) × Taking (flip ∷ F) (one_side flip ∷ other_side flip ∷ used) (after_flip U flip)
  take_one F used U flip K (a, b, c, d, he, hf, q) free = (
    Y,
    record {
      round = round_of_members (with_edge flip.edge (flipped_edges F)) (flip.edge ∷ flipped_edges F) (after_flip U flip) same
          (joins_round points P T U (flipped_edges F) I K.round flip a b c d (record { ends = he; image_ends = hf }) quad sides (after_flip U flip) Y);
      flips = λ g h. flips_by g h;
      covers = λ g h. covers_by g h;
    },
  )
    where
      turned : (x y z : ℕ) → IsEmptyTriangle points T x y z → IsEmptyTriangle points T y z x
      turned x y z t = tri_from points P T y z x (turn_tri S J (tri_to points P T x y z t))

      in_used : (g : Flip) → Contains F g → (t : Triangle) → HasSide g t → Contains used t
      in_used g c t (inl e) = subst (Contains used) (sym e) (K.covers g c).0
      in_used g c t (inr e) = subst (Contains used) (sym e) (K.covers g c).1

      stays : (x y z : ℕ) → IsEmptyTriangle points T x y z → HasSide flip (triangle x y z) → Contains U (edge x y)
      stays x y z t s = (K.round.members (edge x y)).1 (inl (t.ab, λ k. by_source (edge_source F (edge x y) k)))
        where
          by_source : (g : Flip) × Contains F g × (g.edge ≡ edge x y) → ⊥
          by_source (g, c, e) = free_means used flip (triangle x y z) free (in_used g c (triangle x y z) (side_tri g (K.flips g c) x y z t (sym e))) s

      both : HasSide flip (triangle a c b) × HasSide flip (triangle a c d)
      both = either_in flip (triangle a c b) (triangle a c d) (taken flip a b c d he hf)

      right_one : HasSide flip (triangle c a b)
      right_one = subst (HasSide flip) (triangle_swap a c b) both.0

      sides : Sides (AreJoined U) a b c d
      sides = record {
        ac = stays a c d q.left both.1;
        ab = stays a b c q.right (subst (HasSide flip) (triangle_turn c a b) right_one);
        bc = stays b c a (turned a b c q.right) (subst (HasSide flip) (triangle_turn c a b ∙ triangle_turn a b c) right_one);
        cd = stays c d a (turned a c d q.left) (subst (HasSide flip) (triangle_turn a c d) both.1);
        da = stays d a c (turned c d a (turned a c d q.left)) (subst (HasSide flip) (triangle_turn a c d ∙ triangle_turn c d a) both.1);
      }

      quad : Quad S J a b c d
      quad = quad_to points P T a b c d q

      IU : IsTriangulation points U
      IU = next_triangulation points P T (flipped_edges F) U I K.round

      Y : Leads points U flip (after_flip U flip)
      Y = flip_leads points P U IU flip (a, b, c, d, he, hf, quad_from points P U a b c d (moved_quad S J (AreJoined U) (joined_swap U) quad sides))

      same : (e : Edge) → Contains (with_edge flip.edge (flipped_edges F)) e ↔ Contains (flip.edge ∷ flipped_edges F) e
      same e = (λ h. to (with_edge_cases flip.edge e (flipped_edges F) h), λ h. with_edge_has flip.edge e (flipped_edges F) (from (contains_cases e flip.edge (flipped_edges F) h)))
        where
          to : (e ≡ flip.edge) ⊎ Contains (flipped_edges F) e → Contains (flip.edge ∷ flipped_edges F) e
          to (inl i) = contains_here e flip.edge (flipped_edges F) (sym i)
          to (inr h) = contains_later e flip.edge (flipped_edges F) h

          from : (flip.edge ≡ e) ⊎ Contains (flipped_edges F) e → (e ≡ flip.edge) ⊎ Contains (flipped_edges F) e
          from (inl i) = inl (sym i)
          from (inr h) = inr h

      flips_by : (g : Flip) → Contains (flip ∷ F) g → FlipsTo points T g.edge g.image
      flips_by g (zero, l, e) = subst (λ (g : Flip). FlipsTo points T g.edge g.image) e (a, b, c, d, he, hf, q)
      flips_by g (suc k, l, e) = K.flips g (k, omega arith, e)

      later : (t : Triangle) → Contains used t → Contains (one_side flip ∷ other_side flip ∷ used) t
      later t (k, l, e) = (suc (suc k), omega arith, e)

      covers_by : (g : Flip) → Contains (flip ∷ F) g → Contains (one_side flip ∷ other_side flip ∷ used) (one_side g) × Contains (one_side flip ∷ other_side flip ∷ used) (other_side g)
      covers_by g (zero, l, e) = ((0, omega arith, ap one_side e), (1, omega arith, ap other_side e))
      covers_by g (suc k, l, e) = let r = K.covers g (k, omega arith, e) in (later (one_side g) r.0, later (other_side g) r.1)

  -- ---- the whole round
  module _ (weight : Edge → ℕ) where
    abbrev LowersEach : List Flip → Type 0
    LowersEach [] = Unit {0}
    LowersEach (flip ∷ flips) = (weight flip.image < weight flip.edge) × LowersEach flips

    pub record Taken (es : List Edge) (F G : List Flip) (U : List Edge) : Type 0 where
      pub leads : IsFlipList points U G (after_flips U G)
      pub round : (R : List Edge) → ((e : Edge) → Contains R e ↔ (Contains (flipped_edges F) e ⊎ Contains (flipped_edges G) e)) → IsRound points T R (after_flips U G)
      pub lower : LowersEach G
      pub subset : (e : Edge) → Contains (flipped_edges G) e → Contains es e
      pub ascends : IsAscending es → IsAscending (flipped_edges G)

    greedy_taken : (es : List Edge) (used : List Triangle) (F : List Flip) (U : List Edge) → Taking F used U → Taken es F (greedy points weight T used es) U
    greedy_taken [] used F U K = record {
      leads = refl;
      round = λ R is. round_of_members (flipped_edges F) R U (λ e. (λ h. (is e).1 (inl h), λ h. only e ((is e).0 h))) K.round;
      lower = tt;
      subset = λ e h. h;
      ascends = λ up. up;
    }
      where
        only : (e : Edge) → Contains (flipped_edges F) e ⊎ Contains [] e → Contains (flipped_edges F) e
        only e (inl h) = h
        only e (inr (k, l, h)) = absurd (omega arith)
    greedy_taken (e ∷ es) used F U K = by_image (image_of points T e) refl (λ used F U K. greedy_taken es used F U K)
      where
        Again : Type 0
        Again = (used : List Triangle) (F : List Flip) (U : List Edge) → Taking F used U → Taken es F (greedy points weight T used es) U

        skipped : (G : List Flip) → Taken es F G U → Taken (e ∷ es) F G U
        skipped G t = record { leads = t.leads; round = t.round; lower = t.lower; subset = λ f h. contains_later f e es (t.subset f h); ascends = λ up. t.ascends (ascending_tail e es up) }

        by_image : (r : Option Edge) → image_of points T e ≡ r → Again
            → Taken (e ∷ es) F (elim r [
              | Some f ↦ cond (nat_lt (weight f) (weight e) && is_free used (record { edge = e; image = f }))
                  (record { edge = e; image = f } ∷ greedy points weight T (one_side (record { edge = e; image = f }) ∷ other_side (record { edge = e; image = f }) ∷ used) es)
                  (greedy points weight T used es)
              | None ↦ greedy points weight T used es
            ]) U
        by_image None i again = skipped (greedy points weight T used es) (again used F U K)
        by_image (Some f) i again = by_test (nat_lt (weight f) (weight e)) (is_free used flip) refl refl
          where
            flip : Flip
            flip = record { edge = e; image = f }

            used' : List Triangle
            used' = one_side flip ∷ other_side flip ∷ used

            added : weight f < weight e → Leads points U flip (after_flip U flip) × Taking (flip ∷ F) used' (after_flip U flip) → Taken (e ∷ es) F (flip ∷ greedy points weight T used' es) U
            added l (Y, K') = joined (again used' (flip ∷ F) (after_flip U flip) K')
              where
                joined : Taken es (flip ∷ F) (greedy points weight T used' es) (after_flip U flip) → Taken (e ∷ es) F (flip ∷ greedy points weight T used' es) U
                joined t = record {
                  leads = (after_flip U flip, Y, t.leads);
                  round = λ R is. t.round R (λ g. (λ h. to g ((is g).0 h), λ h. (is g).1 (from g h)));
                  lower = (l, t.lower);
                  subset = λ g h. by_cases g (contains_cases g e (flipped_edges G) h);
                  ascends = λ up. ascending_cons e (flipped_edges G) (λ g h. ascending_head e es up g (t.subset g h)) (t.ascends (ascending_tail e es up));
                }
                  where
                    G : List Flip
                    G = greedy points weight T used' es

                    by_cases : (g : Edge) → (e ≡ g) ⊎ Contains (flipped_edges G) g → Contains (e ∷ es) g
                    by_cases g (inl i) = contains_here g e es i
                    by_cases g (inr h) = contains_later g e es (t.subset g h)

                    move : (g : Edge) → (e ≡ g) ⊎ Contains (flipped_edges G) g → Contains (e ∷ flipped_edges F) g ⊎ Contains (flipped_edges G) g
                    move g (inl i) = inl (contains_here g e (flipped_edges F) i)
                    move g (inr h) = inr h

                    to : (g : Edge) → Contains (flipped_edges F) g ⊎ Contains (e ∷ flipped_edges G) g → Contains (e ∷ flipped_edges F) g ⊎ Contains (flipped_edges G) g
                    to g (inl h) = inl (contains_later g e (flipped_edges F) h)
                    to g (inr h) = move g (contains_cases g e (flipped_edges G) h)

                    back : (g : Edge) → (e ≡ g) ⊎ Contains (flipped_edges F) g → Contains (flipped_edges F) g ⊎ Contains (e ∷ flipped_edges G) g
                    back g (inl i) = inr (contains_here g e (flipped_edges G) i)
                    back g (inr h) = inl h

                    from : (g : Edge) → Contains (e ∷ flipped_edges F) g ⊎ Contains (flipped_edges G) g → Contains (flipped_edges F) g ⊎ Contains (e ∷ flipped_edges G) g
                    from g (inl h) = back g (contains_cases g e (flipped_edges F) h)
                    from g (inr h) = inr (contains_later g e (flipped_edges G) h)

            by_test : (v w : Bool) → nat_lt (weight f) (weight e) ≡ v → is_free used flip ≡ w → Taken (e ∷ es) F (cond (v && w) (flip ∷ greedy points weight T used' es) (greedy points weight T used es)) U
            by_test true true l free = added (ltb-true (weight f) (weight e) l) (take_one F used U flip K (image_sound points P T I e f i) free)
            by_test true false l free = skipped (greedy points weight T used es) (again used F U K)
            by_test false w l free = skipped (greedy points weight T used es) (again used F U K)

    nothing_taken : Taking [] [] T
    nothing_taken = record { round = empty_round points P T I; flips = λ g (k, l, h). absurd (omega arith); covers = λ g (k, l, h). absurd (omega arith) }

    pub whole : Taken T [] (greedy points weight T [] T) T
    whole = greedy_taken T [] [] T nothing_taken

    pub whole_round : IsRound points T (flipped_edges (greedy points weight T [] T)) (after_flips T (greedy points weight T [] T))
    whole_round = whole.round (flipped_edges (greedy points weight T [] T)) (λ e. (λ h. inr h, λ h. right e h))
      where
        right : (e : Edge) → Contains [] e ⊎ Contains (flipped_edges (greedy points weight T [] T)) e → Contains (flipped_edges (greedy points weight T [] T)) e
        right e (inl (k, l, h)) = absurd (omega arith)
        right e (inr h) = h

pub greedy_rounds : GreedyRounds
greedy_rounds points centre edges P I = (whole_round points P edges I (crossings points centre), (whole points P edges I (crossings points centre)).ascends I.ascending)

-- ---- the sum of the weights
module _ (weight : Edge → ℕ) where
  with_sum : (f : Edge) (es : List Edge) → sum_by weight (with_edge f es) ≡ weight f + sum_by weight es
  with_sum f [] = sum_by-cons weight f []
  with_sum f (e ∷ es) = by_test (is_before f e) (with_sum f es)
    where
      by_test : (v : Bool) → sum_by weight (with_edge f es) ≡ weight f + sum_by weight es → sum_by weight (cond v (f ∷ e ∷ es) (e ∷ with_edge f es)) ≡ weight f + sum_by weight (e ∷ es)
      by_test true h = sum_by-cons weight f (e ∷ es)
      by_test false h = omega (arith, h, sum_by-cons weight e (with_edge f es), sum_by-cons weight e es)

  without_less : (e : Edge) (es : List Edge) → sum_by weight (without e es) ≤ sum_by weight es
  without_less e [] = omega arith
  without_less e (f ∷ es) = by_test (is_equal f e) (without_less e es)
    where
      by_test : (v : Bool) → sum_by weight (without e es) ≤ sum_by weight es → sum_by weight (cond v (without e es) (f ∷ without e es)) ≤ sum_by weight (f ∷ es)
      by_test true h = omega (arith, h, sum_by-cons weight f es)
      by_test false h = omega (arith, h, sum_by-cons weight f (without e es), sum_by-cons weight f es)

  without_sum : (e : Edge) (es : List Edge) → Contains es e → sum_by weight (without e es) + weight e ≤ sum_by weight es
  without_sum e [] (k, l, h) = absurd (omega arith)
  without_sum e (f ∷ es) c = by_test (is_equal f e) (equal_decided f e) (contains_cases e f es c) (λ h. without_sum e es h)
    where
      by_test : (v : Bool) → Decides v (f ≡ e) → (f ≡ e) ⊎ Contains es e → (Contains es e → sum_by weight (without e es) + weight e ≤ sum_by weight es)
          → sum_by weight (cond v (without e es) (f ∷ without e es)) + weight e ≤ sum_by weight (f ∷ es)
      by_test true d _ _ = let i = ap weight (d.0 refl) in omega (arith, i, without_less e es, sum_by-cons weight f es)
      by_test false d (inl i) _ = absurd (let k = d.1 i in cc)
      by_test false d (inr h) again = let k = again h in omega (arith, k, sum_by-cons weight f (without e es), sum_by-cons weight f es)

  flip_sum : (es : List Edge) (flip : Flip) → Contains es flip.edge → sum_by weight (after_flip es flip) + weight flip.edge ≤ sum_by weight es + weight flip.image
  flip_sum es flip c = omega (arith, with_sum flip.image (without flip.edge es), without_sum flip.edge es c)

module _ (points : List Point) (P : ArePlaced points) where
  flips_sum : (T : List Edge) (I : IsTriangulation points T) (weight : Edge → ℕ) (G : List Flip) (U : List Edge) → LowersEach points P T I weight G → IsTriangulation points U → IsFlipList points U G (after_flips U G) → sum_by weight (after_flips U G) + length G ≤ sum_by weight U
  flips_sum T I weight [] U w J h = omega arith
  flips_sum T I weight (flip ∷ G) U w J (next, X, L) =
      let i : next ≡ after_flip U flip = next_is points P U J flip next X in
      let again = flips_sum T I weight G (after_flip U flip) w.1 (flip_triangulation points P U (after_flip U flip) flip J (subst (Leads points U flip) i X)) (subst (λ l. IsFlipList points l G (after_flips (after_flip U flip) G)) i L) in
      let one = flip_sum weight U flip (member X.flips) in
      omega (arith, again, one, w.0)
    where
      member : FlipsTo points U flip.edge flip.image → Contains U flip.edge
      member (a, b, c, d, he, hf, q) = subst (Contains U) (sym he) q.left.ab

  -- a round that takes something lowers the sum
  pub round_falls : (centre T : List Edge) → IsTriangulation points T → weight_of points centre (after_flips T (greedy_round points centre T)) + length (greedy_round points centre T) ≤ weight_of points centre T
  round_falls centre T I = let t = whole points P T I (crossings points centre) in flips_sum T I (crossings points centre) (greedy_round points centre T) T t.lower I t.leads

-- ---- equal lists
pub lists_decided : (es fs : List Edge) → Decides (are_equal es fs) (es ≡ fs)
lists_decided [] [] = (λ h. refl, λ h. refl)
lists_decided [] (f ∷ fs) = (λ h. absurd (cc), λ h. absurd (cc))
lists_decided (e ∷ es) [] = (λ h. absurd (cc), λ h. absurd (cc))
lists_decided (e ∷ es) (f ∷ fs) = by_parts (Decides-and (is_equal e f) (are_equal es fs) (equal_decided e f) (lists_decided es fs))
  where
    by_parts : Decides (are_equal (e ∷ es) (f ∷ fs)) ((e ≡ f) × (es ≡ fs)) → Decides (are_equal (e ∷ es) (f ∷ fs)) ((e ∷ es) ≡ (f ∷ fs))
    by_parts d = (λ h. let p = d.0 h in ap₂ (λ x l. x ∷ l) p.0 p.1, λ h. d.1 (let a : e ≡ f = cc in a, let b : es ≡ fs = cc in b))

-- ---- descents
module _ (points : List Point) (P : ArePlaced points) (centre : List Edge) where
  abbrev step : ℕ → List Edge → List Flip → Descended
  step most T G = elim G [ [] ↦ record { rounds = []; end = T } | flip ∷ flips ↦ preceded (flipped_edges (flip ∷ flips)) (descended most points centre (after_flips T (flip ∷ flips))) ]

  -- where a descent stands
  pub record Descends (most : ℕ) (T : List Edge) (d : Descended) : Type 0 where
    pub leads : IsSchedule points T d.rounds d.end
    pub in_order : All IsAscending d.rounds
    pub stops : weight_of points centre T ≤ most → (d.end ≡ centre) ⊎ (greedy_round points centre d.end ≡ [])

  all_none : All IsAscending []
  all_none k d l = absurd (omega arith)

  stands : (most : ℕ) (T : List Edge) → (weight_of points centre T ≤ most → (T ≡ centre) ⊎ (greedy_round points centre T ≡ [])) → Descends most T (record { rounds = []; end = T })
  stands most T s = record { leads = refl; in_order = all_none; stops = s }

  goes_on : (most : ℕ) (T : List Edge) (G : List Flip) (d : Descended) → IsRound points T (flipped_edges G) (after_flips T G) → IsAscending (flipped_edges G) → (weight_of points centre T ≤ suc most → weight_of points centre (after_flips T G) ≤ most)
      → Descends most (after_flips T G) d → Descends (suc most) T (preceded (flipped_edges G) d)
  goes_on most T G d R up falls D = record { leads = (after_flips T G, R, D.leads); in_order = each; stops = λ l. D.stops (falls l) }
    where
      each : All IsAscending (flipped_edges G ∷ d.rounds)
      each zero e l = up
      each (suc k) e l = D.in_order k e (omega arith)

  descends : (most : ℕ) (T : List Edge) → IsTriangulation points T → Descends most T (descended most points centre T)
  descends zero T I = stands zero T (λ l. inr (none (greedy_round points centre T) (round_falls points P centre T I) l))
    where
      none : (G : List Flip) → weight_of points centre (after_flips T G) + length G ≤ weight_of points centre T → weight_of points centre T ≤ 0 → G ≡ []
      none [] f l = refl
      none (flip ∷ G) f l = absurd (omega arith)
  descends (suc most) T I = by_test (are_equal T centre) (lists_decided T centre) (λ U J. descends most U J)
    where
      by_test : (v : Bool) → Decides v (T ≡ centre) → ((U : List Edge) → IsTriangulation points U → Descends most U (descended most points centre U))
          → Descends (suc most) T (cond v (record { rounds = []; end = T }) (step most T (greedy_round points centre T)))
      by_test true d again = stands (suc most) T (λ l. inl (d.0 refl))
      by_test false d again = by_round (greedy_round points centre T) refl
        where
          by_round : (G : List Flip) → greedy_round points centre T ≡ G → Descends (suc most) T (step most T G)
          by_round [] e = stands (suc most) T (λ l. inr e)
          by_round (flip ∷ flips) e =
              let r = greedy_rounds points centre T P I in
              let R : IsRound points T (flipped_edges (flip ∷ flips)) (after_flips T (flip ∷ flips)) = subst (λ G. IsRound points T (flipped_edges G) (after_flips T G)) e r.0 in
              let up : IsAscending (flipped_edges (flip ∷ flips)) = subst (λ G. IsAscending (flipped_edges G)) e r.1 in
              let f : weight_of points centre (after_flips T (flip ∷ flips)) + length (flip ∷ flips) ≤ weight_of points centre T = subst (λ G. weight_of points centre (after_flips T G) + length G ≤ weight_of points centre T) e (round_falls points P centre T I) in
              goes_on most T (flip ∷ flips) (descended most points centre (after_flips T (flip ∷ flips))) R up (λ l. omega (arith, f, l))
              (again (after_flips T (flip ∷ flips)) (next_triangulation points P T (flipped_edges (flip ∷ flips)) (after_flips T (flip ∷ flips)) I R))

  -- more rounds change nothing
  nothing_falls : (T : List Edge) → IsTriangulation points T → weight_of points centre T ≤ 0 → greedy_round points centre T ≡ []
  nothing_falls T I l = none (greedy_round points centre T) (round_falls points P centre T I)
    where
      none : (G : List Flip) → weight_of points centre (after_flips T G) + length G ≤ weight_of points centre T → G ≡ []
      none [] f = refl
      none (flip ∷ G) f = absurd (omega arith)

  at_rest : (more : ℕ) (T : List Edge) → IsTriangulation points T → weight_of points centre T ≤ 0 → descended more points centre T ≡ record { rounds = []; end = T }
  at_rest zero T I l = refl
  at_rest (suc more) T I l = by_test (are_equal T centre)
    where
      by_test : (v : Bool) → cond v (record { rounds = []; end = T }) (step more T (greedy_round points centre T)) ≡ record { rounds = []; end = T }
      by_test true = refl
      by_test false = ap (step more T) (nothing_falls T I l)

  same_descent : (most more : ℕ) (T : List Edge) → IsTriangulation points T → weight_of points centre T ≤ most → weight_of points centre T ≤ more → descended most points centre T ≡ descended more points centre T
  same_descent zero more T I l m = sym (at_rest more T I l)
  same_descent (suc most) zero T I l m = at_rest (suc most) T I m
  same_descent (suc most) (suc more) T I l m = by_test (are_equal T centre) (λ U J h k. same_descent most more U J h k)
    where
      Again : Type 0
      Again = (U : List Edge) → IsTriangulation points U → weight_of points centre U ≤ most → weight_of points centre U ≤ more → descended most points centre U ≡ descended more points centre U

      by_round : (G : List Flip) → greedy_round points centre T ≡ G → Again → step most T G ≡ step more T G
      by_round [] e again = refl
      by_round (flip ∷ flips) e again =
          let R : IsRound points T (flipped_edges (flip ∷ flips)) (after_flips T (flip ∷ flips)) = subst (λ G. IsRound points T (flipped_edges G) (after_flips T G)) e (greedy_rounds points centre T P I).0 in
          let f : weight_of points centre (after_flips T (flip ∷ flips)) + length (flip ∷ flips) ≤ weight_of points centre T = subst (λ G. weight_of points centre (after_flips T G) + length G ≤ weight_of points centre T) e (round_falls points P centre T I) in
          ap (preceded (flipped_edges (flip ∷ flips)))
          (again (after_flips T (flip ∷ flips)) (next_triangulation points P T (flipped_edges (flip ∷ flips)) (after_flips T (flip ∷ flips)) I R) (omega (arith, f, l)) (omega (arith, f, m)))

      by_test : (v : Bool) → Again → cond v (record { rounds = []; end = T }) (step most T (greedy_round points centre T)) ≡ cond v (record { rounds = []; end = T }) (step more T (greedy_round points centre T))
      by_test true again = refl
      by_test false again = by_round (greedy_round points centre T) refl again

pub descents_end : DescentsEnd
descents_end points centre edges most P I l = same_descent points P centre most (weight_of points centre edges) edges I l (omega arith)

-- ---- the answers of descents
-- fewer rounds weigh less
heavier : (w m n : ℕ) → m ≤ n → w * m ≤ w * n
heavier zero m n l = omega arith
heavier (suc w) m n l = let again = heavier w m n l in omega (arith, again, l)

lighter : (w m n : ℕ) → 1 ≤ w → m < n → w * m < w * n
lighter zero m n p l = absurd (omega arith)
lighter (suc w) m n p l = let more = heavier w m n (omega arith) in omega (arith, more, l)

module _ (points : List Point) (inputs : List (List Edge)) (plan : Plan) (i : ℕ) (N : IsInstance points inputs) (l : i < length inputs) where
  abbrev found : Descended
  found = descended (weight_of points plan.centre (input_at inputs i)) points plan.centre (input_at inputs i)

  abbrev held : ℕ
  held = round_count (get_or plan.lists i [])

  D : Descends points N.placed plan.centre (weight_of points plan.centre (input_at inputs i)) (input_at inputs i) found
  D = descends points N.placed plan.centre (weight_of points plan.centre (input_at inputs i)) (input_at inputs i) (N.triangulated i [] l)

  are_rounds : AreRoundsOf points (input_at inputs i) found.rounds found.end
  are_rounds = record { distinct = λ k d m. distinct_of_ascending _ (D.in_order k d m); leads = D.leads }

  reaches : found.end ≡ plan.centre → AreRoundsOf points (input_at inputs i) found.rounds plan.centre
  reaches e = subst (λ T. AreRoundsOf points (input_at inputs i) found.rounds T) e are_rounds

  abbrev Judged : (v w : Bool) → Descent
  Judged v w = cond v (cond w (Better found.rounds) (NotBetter held (length found.rounds))) (Stuck (length found.rounds))

  is_better : IsPlanOf points inputs plan → (rounds : List (List Edge)) (v w : Bool) → are_equal found.end plan.centre ≡ v → nat_lt (length found.rounds) held ≡ w → Judged v w ≡ Better rounds → IsBetter points inputs plan i rounds
  is_better h rounds false w e f j = absurd (cc)
  is_better h rounds true false e f j = absurd (cc)
  is_better h rounds true true e f j = subst (IsBetter points inputs plan i) same (record {
    are_rounds = R;
    in_order = D.in_order;
    fewer = less;
    lowers = (W.next, W.is_swapped, let t = W.totals in let n = W.no_more in let m = lighter (get_or plan.weights i 0) (round_count (get_or W.next.lists i [])) held weight (omega (arith, n, less)) in omega (arith, t, m));
  })
    where
      same : found.rounds ≡ rounds
      same = cc

      R : AreRoundsOf points (input_at inputs i) found.rounds plan.centre
      R = reaches ((lists_decided found.end plan.centre).0 e)

      less : length found.rounds < held
      less = ltb-true (length found.rounds) held f

      weight : 1 ≤ get_or plan.weights i 0
      weight = h.weighed.positive i 0 (let e = h.weighed.one_each in omega (arith, e, l))

      W : Swaps points inputs plan i found.rounds
      W = swaps_keep_plans points inputs plan i found.rounds N h l R

  is_reached : (m n : ℕ) (v w : Bool) → are_equal found.end plan.centre ≡ v → nat_lt (length found.rounds) held ≡ w → Judged v w ≡ NotBetter m n
      → (rounds : List (List Edge)) × AreRoundsOf points (input_at inputs i) rounds plan.centre × (length rounds ≡ n) × (m ≡ held) × (m ≤ n)
  is_reached m n false w e f j = absurd (cc)
  is_reached m n true true e f j = absurd (cc)
  is_reached m n true false e f j =
      let a : held ≡ m = cc in let b : length found.rounds ≡ n = cc in let c = ltb-false (length found.rounds) held f in
      (found.rounds, reaches ((lists_decided found.end plan.centre).0 e), b, sym a, omega (arith, a, b, c))

  is_stuck : (r : ℕ) (v w : Bool) → are_equal found.end plan.centre ≡ v → Judged v w ≡ Stuck r
      → (rounds : List (List Edge)) × (end : List Edge) × AreRoundsOf points (input_at inputs i) rounds end × (length rounds ≡ r) × (end ≢ plan.centre) × (greedy_round points plan.centre end ≡ [])
  is_stuck r true true e j = absurd (cc)
  is_stuck r true false e j = absurd (cc)
  is_stuck r false w e j = let b : length found.rounds ≡ r = cc in (found.rounds, found.end, are_rounds, b, off, nothing (D.stops (omega arith)))
    where
      off : found.end ≢ plan.centre
      off i = let k = (lists_decided found.end plan.centre).1 i in cc

      nothing : (found.end ≡ plan.centre) ⊎ (greedy_round points plan.centre found.end ≡ []) → greedy_round points plan.centre found.end ≡ []
      nothing (inl i) = absurd (off i)
      nothing (inr g) = g

pub descents_lower : DescentsLower
descents_lower points inputs plan i rounds N h l j =
    is_better points inputs plan i N l h rounds (are_equal (found points inputs plan i N l).end plan.centre) (nat_lt (length (found points inputs plan i N l).rounds) (held points inputs plan i N l)) refl refl j

pub descents_reach : DescentsReach
descents_reach points inputs plan i m n N l j =
    is_reached points inputs plan i N l m n (are_equal (found points inputs plan i N l).end plan.centre) (nat_lt (length (found points inputs plan i N l).rounds) (held points inputs plan i N l)) refl refl j

pub descents_stick : DescentsStick
descents_stick points inputs plan i r N l j =
    is_stuck points inputs plan i N l r (are_equal (found points inputs plan i N l).end plan.centre) (nat_lt (length (found points inputs plan i N l).rounds) (held points inputs plan i N l)) refl j
