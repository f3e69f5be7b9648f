-- The round of a descent, edge by edge.
use Rattle.std.proofs.Common.{◌≡◌, ◌≢◌, ◌⊎◌, inl, inr, ◌↔◌, ◌∙◌, ℕ, zero, suc, Bool, true, false, cond, not, ◌&&◌, ◌||◌, Option, Some, None, List, [], ◌∷◌, Contains, refl, sym, ap, subst, arith, lt-ltb, ltb-true, true≢false}
use Rattle.std.specs.Prelude.{IsTrue, MatchBool, nat_lt, Decides}
use Rattle.std.specs.List.{list_any}
use Rattle.std.proofs.lemmas.Bool.Decides.{Decides-or}
use Rattle.geo_orient.specs.declared.Point.{Point}
use Rattle.edge_table.specs.declared.edge.Edge.{Edge}
use Rattle.edge_table.specs.Edges.{edge, IsAscending, AddsEdge}
use Rattle.edge_table.proofs.Edges.{edge_of, contains_here, contains_later, contains_cases}
use Rattle.edge_table.proofs.Ascending.{not_before_itself, ascending_head, ascending_tail, same_members}
use Rattle.tri_theory.specs.Points.{ArePlaced}
use Rattle.tri_theory.specs.Triangulations.{AreJoined, IsEmptyTriangle, IsTriangulation, IsSegment}
use Rattle.tri_theory.specs.Flips.{FlipsTo}
use Rattle.tri_theory.specs.Crossings.{crossings}
use Rattle.tri_theory.specs.Rounds.{IsRound}
use Rattle.flip_mesh.specs.declared.mesh.Quad.{Quad}
use Rattle.flip_mesh.specs.Answers.{IsQuadAt}
use Rattle.flip_list_law.specs.declared.Flip.{Flip}
use Rattle.flip_list_law.specs.FlipLists.{Leads, Triangle, triangle, is_same, one_side, other_side, flipped_edges}
use Rattle.flip_list_law.proofs.Triangles.{triangle_turn, same_means, same_shown, side_of}
use Rattle.flip_list_law.proofs.FlipSets.{flip_triangulation}
use Rattle.replay.specs.Independent.{AreIndependent, IsSide, ShareTriangle}
use Rattle.replay.specs.Steps.{IsOuterSide}
use Rattle.replay.proofs.Quads.{turn_triangle}
use Rattle.replay.proofs.Shared.{side_shares, shares_side}
use Rattle.plan_law.specs.Images.{image_of, after_flip, after_flips}
use Rattle.plan_law.specs.Improvers.{is_free, greedy, greedy_round}
use Rattle.plan_law.proofs.Images.{flip_leads}
use Rattle.plan_law.proofs.Plans.{distinct_of_ascending}
use Rattle.plan_law.proofs.Improvers.{HasSide, side_tri, edge_source, free_means}
use Rattle.plan_law.proofs.Replays.{sides_of, side_at}
use Rattle.plan_law.proofs.Proved.{images_are_found, greedy_rounds}
use Rattle.plan_moves.specs.Rounds.{HasNoSide, IsTaken, IsPassed, IsTried}

-- ---- the triangles of flips
covered : (F : List Flip) (g : Flip) (t : Triangle) → Contains F g → HasSide g t → Contains (sides_of F) t
covered [] g t (k, l, e) s = absurd (omega arith)
covered (f ∷ F) g t (zero, l, e) (inl i) = (0, omega arith, ap one_side e ∙ sym i)
covered (f ∷ F) g t (zero, l, e) (inr i) = (1, omega arith, ap other_side e ∙ sym i)
covered (f ∷ F) g t (suc k, l, e) s = shift (covered F g t (k, omega arith, e) s)
  where
    shift : Contains (sides_of F) t → Contains (sides_of (f ∷ F)) t
    shift (p, m, i) = (suc (suc p), omega arith, i)

-- a flip is free, or has a triangle in common with another
abbrev pub SharesWith : List Flip → Flip → Type 0
SharesWith F flip = (g : Flip) × Contains F g × ((t : Triangle) × HasSide g t × HasSide flip t)

pub free_or : (F : List Flip) (flip : Flip) → (is_free (sides_of F) flip ≡ true) ⊎ SharesWith F flip
free_or [] flip = inl refl
free_or (g ∷ F) flip = by_tests (is_same (one_side g) (one_side flip) || is_same (one_side g) (other_side flip)) (is_same (other_side g) (one_side flip) || is_same (other_side g) (other_side flip)) (decided (one_side g)) (decided (other_side g)) (free_or F flip)
  where
    rest : Bool
    rest = list_any (λ t. is_same t (one_side flip) || is_same t (other_side flip)) (sides_of F)

    decided : (t : Triangle) → Decides (is_same t (one_side flip) || is_same t (other_side flip)) (HasSide flip t)
    decided t = Decides-or _ _ (same_means t (one_side flip), same_shown t (one_side flip)) (same_means t (other_side flip), same_shown t (other_side flip))

    by_tests : (a b : Bool) → Decides a (HasSide flip (one_side g)) → Decides b (HasSide flip (other_side g)) → (not rest ≡ true) ⊎ SharesWith F flip → (not (a || (b || rest)) ≡ true) ⊎ SharesWith (g ∷ F) flip
    by_tests true b d e r = inr (g, (0, omega arith, refl), (one_side g, inl refl, d.0 refl))
    by_tests false true d e r = inr (g, (0, omega arith, refl), (other_side g, inr refl, e.0 refl))
    by_tests false false d e (inl h) = inl h
    by_tests false false d e (inr (f, (k, l, h), s)) = inr (f, (suc k, omega arith, h), s)

pub edge_listed : (F : List Flip) (g : Flip) → Contains F g → Contains (flipped_edges F) g.edge
edge_listed [] g (k, l, e) = absurd (omega arith)
edge_listed (f ∷ F) g (zero, l, e) = contains_here g.edge f.edge (flipped_edges F) (ap (λ (h : Flip). h.edge) e)
edge_listed (f ∷ F) g (suc k, l, e) = contains_later g.edge f.edge (flipped_edges F) (edge_listed F g (k, omega arith, e))

-- ---- the sides of a quadrilateral
module _ (q : Quad) (taken : List Edge) where
  -- one is taken
  pub has_side : (f : Edge) (b : Bool) → b ≡ false → IsOuterSide q f → Contains taken f → IsTrue b ↔ HasNoSide q taken
  has_side f b e s c = (λ t. absurd (cc), λ n. absurd (n f s c))

  -- three are not
  pub last_side : (b : Bool) → ¬ AreJoined taken q.a q.b → ¬ AreJoined taken q.b q.c → ¬ AreJoined taken q.c q.d → IsTrue b ↔ AreJoined taken q.d q.a → IsTrue (not b) ↔ HasNoSide q taken
  last_side b ab bc cd da = (λ t. none t, λ n. by_test b (λ h. n (edge q.d q.a) (inr (inr (inr refl))) (da.0 h)))
    where
      not_both : (b : Bool) → IsTrue (not b) → IsTrue b → ⊥
      not_both true t h = absurd (cc)
      not_both false t h = absurd (cc)

      none : IsTrue (not b) → HasNoSide q taken
      none t f (inl e) c = ab (subst (Contains taken) e c)
      none t f (inr (inl e)) c = bc (subst (Contains taken) e c)
      none t f (inr (inr (inl e))) c = cd (subst (Contains taken) e c)
      none t f (inr (inr (inr e))) c = not_both b t (da.1 (subst (Contains taken) e c))

      by_test : (b : Bool) → ¬ IsTrue b → IsTrue (not b)
      by_test true n = absurd (n refl)
      by_test false n = refl

-- ---- what was taken so far: the flips, the latest first
pub record Going (points : List Point) (T centre taken es : List Edge) : Type 0 where
  pub flips : List Flip
  pub are_flips : (g : Flip) → Contains flips g → FlipsTo points T g.edge g.image
  pub members : (e : Edge) → Contains taken e ↔ Contains (flipped_edges flips) e
  pub apart : (e : Edge) → Contains taken e → ¬ Contains es e
  pub ascending : IsAscending es
  pub all : (e : Edge) → Contains (flipped_edges (greedy_round points centre T)) e ↔ (Contains taken e ⊎ Contains (flipped_edges (greedy points (crossings points centre) T (sides_of flips) es)) e)

module _ (points : List Point) (P : ArePlaced points) (T : List Edge) (I : IsTriangulation points T) where
  turn : (a b c : ℕ) → IsEmptyTriangle points T a b c → IsEmptyTriangle points T b c a
  turn a b c t = turn_triangle points P T I a b c t

  -- an empty triangle with a flip's edge among its sides is one of its two
  has_by_side : (g : Flip) → FlipsTo points T g.edge g.image → (x y z : ℕ) → IsEmptyTriangle points T x y z → IsSide x y z g.edge → HasSide g (triangle x y z)
  has_by_side g f x y z t (inl e) = side_tri points P T I g f x y z t (sym e)
  has_by_side g f x y z t (inr (inl e)) = subst (HasSide g) (sym (triangle_turn x y z)) (side_tri points P T I g f y z x (turn x y z t) (sym e))
  has_by_side g f x y z t (inr (inr e)) = subst (HasSide g) (triangle_turn z x y) (side_tri points P T I g f z x y (turn y z x (turn x y z t)) (sym e))

  -- flips with a triangle in common have edges that share it
  pub shared : (flip g : Flip) (t : Triangle) → FlipsTo points T flip.edge flip.image → FlipsTo points T g.edge g.image → HasSide g t → HasSide flip t → ShareTriangle points T flip.edge g.edge
  shared flip g t hf hg s s' = by_tris (side_at points P T I flip t hf s') (side_at points P T I g t hg s)
    where
      by_tris : (x y z : ℕ) × IsEmptyTriangle points T x y z × (edge x y ≡ flip.edge) × (t ≡ triangle x y z) → (x y z : ℕ) × IsEmptyTriangle points T x y z × (edge x y ≡ g.edge) × (t ≡ triangle x y z) → ShareTriangle points T flip.edge g.edge
      by_tris (x, y, z, u, e, i) (x', y', z', u', e', i') = (x, y, z, u, inl (sym e), by_side (side_of x' y' z' x y z (sym i' ∙ i)))
        where
          by_side : (edge x' y' ≡ edge x y) ⊎ ((edge x' y' ≡ edge y z) ⊎ (edge x' y' ≡ edge z x)) → IsSide x y z g.edge
          by_side (inl j) = inl (sym e' ∙ j)
          by_side (inr (inl j)) = inr (inl (sym e' ∙ j))
          by_side (inr (inr j)) = inr (inr (sym e' ∙ j))

  -- a flip is free exactly where no side of its quadrilateral is taken
  module _ (F : List Flip) (are : (g : Flip) → Contains F g → FlipsTo points T g.edge g.image) (flip : Flip) (f : FlipsTo points T flip.edge flip.image) (q : Quad) (h : IsQuadAt points T flip.edge q) where
    apart_free : ¬ Contains (flipped_edges F) flip.edge → HasNoSide q (flipped_edges F) → is_free (sides_of F) flip ≡ true
    apart_free fresh n = by_or (free_or F flip)
      where
        by_or : (is_free (sides_of F) flip ≡ true) ⊎ SharesWith F flip → is_free (sides_of F) flip ≡ true
        by_or (inl e) = e
        by_or (inr (g, c, (t, s, s'))) =
            absurd (n g.edge (shares_side points P T I flip.edge g.edge q h (λ i. fresh (subst (Contains (flipped_edges F)) i (edge_listed F g c))) (shared flip g t f (are g c) s s')) (edge_listed F g c))

    free_apart : is_free (sides_of F) flip ≡ true → HasNoSide q (flipped_edges F)
    free_apart free d side c = by_source (edge_source points P T I F d c) (side_shares points P T I flip.edge d q h side)
      where
        by_source : (g : Flip) × Contains F g × (g.edge ≡ d) → ShareTriangle points T flip.edge d → ⊥
        by_source (g, k, e) (x, y, z, t, s, s') =
            free_means (sides_of F) flip (triangle x y z) free (covered F g (triangle x y z) k (has_by_side g (are g k) x y z t (subst (IsSide x y z) (sym e) s'))) (has_by_side flip f x y z t s)

  -- the flip of a quadrilateral's diagonal
  pub quad_flips : (e : Edge) (q : Quad) → IsQuadAt points T e q → FlipsTo points T e (edge q.b q.d)
  quad_flips e q h = (q.a, q.b, q.c, q.d, h.ends ∙ sym (edge_of (q.a, q.c) h.low_first), refl, h.corners)

  quad_image : (e : Edge) (q : Quad) → IsQuadAt points T e q → image_of points T e ≡ Some (edge q.b q.d)
  quad_image e q h = (images_are_found points T e (edge q.b q.d) P I).1 (quad_flips e q h)

  -- its image is a segment
  pub image_segment : (e : Edge) (q : Quad) → IsQuadAt points T e q → IsSegment points (edge q.b q.d)
  image_segment e q h = (flip_triangulation points P T (after_flip T flip) flip I X).segments (edge q.b q.d) ((X.members (edge q.b q.d)).1 (inr refl))
    where
      flip : Flip
      flip = record { edge = e; image = edge q.b q.d }

      X : Leads points T flip (after_flip T flip)
      X = flip_leads points P T I flip (quad_flips e q h)

  -- it is no edge of a point with itself, and it is a segment, as its image is
  pub quad_segment : (e : Edge) (q : Quad) → IsQuadAt points T e q → IsSegment points e
  quad_segment e q h = I.segments e (subst (Contains T) (sym (h.ends ∙ sym (edge_of (q.a, q.c) h.low_first))) h.corners.left.ab)

  pub ends_apart : (e : Edge) (q : Quad) → IsQuadAt points T e q → q.b ≢ q.d
  ends_apart e q h i = (let l = (image_segment e q h).low_first in omega (arith, i, l))

  module _ (centre : List Edge) where
    abbrev weight : Edge → ℕ
    weight = crossings points centre

    abbrev made : Edge → Edge → Flip
    made e f = record { edge = e; image = f }

    -- an edge whose quadrilateral fits is taken, and others are passed over
    pub fits : (taken : List Edge) (e : Edge) (q : Quad) → IsQuadAt points T e q → HasNoSide q taken → (b : Bool) → b ≡ nat_lt (crossings points centre (edge q.b q.d)) (crossings points centre e) → MatchBool b (IsTaken points centre T taken e) (IsPassed points centre T taken e)
    fits taken e q h n true i = (q, h, record { lower = ltb-true _ _ (sym i); apart = n })
    fits taken e q h n false i = inr (q, h, λ K. true≢false (sym (lt-ltb _ _ K.lower) ∙ sym i))

    pub misfits : (taken : List Edge) (e : Edge) (q : Quad) → IsQuadAt points T e q → ¬ HasNoSide q taken → (b : Bool) → b ≡ false → MatchBool b (IsTaken points centre T taken e) (IsPassed points centre T taken e)
    misfits taken e q h n true i = absurd (true≢false i)
    misfits taken e q h n false i = inr (q, h, λ K. n K.apart)

    -- the flips from an edge on, by its image
    abbrev from_image : List Flip → Edge → List Edge → Option Edge → List Flip
    from_image F e es r = elim r [
      | Some f ↦ cond (nat_lt (weight f) (weight e) && is_free (sides_of F) (made e f)) (made e f ∷ greedy points weight T (sides_of (made e f ∷ F)) es) (greedy points weight T (sides_of F) es)
      | None ↦ greedy points weight T (sides_of F) es
    ]

    pub begins : (candidates : List Edge) → IsAscending candidates → greedy_round points centre T ≡ greedy points (crossings points centre) T [] candidates → Going points T centre [] candidates
    begins candidates up same = record {
      flips = [];
      are_flips = λ g (k, l, e). absurd (omega arith);
      members = λ e. (λ h. h, λ h. h);
      apart = λ e (k, l, h). absurd (omega arith);
      ascending = up;
      all = λ e. (λ h. inr (subst (λ flips. Contains (flipped_edges flips) e) same h), λ h. subst (λ flips. Contains (flipped_edges flips) e) (sym same) (right e h));
    }
      where
        right : (e : Edge) → Contains [] e ⊎ Contains (flipped_edges (greedy points weight T [] candidates)) e → Contains (flipped_edges (greedy points weight T [] candidates)) e
        right e (inl (k, l, h)) = absurd (omega arith)
        right e (inr h) = h

    pub ends : (taken : List Edge) → Going points T centre taken [] → IsAscending taken → taken ≡ flipped_edges (greedy_round points centre T)
    ends taken G up = same_members taken (flipped_edges (greedy_round points centre T)) up (greedy_rounds points centre T P I).1 (λ e. (λ h. (G.all e).1 (inl h), λ h. left e ((G.all e).0 h)))
      where
        left : (e : Edge) → Contains taken e ⊎ Contains [] e → Contains taken e
        left e (inl h) = h
        left e (inr (k, l, h)) = absurd (omega arith)

    module _ (taken : List Edge) (e : Edge) (es : List Edge) (G : Going points T centre taken (e ∷ es)) where
      fresh : ¬ Contains (flipped_edges G.flips) e
      fresh h = G.apart e ((G.members e).1 h) (contains_here e e es refl)

      no_side : (q : Quad) → HasNoSide q taken → HasNoSide q (flipped_edges G.flips)
      no_side q n f s h = n f s ((G.members f).1 h)

      no_side_back : (q : Quad) → HasNoSide q (flipped_edges G.flips) → HasNoSide q taken
      no_side_back q n f s h = n f s ((G.members f).0 h)

      -- an edge is taken
      takes : (next : List Edge) → AddsEdge taken next e → IsTaken points centre T taken e → Going points T centre next es
      takes next adds (q, h, K) = record {
        flips = flip ∷ G.flips;
        are_flips = λ g c. flips_by g c;
        members = λ d. (λ c. there d ((adds d).0 c), λ c. (adds d).1 (back d (contains_cases d e (flipped_edges G.flips) c)));
        apart = λ d c. off d ((adds d).0 c);
        ascending = ascending_tail e es G.ascending;
        all = λ d. (λ c. to d ((subst All eq G.all d).0 c), λ c. (subst All eq G.all d).1 (from d c));
      }
        where
          flip : Flip
          flip = made e (edge q.b q.d)

          f : FlipsTo points T e (edge q.b q.d)
          f = quad_flips e q h

          test : (nat_lt (weight (edge q.b q.d)) (weight e) && is_free (sides_of G.flips) flip) ≡ true
          test = both (lt-ltb _ _ K.lower) (apart_free G.flips G.are_flips flip f q h fresh (no_side q K.apart))
            where
              both : {a b : Bool} → a ≡ true → b ≡ true → (a && b) ≡ true
              both i j = cc

          rest : List Flip
          rest = greedy points weight T (sides_of (flip ∷ G.flips)) es

          eq : greedy points weight T (sides_of G.flips) (e ∷ es) ≡ flip ∷ rest
          eq = ap (from_image G.flips e es) (quad_image e q h) ∙ ap (λ v. cond v (flip ∷ rest) (greedy points weight T (sides_of G.flips) es)) test

          All : List Flip → Type 0
          All flips = (d : Edge) → Contains (flipped_edges (greedy_round points centre T)) d ↔ (Contains taken d ⊎ Contains (flipped_edges flips) d)

          flips_by : (g : Flip) → Contains (flip ∷ G.flips) g → FlipsTo points T g.edge g.image
          flips_by g (zero, l, i) = subst (λ (g : Flip). FlipsTo points T g.edge g.image) i f
          flips_by g (suc k, l, i) = G.are_flips g (k, omega arith, i)

          there : (d : Edge) → Contains taken d ⊎ (d ≡ e) → Contains (flipped_edges (flip ∷ G.flips)) d
          there d (inl c) = contains_later d e (flipped_edges G.flips) ((G.members d).0 c)
          there d (inr i) = contains_here d e (flipped_edges G.flips) (sym i)

          back : (d : Edge) → (e ≡ d) ⊎ Contains (flipped_edges G.flips) d → Contains taken d ⊎ (d ≡ e)
          back d (inl i) = inr (sym i)
          back d (inr c) = inl ((G.members d).1 c)

          off : (d : Edge) → Contains taken d ⊎ (d ≡ e) → ¬ Contains es d
          off d (inl c) k = G.apart d c (contains_later d e es k)
          off d (inr i) k = not_before_itself e (ascending_head e es G.ascending e (subst (Contains es) i k))

          split : (d : Edge) → (e ≡ d) ⊎ Contains (flipped_edges rest) d → Contains next d ⊎ Contains (flipped_edges rest) d
          split d (inl i) = inl ((adds d).1 (inr (sym i)))
          split d (inr c) = inr c

          to : (d : Edge) → Contains taken d ⊎ Contains (flipped_edges (flip ∷ rest)) d → Contains next d ⊎ Contains (flipped_edges rest) d
          to d (inl c) = inl ((adds d).1 (inl c))
          to d (inr c) = split d (contains_cases d e (flipped_edges rest) c)

          joined : (d : Edge) → Contains taken d ⊎ (d ≡ e) → Contains taken d ⊎ Contains (flipped_edges (flip ∷ rest)) d
          joined d (inl c) = inl c
          joined d (inr i) = inr (contains_here d e (flipped_edges rest) (sym i))

          from : (d : Edge) → Contains next d ⊎ Contains (flipped_edges rest) d → Contains taken d ⊎ Contains (flipped_edges (flip ∷ rest)) d
          from d (inl c) = joined d ((adds d).0 c)
          from d (inr c) = inr (contains_later d e (flipped_edges rest) c)

      -- an edge is passed over
      skipped : IsPassed points centre T taken e → greedy points weight T (sides_of G.flips) (e ∷ es) ≡ greedy points weight T (sides_of G.flips) es
      skipped (inl n) = by_image (image_of points T e) refl
        where
          by_image : (r : Option Edge) → image_of points T e ≡ r → from_image G.flips e es r ≡ greedy points weight T (sides_of G.flips) es
          by_image None i = refl
          by_image (Some f) i = absurd (n (f, (images_are_found points T e f P I).0 i))
      skipped (inr (q, h, n)) = ap (from_image G.flips e es) (quad_image e q h) ∙ by_tests (nat_lt (weight (edge q.b q.d)) (weight e)) (is_free (sides_of G.flips) flip) refl refl
        where
          flip : Flip
          flip = made e (edge q.b q.d)

          by_tests : (a b : Bool) → nat_lt (weight (edge q.b q.d)) (weight e) ≡ a → is_free (sides_of G.flips) flip ≡ b
              → cond (a && b) (flip ∷ greedy points weight T (sides_of (flip ∷ G.flips)) es) (greedy points weight T (sides_of G.flips) es) ≡ greedy points weight T (sides_of G.flips) es
          by_tests true true i j = absurd (n (record { lower = ltb-true _ _ i; apart = no_side_back q (free_apart G.flips G.are_flips flip (quad_flips e q h) q h j) }))
          by_tests true false i j = refl
          by_tests false b i j = refl

      passes : IsPassed points centre T taken e → Going points T centre taken es
      passes p = record {
        flips = G.flips;
        are_flips = G.are_flips;
        members = G.members;
        apart = λ d c k. G.apart d c (contains_later d e es k);
        ascending = ascending_tail e es G.ascending;
        all = subst (λ flips. (d : Edge) → Contains (flipped_edges (greedy_round points centre T)) d ↔ (Contains taken d ⊎ Contains (flipped_edges flips) d)) (skipped p) G.all;
      }

      -- one or the other
      pub tried : (next : List Edge) → IsTried points centre T taken e next → Going points T centre next es
      tried next (inl (t, adds)) = takes next adds t
      tried next (inr (p, i)) = subst (λ l. Going points T centre l es) (sym i) (passes p)

    -- ---- the whole round
    pub independent : AreIndependent points T (flipped_edges (greedy_round points centre T))
    independent =
        let r = greedy_rounds points centre T P I in
        let R : IsRound points T (flipped_edges (greedy_round points centre T)) (after_flips T (greedy_round points centre T)) = r.0 in
        record { flips = R.flips; distinct = distinct_of_ascending _ r.1; apart = R.apart }

    pub after_is : (next : List Edge) → IsRound points T (flipped_edges (greedy_round points centre T)) next → next ≡ after_flips T (greedy_round points centre T)
    after_is next K =
        let R : IsRound points T (flipped_edges (greedy_round points centre T)) (after_flips T (greedy_round points centre T)) = (greedy_rounds points centre T P I).0 in
        same_members next (after_flips T (greedy_round points centre T)) K.ascending R.ascending (λ e. (λ h. (R.members e).1 ((K.members e).0 h), λ h. (K.members e).1 ((R.members e).0 h)))
