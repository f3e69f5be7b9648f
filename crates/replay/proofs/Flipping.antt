-- The edges of a round, flipped one after the other: each still flips after those before it, and together they are the round.
use Rattle.std.proofs.Common.{◌≡◌, ◌⊎◌, inl, inr, ◌↔◌, ◌∙◌, ℕ, ◌+◌, ◌<◌, List, length, get_or, take, Contains, refl, sym, subst, arith}
use Rattle.std.proofs.lemmas.List.{length-take, get_or-take}
use Rattle.geo_orient.specs.declared.Point.{Point}
use Rattle.edge_table.specs.declared.edge.Edge.{Edge}
use Rattle.edge_table.specs.Edges.{edge}
use Rattle.edge_table.proofs.Edges.{edge_swap}
use Rattle.tri_theory.specs.Points.{ArePlaced}
use Rattle.tri_theory.specs.Triangulations.{AreJoined, IsEmptyTriangle, IsTriangulation}
use Rattle.tri_theory.specs.Flips.{FlipsTo, Flips, IsFlip}
use Rattle.tri_theory.specs.Rounds.{IsRound}
use Rattle.tri_theory.proofs.Plane.{Plane}
use Rattle.tri_theory.proofs.Flip.{Quad}
use Rattle.tri_theory.proofs.Edges.{joined_swap}
use Rattle.tri_theory.proofs.Lists.{plane, quad_to, quad_from, one_image_of}
use Rattle.tri_theory.proofs.Schedules.{next_triangulation}
use Rattle.flip_list_law.specs.FlipLists.{with_edge}
use Rattle.flip_list_law.proofs.Commute.{Sides, moved_quad}
use Rattle.flip_list_law.proofs.FlipSets.{with_edge_cases, with_edge_has, joins_round}
use Rattle.replay.specs.Independent.{HasNoRepeats, AreIndependent}
use Rattle.replay.proofs.Lists.{more_cases, more_here, taken_inside}
use Rattle.replay.proofs.Quads.{turn_triangle}

-- the edge at a place isn't among those before it
not_before : (es : List Edge) (i : ℕ) (e : Edge) → HasNoRepeats es → i < length es → e ≡ get_or es i e → ¬ Contains (take i es) e
not_before es i e up l m (k, j, h) =
    let below : k < i = let n = length-take i es in omega arith in
    up k i e below l (sym (get_or-take i es k e below) ∙ h ∙ m)

module _ (points : List Point) (P : ArePlaced points) (T : List Edge) (I : IsTriangulation points T) where
  abbrev S : Plane
  S = plane points P

  turn : (a b c : ℕ) → IsEmptyTriangle points T a b c → IsEmptyTriangle points T b c a
  turn a b c t = turn_triangle points P T I a b c t

  -- a round is the same whatever way its edges are listed
  same_members_round : (F G U : List Edge) → ((g : Edge) → Contains F g ↔ Contains G g) → IsRound points T F U → IsRound points T G U
  same_members_round F G U is R = record {
    flips = λ e h. R.flips e ((is e).1 h);
    apart = λ a b c t h k. R.apart a b c t ((is (edge a b)).1 h) ((is (edge b c)).1 k);
    ascending = R.ascending;
    members = λ f. (λ h. to f ((R.members f).0 h), λ h. (R.members f).1 (from f h));
  }
    where
      to : (f : Edge) → (Contains T f × ¬ Contains F f) ⊎ ((e : Edge) × Contains F e × FlipsTo points T e f) → (Contains T f × ¬ Contains G f) ⊎ ((e : Edge) × Contains G e × FlipsTo points T e f)
      to f (inl h) = inl (h.0, λ k. h.1 ((is f).1 k))
      to f (inr (e, h, k)) = inr (e, (is e).0 h, k)

      from : (f : Edge) → (Contains T f × ¬ Contains G f) ⊎ ((e : Edge) × Contains G e × FlipsTo points T e f) → (Contains T f × ¬ Contains F f) ⊎ ((e : Edge) × Contains F e × FlipsTo points T e f)
      from f (inl h) = inl (h.0, λ k. h.1 ((is f).0 k))
      from f (inr (e, h, k)) = inr (e, (is e).1 h, k)

  -- the quadrilateral of an edge, whose sides are joined
  record Stands (now : List Edge) (e : Edge) : Type 0 where
    pub a : ℕ
    pub b : ℕ
    pub c : ℕ
    pub d : ℕ
    pub ends : e ≡ edge a c
    pub corners : Quad S (AreJoined T) a b c d
    pub sides : Sides (AreJoined now) a b c d

  module _ (round now : List Edge) (i : ℕ) (e : Edge) (A : AreIndependent points T round) (l : i < length round) (m : e ≡ get_or round i e) (R : IsRound points T (take i round) now) where
    here : Contains round e
    here = (i, l, sym m)

    -- once the edges before it are flipped, the edge's quadrilateral still stands
    stands : Stands now e
    stands = by_flip (A.flips e here)
      where
        by_flip : Flips points T e → Stands now e
        by_flip (f, (a, b, c, d, he, hf, q)) = record {
          a = a;
          b = b;
          c = c;
          d = d;
          ends = he;
          corners = quad_to points P T a b c d q;
          sides = record {
            ac = kept a c q.left.ab (λ h. not_before round i e A.distinct l m (subst (Contains (take i round)) (sym he) h));
            ab = kept a b q.right.ab (λ h. A.apart c a b (turn b c a bca) reversed (inside a b h));
            bc = kept b c q.right.bc (λ h. A.apart b c a bca (inside b c h) reversed);
            cd = kept c d q.left.bc (λ h. A.apart a c d q.left diagonal (inside c d h));
            da = kept d a q.left.ca (λ h. A.apart d a c (turn c d a (turn a c d q.left)) (inside d a h) diagonal);
          };
        }
          where
            diagonal : AreJoined round a c
            diagonal = subst (Contains round) he here

            reversed : AreJoined round c a
            reversed = subst (Contains round) (he ∙ edge_swap a c) here

            bca : IsEmptyTriangle points T b c a
            bca = turn a b c q.right

            inside : (x y : ℕ) → AreJoined (take i round) x y → AreJoined round x y
            inside x y h = taken_inside i round (edge x y) h

            kept : (x y : ℕ) → AreJoined T x y → ¬ AreJoined (take i round) x y → AreJoined now x y
            kept x y j n = (R.members (edge x y)).1 (inl (j, n))

    image_of : (s : Stands now e) → FlipsTo points now e (edge s.b s.d)
    image_of s = (s.a, s.b, s.c, s.d, s.ends, refl, quad_from points P now s.a s.b s.c s.d (moved_quad S (AreJoined T) (AreJoined now) (joined_swap now) s.corners s.sides))

    -- so it flips
    pub still_flips : Flips points now e
    still_flips = (edge stands.b stands.d, image_of stands)

    -- and makes one round with them
    pub round_more : (f : Edge) (next : List Edge) → IsFlip points now e f next → IsRound points T (take (i + 1) round) next
    round_more f next X = by_corners stands
      where
        same : (g : Edge) → Contains (with_edge e (take i round)) g ↔ Contains (take (i + 1) round) g
        same g = (λ h. more_here round i e g l m (to (with_edge_cases e g (take i round) h)), λ h. with_edge_has e g (take i round) (from (more_cases round i e g l m h)))
          where
            to : (g ≡ e) ⊎ Contains (take i round) g → Contains (take i round) g ⊎ (e ≡ g)
            to (inl h) = inr (sym h)
            to (inr h) = inl h

            from : Contains (take i round) g ⊎ (e ≡ g) → (g ≡ e) ⊎ Contains (take i round) g
            from (inl h) = inr h
            from (inr h) = inl (sym h)

        by_corners : Stands now e → IsRound points T (take (i + 1) round) next
        by_corners s =
            same_members_round (with_edge e (take i round)) (take (i + 1) round) next same
            (joins_round points P T now (take i round) I R (record { edge = e; image = f }) s.a s.b s.c s.d
            (record { ends = s.ends; image_ends = one_image_of points P now (next_triangulation points P T (take i round) now I R) e f (edge s.b s.d) X.flips (image_of s) })
            s.corners s.sides next X)
