-- A flip touches the four sides of its quadrilateral alone: other edges are bad after it exactly where they were before.
use Rattle.std.proofs.Common.{◌≡◌, ◌≢◌, ◌∙◌, ◌⊎◌, inl, inr, ◌↔◌, ℕ, List, Contains, refl, sym, subst, subst₂}
use Rattle.geo_orient.specs.declared.Point.{Point}
use Rattle.edge_table.specs.declared.edge.Edge.{Edge}
use Rattle.edge_table.specs.Edges.{edge, RemovesEdge}
use Rattle.edge_table.proofs.Edges.{edge_of, edge_discrete, dec_contains}
use Rattle.tri_theory.specs.Points.{ArePlaced}
use Rattle.tri_theory.specs.Triangulations.{AreJoined, Crosses, IsTriangulation}
use Rattle.tri_theory.specs.Flips.{IsFlip}
use Rattle.tri_theory.proofs.Plane.{Plane}
use Rattle.tri_theory.proofs.Net.{Tri, Net}
use Rattle.tri_theory.proofs.Flip.{Quad as Corners, Same, Swapped, same_swap, turn_tri, one_apex, half_turn, half_swapped, image_tri}
use Rattle.tri_theory.proofs.Edges.{edge_same, same_edge}
use Rattle.tri_theory.proofs.Lists.{plane, net_of, tri_to, tri_from, quad_to, one_image_of}
use Rattle.tri_theory.proofs.Single.{flip_triangulation}
use Rattle.flip_mesh.specs.declared.mesh.Quad.{Quad}
use Rattle.flip_mesh.specs.Answers.{IsQuadAt}
use Rattle.lawson_law.specs.LawsonRuns.{IsBad}
use Rattle.lawson_start.specs.Steps.{AreBad, IsRetested, IsNoSide, AreSidesRetested}
use Rattle.lawson_start.proofs.Corners.{bad_member}

-- x and z are joined neither by a diagonal nor by a side of a, b, c, d
record Off (a b c d x z : ℕ) : Type 0 where
  pub ac : ¬ Same a c x z
  pub ab : ¬ Same a b x z
  pub bc : ¬ Same b c x z
  pub cd : ¬ Same c d x z
  pub da : ¬ Same d a x z

off_swap : {a b c d x z : ℕ} → Off a b c d x z → Off a b c d z x
off_swap h = record { ac = λ s. h.ac (same_swap s); ab = λ s. h.ab (same_swap s); bc = λ s. h.bc (same_swap s); cd = λ s. h.cd (same_swap s); da = λ s. h.da (same_swap s) }

module _ (S : Plane) (J K : ℕ → ℕ → Type 0) (N : Net S J) (a b c d : ℕ) (right : Tri S J a b c) (over : Tri S J a c d) (moves : (x y : ℕ) → J x y → ¬ Same a c x y → K x y) where
  at_ac : (z : ℕ) → Tri S J a c z → z ≡ d
  at_ac z t = one_apex S J N a c z d t over

  at_ca : (z : ℕ) → Tri S J c a z → z ≡ b
  at_ca z t = one_apex S J N c a z b t (turn_tri S J (turn_tri S J right))

  not_first : (x y z : ℕ) → Tri S J x y z → Off a b c d x z → ¬ Same a c x y
  not_first x y z t o (inl s) = o.da (inr (s.0, at_ac z (subst₂ (λ i j. Tri S J i j z) s.0 s.1 t)))
  not_first x y z t o (inr s) = o.bc (inr (s.0, at_ca z (subst₂ (λ i j. Tri S J i j z) s.0 s.1 t)))

  not_second : (x y z : ℕ) → Tri S J x y z → Off a b c d x z → ¬ Same a c y z
  not_second x y z t o (inl s) = o.cd (inr (at_ac x (subst₂ (λ i j. Tri S J i j x) s.0 s.1 (turn_tri S J t)), s.1))
  not_second x y z t o (inr s) = o.ab (inr (at_ca x (subst₂ (λ i j. Tri S J i j x) s.0 s.1 (turn_tri S J t)), s.1))

  -- a triangle at an edge that is neither stays
  tri_moves : (x y z : ℕ) → Tri S J x y z → Off a b c d x z → Tri S K x y z
  tri_moves x y z t o = record {
    turns = t.turns;
    ab = moves x y t.ab (not_first x y z t o);
    bc = moves y z t.bc (not_second x y z t o);
    ca = moves z x t.ca (λ s. o.ac (same_swap s));
    empty = t.empty;
  }

  other_moves : (x z w : ℕ) → Tri S J x z w → Off a b c d x z → Tri S K x z w
  other_moves x z w t o = turn_tri S K (turn_tri S K (tri_moves z w x (turn_tri S J t) (off_swap o)))

module _ (points : List Point) (P : ArePlaced points) (T U : List Edge) (e f : Edge) (I : IsTriangulation points T) (F : IsFlip points T e f U) (q : Quad) (h : IsQuadAt points T e q) where
  abbrev S : Plane
  S = plane points P

  abbrev a : ℕ
  a = q.a

  abbrev b : ℕ
  b = q.b

  abbrev c : ℕ
  c = q.c

  abbrev d : ℕ
  d = q.d

  K : IsTriangulation points U
  K = flip_triangulation points P T U e f I F

  is_edge : e ≡ edge a c
  is_edge = h.ends ∙ sym (edge_of (q.a, q.c) h.low_first)

  is_image : f ≡ edge b d
  is_image = one_image_of points P T I e f (edge b d) F.flips (a, b, c, d, is_edge, refl, h.corners)

  corners : Corners S (AreJoined T) a b c d
  corners = quad_to points P T a b c d h.corners

  swapped : Swapped (AreJoined T) (AreJoined U) a b c d
  swapped = record {
    decided = λ x y. dec_contains U (edge x y);
    split = λ {x} {y} k. by_cases x y ((F.members (edge x y)).0 k);
    old = λ {x} {y} j n. (F.members (edge x y)).1 (inl (j, λ i. n (edge_same a c x y (i ∙ is_edge))));
    new = λ {x} {y} s. (F.members (edge x y)).1 (inr (same_edge b d x y s ∙ sym is_image));
  }
    where
      by_cases : (x y : ℕ) → (Contains T (edge x y) × (edge x y ≢ e)) ⊎ (edge x y ≡ f) → (AreJoined T x y × ¬ Same a c x y) ⊎ Same b d x y
      by_cases x y (inl k) = inl (k.0, λ s. k.1 (same_edge a c x y s ∙ sym is_edge))
      by_cases x y (inr i) = inr (edge_same b d x y (i ∙ is_image))

  image : Tri S (AreJoined U) b d a
  image = image_tri S (AreJoined T) (AreJoined U) (net_of points P T I) corners swapped

  beyond : Tri S (AreJoined U) b c d
  beyond = turn_tri S (AreJoined U) (image_tri S (AreJoined T) (AreJoined U) (net_of points P T I) (half_turn S (AreJoined T) corners) (half_swapped swapped))

  back : (x y : ℕ) → AreJoined U x y → ¬ Same b d x y → AreJoined T x y
  back x y j n = by_cases (swapped.split j)
    where
      by_cases : (AreJoined T x y × ¬ Same a c x y) ⊎ Same b d x y → AreJoined T x y
      by_cases (inl k) = k.0
      by_cases (inr s) = absurd (n s)

  module _ (g : Edge) (not_e : g ≢ e) (not_f : g ≢ f) (no_side : IsNoSide q g) where
    off : (x z : ℕ) → g ≡ edge x z → Off a b c d x z
    off x z i = record {
      ac = λ s. not_e (i ∙ same_edge a c x z s ∙ sym is_edge);
      ab = λ s. no_side.ab (i ∙ same_edge a b x z s);
      bc = λ s. no_side.bc (i ∙ same_edge b c x z s);
      cd = λ s. no_side.cd (i ∙ same_edge c d x z s);
      da = λ s. no_side.da (i ∙ same_edge d a x z s);
    }

    off_image : (x z : ℕ) → g ≡ edge x z → Off b c d a x z
    off_image x z i = record {
      ac = λ s. not_f (i ∙ same_edge b d x z s ∙ sym is_image);
      ab = λ s. no_side.bc (i ∙ same_edge b c x z s);
      bc = λ s. no_side.cd (i ∙ same_edge c d x z s);
      cd = λ s. no_side.da (i ∙ same_edge d a x z s);
      da = λ s. no_side.ab (i ∙ same_edge a b x z s);
    }

    bad_to : IsBad points T g → IsBad points U g
    bad_to (x, y, z, w, i, r, u) = (
      x,
      y,
      z,
      w,
      i,
      record {
        right = tri_from points P U x y z (tri_moves S (AreJoined T) (AreJoined U) (net_of points P T I) a b c d corners.right corners.over (λ s t. swapped.old) x y z (tri_to points P T x y z r.right) (off x z i));
        left = tri_from points P U x z w (other_moves S (AreJoined T) (AreJoined U) (net_of points P T I) a b c d corners.right corners.over (λ s t. swapped.old) x z w (tri_to points P T x z w r.left) (off x z i));
        crosses = r.crosses;
      },
      u,
    )

    bad_from : IsBad points U g → IsBad points T g
    bad_from (x, y, z, w, i, r, u) = (
      x,
      y,
      z,
      w,
      i,
      record {
        right = tri_from points P T x y z (tri_moves S (AreJoined U) (AreJoined T) (net_of points P U K) b c d a beyond image back x y z (tri_to points P U x y z r.right) (off_image x z i));
        left = tri_from points P T x z w (other_moves S (AreJoined U) (AreJoined T) (net_of points P U K) b c d a beyond image back x z w (tri_to points P U x z w r.left) (off_image x z i));
        crosses = r.crosses;
      },
      u,
    )

  -- the edge itself is gone
  gone : ¬ IsBad points U e
  gone k = by_cases ((F.members e).0 m)
    where
      m : Contains U e
      m = bad_member points U e k

      by_cases : (Contains T e × (e ≢ e)) ⊎ (e ≡ f) → ⊥
      by_cases (inl n) = n.1 refl
      by_cases (inr i) = K.planar e f m (subst (Contains U) i m) (subst₂ (λ s t. Crosses points s t) (sym is_edge) (sym is_image) h.corners.crosses)

  -- so the bad edges are known once the image and the sides are tested
  pub still_bad : (bad less tested done : List Edge) → AreBad points T bad → RemovesEdge bad less e → IsRetested points U less tested f → AreSidesRetested points U tested done q → AreBad points U done
  still_bad bad less tested done B L R D = record { members = λ g. by_side g (edge_discrete g (edge a b)) (edge_discrete g (edge b c)) (edge_discrete g (edge c d)) (edge_discrete g (edge d a)) }
    where
      At : Edge → Type 0
      At g = Contains done g ↔ IsBad points U g

      inner : (g : Edge) → IsNoSide q g → g ≢ f → Dec (g ≡ e) → At g
      inner g n nf (yes i) = (λ k. absurd (((L g).0 (((R.others g nf).0 ((D.others g n).0 k)))).1 i), λ k. absurd (gone (subst (IsBad points U) i k)))
      inner g n nf (no ne) = (
        λ k. bad_to g ne nf n ((B.members g).0 ((L g).0 ((R.others g nf).0 ((D.others g n).0 k))).0),
        λ k. (D.others g n).1 ((R.others g nf).1 ((L g).1 ((B.members g).1 (bad_from g ne nf n k), ne))),
      )

      at_image : (g : Edge) → IsNoSide q g → Dec (g ≡ f) → At g
      at_image g n (yes i) = subst At (sym i) (λ k. R.here.0 ((D.others f (subst (IsNoSide q) i n)).0 k), λ k. (D.others f (subst (IsNoSide q) i n)).1 (R.here.1 k))
      at_image g n (no nf) = inner g n nf (edge_discrete g e)

      by_side : (g : Edge) → Dec (g ≡ edge a b) → Dec (g ≡ edge b c) → Dec (g ≡ edge c d) → Dec (g ≡ edge d a) → At g
      by_side g (yes i) _ _ _ = subst At (sym i) D.ab
      by_side g (no n) (yes i) _ _ = subst At (sym i) D.bc
      by_side g (no n) (no m) (yes i) _ = subst At (sym i) D.cd
      by_side g (no n) (no m) (no l) (yes i) = subst At (sym i) D.da
      by_side g (no n) (no m) (no l) (no k) = at_image g (record { ab = n; bc = m; cd = l; da = k }) (edge_discrete g f)
