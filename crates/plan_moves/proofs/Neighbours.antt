-- What flips after a round: an image of the round, an edge that shares a triangle with one of the round, or an edge that flipped before, and to the same image.
use Rattle.std.proofs.Common.{◌≡◌, ◌⊎◌, inl, inr, ◌∙◌, ℕ, List, Contains, sym, ap, subst, subst₂}
use Rattle.geo_orient.specs.declared.Point.{Point}
use Rattle.edge_table.specs.declared.edge.Edge.{Edge}
use Rattle.edge_table.specs.Edges.{edge}
use Rattle.edge_table.proofs.Edges.{edge_swap}
use Rattle.tri_theory.specs.Points.{ArePlaced}
use Rattle.tri_theory.specs.Triangulations.{AreJoined, IsEmptyTriangle, IsTriangulation}
use Rattle.tri_theory.specs.Flips.{FlipsTo}
use Rattle.tri_theory.specs.Rounds.{IsRound}
use Rattle.tri_theory.proofs.Plane.{Plane}
use Rattle.tri_theory.proofs.Net.{Tri, Net}
use Rattle.tri_theory.proofs.Flip.{Same, Quad, half_turn, one_apex}
use Rattle.tri_theory.proofs.Round.{In, in_swap, Round, image_after, back_quad}
use Rattle.tri_theory.proofs.Edges.{edge_same}
use Rattle.tri_theory.proofs.Lists.{plane, tri_to, net_of, quad_to, quad_from}
use Rattle.tri_theory.proofs.Schedules.{in_to, round_to, next_triangulation}
use Rattle.flip_list_law.proofs.FlipSets.{round_ordered}
use Rattle.replay.specs.Independent.{ShareTriangle}
use Rattle.replay.proofs.Quads.{turn_triangle}

module _ (points : List Point) (P : ArePlaced points) (T F U : List Edge) (I : IsTriangulation points T) (R : IsRound points T F U) where
  abbrev S : Plane
  S = plane points P

  abbrev J : ℕ → ℕ → Type 0
  J = AreJoined T

  I' : IsTriangulation points U
  I' = next_triangulation points P T F U I R

  M : Net S (AreJoined U)
  M = net_of points P U I'

  round : Round S J (In F) (AreJoined U)
  round = round_to points P T F U I R

  within : (a c : ℕ) → Contains F (edge a c) → In F a c
  within a c h = in_to F (round_ordered points P T F U I R) a c h

  -- a triangle at an image
  after : (a b c d : ℕ) → Contains F (edge a c) → Quad S J a b c d → Tri S (AreJoined U) b d a
  after a b c d h q = image_after S J (In F) (AreJoined U) (net_of points P T I) (in_swap F) round (within a c h) q

  -- an image flips back
  pub flips_back : (g e : Edge) → Contains F g → FlipsTo points T g e → FlipsTo points U e g
  flips_back g e h (a, b, c, d, he, hf, q) = (
    b,
    c,
    d,
    a,
    hf,
    he ∙ edge_swap a c,
    quad_from points P U b c d a (back_quad S J (In F) (AreJoined U) (net_of points P T I) (in_swap F) round (within a c (subst (Contains F) he h)) (quad_to points P T a b c d q)),
  )

  -- e is an image of the round
  abbrev pub IsNew : Edge → Type 0
  IsNew e = (g : Edge) × Contains F g × FlipsTo points T g e

  -- e shares a triangle with an edge of the round
  abbrev pub IsBeside : Edge → Type 0
  IsBeside e = (g : Edge) × Contains F g × ShareTriangle points T g e

  -- the other two sides of a triangle at an image are sides of the quadrilateral
  image_sides : (g : Edge) → Contains F g → (u v w : ℕ) → FlipsTo points T g (edge u v) → IsEmptyTriangle points U u v w → IsBeside (edge v w) × IsBeside (edge w u)
  image_sides g h u v w (a, b, c, d, he, hf, q) t = by_same (edge_same b d u v hf)
    where
      s : Quad S J a b c d
      s = quad_to points P T a b c d q

      back : g ≡ edge c a
      back = he ∙ edge_swap a c

      at_a : w ≡ a → IsBeside (edge d w) × IsBeside (edge w b)
      at_a e = ((g, h, (a, c, d, q.left, inl he, inr (inr (ap (edge d) e)))), (g, h, (a, b, c, q.right, inr (inr back), inl (ap (λ x. edge x b) e))))

      at_c : w ≡ c → IsBeside (edge b w) × IsBeside (edge w d)
      at_c e = ((g, h, (a, b, c, q.right, inr (inr back), inr (inl (ap (edge b) e)))), (g, h, (a, c, d, q.left, inl he, inr (inl (ap (λ x. edge x d) e)))))

      there : (x y : ℕ) → u ≡ x → v ≡ y → Tri S (AreJoined U) x y w
      there x y i j = subst₂ (λ x y. Tri S (AreJoined U) x y w) i j (tri_to points P U u v w t)

      by_same : Same b d u v → IsBeside (edge v w) × IsBeside (edge w u)
      by_same (inl m) =
          subst₂ (λ x y. IsBeside (edge y w) × IsBeside (edge w x)) (sym m.0) (sym m.1)
          (at_a (one_apex S (AreJoined U) M b d w a (there b d m.0 m.1) (after a b c d (subst (Contains F) he h) s)))
      by_same (inr m) =
          subst₂ (λ x y. IsBeside (edge y w) × IsBeside (edge w x)) (sym m.0) (sym m.1)
          (at_c (one_apex S (AreJoined U) M d b w c (there d b m.0 m.1) (after c d a b (subst (Contains F) back h) (half_turn S J s))))

  -- at an edge that isn't new a triangle is an old one, or has an image for a side
  beside_or_old : (x y z : ℕ) → AreJoined T x y → IsEmptyTriangle points U x y z → IsBeside (edge x y) ⊎ IsEmptyTriangle points T x y z
  beside_or_old x y z j t = by_sides ((R.members (edge y z)).0 t.bc) ((R.members (edge z x)).0 t.ca)
    where
      turned : IsEmptyTriangle points U y z x
      turned = turn_triangle points P U I' x y z t

      by_sides : (Contains T (edge y z) × ¬ Contains F (edge y z)) ⊎ IsNew (edge y z) → (Contains T (edge z x) × ¬ Contains F (edge z x)) ⊎ IsNew (edge z x) → IsBeside (edge x y) ⊎ IsEmptyTriangle points T x y z
      by_sides (inl h) (inl k) = inr (record { turns = t.turns; ab = j; bc = h.0; ca = k.0; empty = t.empty })
      by_sides (inr (g, h, f)) k = inl (image_sides g h y z x f turned).1
      by_sides (inl h) (inr (g, k, f)) = inl (image_sides g k z x y f (turn_triangle points P U I' y z x turned)).0

  -- what flips after the round
  pub flips_after : (e f : Edge) → FlipsTo points U e f → IsNew e ⊎ ((¬ Contains F e) × (IsBeside e ⊎ FlipsTo points T e f))
  flips_after e f (a, b, c, d, he, hf, q) = by_split ((R.members e).0 (subst (Contains U) (sym he) q.left.ab))
    where
      by_triangles : IsBeside (edge c a) ⊎ IsEmptyTriangle points T c a b → IsBeside (edge a c) ⊎ IsEmptyTriangle points T a c d → IsBeside e ⊎ FlipsTo points T e f
      by_triangles (inl s) k = inl (subst IsBeside (sym (he ∙ edge_swap a c)) s)
      by_triangles (inr t) (inl s) = inl (subst IsBeside (sym he) s)
      by_triangles (inr t) (inr u) = inr (a, b, c, d, he, hf, record { right = turn_triangle points P T I c a b t; left = u; crosses = q.crosses })

      by_split : (Contains T e × ¬ Contains F e) ⊎ IsNew e → IsNew e ⊎ ((¬ Contains F e) × (IsBeside e ⊎ FlipsTo points T e f))
      by_split (inr i) = inl i
      by_split (inl h) =
          inr (
            h.1,
            by_triangles (beside_or_old c a b (subst (Contains T) (he ∙ edge_swap a c) h.0) (turn_triangle points P U I' b c a (turn_triangle points P U I' a b c q.right)))
                (beside_or_old a c d (subst (Contains T) he h.0) q.left),
          )
