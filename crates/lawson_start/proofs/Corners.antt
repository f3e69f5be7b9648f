-- Whether an edge is bad is told by the one quadrilateral at it.
use Rattle.std.proofs.Common.{◌≡◌, ◌≢◌, ◌∙◌, inl, inr, ◌↔◌, ℕ, ◌<◌, min, pos, ◌<ℤ◌, List, [], ◌∷◌, length, Contains, refl, sym, subst, subst₂, arith}
use Rattle.geo_orient.specs.declared.Point.{Point}
use Rattle.geo_orient.specs.Predicates.{in_circle}
use Rattle.geo_orient.proofs.Ring.{Term, solve}
use Rattle.geo_orient.proofs.Ring.Term.{var, plus, times, minus}
use Rattle.edge_table.specs.declared.edge.Edge.{Edge}
use Rattle.edge_table.specs.Edges.{edge}
use Rattle.edge_table.proofs.Edges.{edge_of}
use Rattle.tri_theory.specs.Points.{point, ArePlaced}
use Rattle.tri_theory.specs.Triangulations.{AreJoined, IsEmptyTriangle, IsTriangulation}
use Rattle.tri_theory.specs.Flips.{IsQuad, Flips}
use Rattle.tri_theory.proofs.Net.{Net}
use Rattle.tri_theory.proofs.Flip.{Same}
use Rattle.tri_theory.proofs.Edges.{edge_same, joined_swap}
use Rattle.tri_theory.proofs.Lists.{plane, net_of}
use Rattle.flip_mesh.specs.declared.mesh.Quad.{Quad}
use Rattle.flip_mesh.specs.Answers.{IsQuadAt}
use Rattle.flip_mesh.proofs.Quads.{turn_triangle, same_apex, half_turned}
use Rattle.lawson_law.specs.Circles.{IsUnder}
use Rattle.lawson_law.specs.LawsonRuns.{IsBad}

-- ---- the circle's determinant, seen from the other side
abbrev less : Term → Term → Term
less s t = plus s (minus t)

abbrev Spot : Type 0
Spot = Term × Term

abbrev turn_term : Spot → Spot → Spot → Term
turn_term a b c = less (times (less b.0 a.0) (less c.1 a.1)) (times (less b.1 a.1) (less c.0 a.0))

abbrev far : Spot → Spot → Term
far p a = plus (times (less a.0 p.0) (less a.0 p.0)) (times (less a.1 p.1) (less a.1 p.1))

abbrev circle_term : Spot → Spot → Spot → Spot → Term
circle_term a b c p = plus (less (times (far p a) (turn_term p b c)) (times (far p b) (turn_term p a c))) (times (far p c) (turn_term p a b))

half_circle : (a b c d : Point) → in_circle c d a b ≡ in_circle a b c d
half_circle a b c d =
    solve (a.x ∷ a.y ∷ b.x ∷ b.y ∷ c.x ∷ c.y ∷ d.x ∷ d.y ∷ []) (circle_term (var 4, var 5) (var 6, var 7) (var 0, var 1) (var 2, var 3)) (circle_term (var 0, var 1) (var 2, var 3) (var 4, var 5) (var 6, var 7)) tt

under_half : (points : List Point) (a b c d : ℕ) → IsUnder points a b c d → IsUnder points c d a b
under_half points a b c d (inl h) = inl (subst (λ z. pos 0 <ℤ z) (sym (half_circle (point points a) (point points b) (point points c) (point points d))) h)
under_half points a b c d (inr (e, l)) = inr (half_circle (point points a) (point points b) (point points c) (point points d) ∙ e, lower l)
  where
    lower : min b d < min a c → min d b < min c a
    lower k = omega arith

-- ---- a bad edge flips, and is a member
pub bad_flips : (points : List Point) (T : List Edge) (e : Edge) → IsBad points T e → Flips points T e
bad_flips points T e (x, y, z, w, he, r, u) = (edge y w, (x, y, z, w, he, refl, r))

pub bad_member : (points : List Point) (T : List Edge) (e : Edge) → IsBad points T e → Contains T e
bad_member points T e (x, y, z, w, he, r, u) = subst (Contains T) (sym he) (joined_swap T z x r.right.ca)

module _ (points : List Point) (P : ArePlaced points) (T : List Edge) (I : IsTriangulation points T) where
  abbrev N : Net (plane points P) (AreJoined T)
  N = net_of points P T I

  -- the corners are points
  pub a_in : (a b c d : ℕ) → IsQuad points T a b c d → a < length points
  a_in a b c d r = N.in_range r.right.ca

  pub b_in : (a b c d : ℕ) → IsQuad points T a b c d → b < length points
  b_in a b c d r = N.in_range r.right.ab

  pub c_in : (a b c d : ℕ) → IsQuad points T a b c d → c < length points
  c_in a b c d r = N.in_range r.right.bc

  pub d_in : (a b c d : ℕ) → IsQuad points T a b c d → d < length points
  d_in a b c d r = N.in_range r.left.bc

  -- neighbouring corners are distinct
  pub a_not_b : (a b c d : ℕ) → IsQuad points T a b c d → a ≢ b
  a_not_b a b c d r = N.apart r.right.ab

  pub b_not_c : (a b c d : ℕ) → IsQuad points T a b c d → b ≢ c
  b_not_c a b c d r = N.apart r.right.bc

  pub c_not_d : (a b c d : ℕ) → IsQuad points T a b c d → c ≢ d
  c_not_d a b c d r = N.apart r.left.bc

  pub d_not_a : (a b c d : ℕ) → IsQuad points T a b c d → d ≢ a
  d_not_a a b c d r = N.apart r.left.ca

  -- ---- another quadrilateral at the same edge is the same one
  last_turned : (a b c : ℕ) → IsEmptyTriangle points T a b c → IsEmptyTriangle points T c a b
  last_turned a b c t = turn_triangle points P T I b c a (turn_triangle points P T I a b c t)

  agree : (a b c d x y z w : ℕ) → IsQuad points T a b c d → IsQuad points T x y z w → IsUnder points x y z w → a ≡ x → c ≡ z → IsUnder points a b c d
  agree a b c d x y z w q r u ha hc =
      let r' : IsQuad points T a y c w = subst₂ (λ i j. IsQuad points T i y j w) (sym ha) (sym hc) r in
      let u' : IsUnder points a y c w = subst₂ (λ i j. IsUnder points i y j w) (sym ha) (sym hc) u in
      subst₂ (λ i j. IsUnder points a i c j) (same_apex points P T I c a y b (last_turned a y c r'.right) (last_turned a b c q.right)) (same_apex points P T I a c w d r'.left q.left) u'

  pub bad_at : (e : Edge) (q : Quad) → IsQuadAt points T e q → IsBad points T e ↔ IsUnder points q.a q.b q.c q.d
  bad_at e q h = (to, λ u. (q.a, q.b, q.c, q.d, h.ends ∙ sym (edge_of (q.a, q.c) h.low_first), h.corners, u))
    where
      to : IsBad points T e → IsUnder points q.a q.b q.c q.d
      to (x, y, z, w, he, r, u) = by_same (edge_same x z q.a q.c (edge_of (q.a, q.c) h.low_first ∙ sym h.ends ∙ he))
        where
          by_same : Same x z q.a q.c → IsUnder points q.a q.b q.c q.d
          by_same (inl s) = agree q.a q.b q.c q.d x y z w h.corners r u s.0 s.1
          by_same (inr s) = agree q.a q.b q.c q.d z w x y h.corners (half_turned points P T I x y z w r) (under_half points x y z w u) s.0 s.1
