-- The edges that share a triangle with an edge that flips are the sides of its quadrilateral.
use Rattle.std.proofs.Common.{◌≡◌, ◌≢◌, inl, inr, ◌∙◌, ℕ, List, Contains, sym, subst, subst₂}
use Rattle.geo_orient.specs.declared.Point.{Point}
use Rattle.edge_table.specs.declared.edge.Edge.{Edge}
use Rattle.edge_table.specs.Edges.{edge}
use Rattle.edge_table.proofs.Edges.{edge_swap, edge_of}
use Rattle.tri_theory.specs.Points.{ArePlaced}
use Rattle.tri_theory.specs.Triangulations.{IsEmptyTriangle, IsTriangulation}
use Rattle.tri_theory.proofs.Flip.{Same}
use Rattle.tri_theory.proofs.Edges.{edge_same}
use Rattle.flip_mesh.specs.declared.mesh.Quad.{Quad}
use Rattle.flip_mesh.specs.Answers.{IsQuadAt}
use Rattle.replay.specs.Independent.{IsSide, ShareTriangle}
use Rattle.replay.specs.Steps.{IsOuterSide}
use Rattle.replay.specs.Faults.{IsFirstWith}
use Rattle.replay.proofs.Lists.{taken_inside}
use Rattle.replay.proofs.Quads.{turn_triangle, same_apex}

module _ (points : List Point) (P : ArePlaced points) (T : List Edge) (I : IsTriangulation points T) where
  turn : (a b c : ℕ) → IsEmptyTriangle points T a b c → IsEmptyTriangle points T b c a
  turn a b c t = turn_triangle points P T I a b c t

  turn_side : (a b c : ℕ) (f : Edge) → IsSide a b c f → IsSide b c a f
  turn_side a b c f (inl e) = inr (inr e)
  turn_side a b c f (inr (inl e)) = inl e
  turn_side a b c f (inr (inr e)) = inr (inl e)

  -- the diagonal is the edge of its corners
  diagonal : (e : Edge) (q : Quad) → IsQuadAt points T e q → e ≡ edge q.a q.c
  diagonal e q h = h.ends ∙ sym (edge_of (q.a, q.c) h.low_first)

  -- an outer side shares a triangle with the diagonal
  pub side_shares : (e f : Edge) (q : Quad) → IsQuadAt points T e q → IsOuterSide q f → ShareTriangle points T e f
  side_shares e f q h (inl i) = (q.a, q.b, q.c, h.corners.right, inr (inr (diagonal e q h ∙ edge_swap q.a q.c)), inl i)
  side_shares e f q h (inr (inl i)) = (q.a, q.b, q.c, h.corners.right, inr (inr (diagonal e q h ∙ edge_swap q.a q.c)), inr (inl i))
  side_shares e f q h (inr (inr (inl i))) = (q.a, q.c, q.d, h.corners.left, inl (diagonal e q h), inr (inl i))
  side_shares e f q h (inr (inr (inr i))) = (q.a, q.c, q.d, h.corners.left, inl (diagonal e q h), inr (inr i))

  -- the other edges of the two triangles at the diagonal are outer sides
  at_diagonal : (e f : Edge) (q : Quad) → IsQuadAt points T e q → f ≢ e → (x y z : ℕ) → IsEmptyTriangle points T x y z → e ≡ edge x y → IsSide x y z f → IsOuterSide q f
  at_diagonal e f q h ne x y z t i s = by_same (edge_same q.a q.c x y (sym i ∙ diagonal e q h))
    where
      left_side : z ≡ q.d → IsSide q.a q.c z f → IsOuterSide q f
      left_side k (inl j) = absurd (ne (j ∙ sym (diagonal e q h)))
      left_side k (inr (inl j)) = inr (inr (inl (subst (λ w. f ≡ edge q.c w) k j)))
      left_side k (inr (inr j)) = inr (inr (inr (subst (λ w. f ≡ edge w q.a) k j)))

      right_side : z ≡ q.b → IsSide q.c q.a z f → IsOuterSide q f
      right_side k (inl j) = absurd (ne (j ∙ edge_swap q.c q.a ∙ sym (diagonal e q h)))
      right_side k (inr (inl j)) = inl (subst (λ w. f ≡ edge q.a w) k j)
      right_side k (inr (inr j)) = inr (inl (subst (λ w. f ≡ edge w q.c) k j))

      by_same : Same q.a q.c x y → IsOuterSide q f
      by_same (inl m) =
          left_side (same_apex points P T I q.a q.c z q.d (subst₂ (λ u v. IsEmptyTriangle points T u v z) m.0 m.1 t) h.corners.left) (subst₂ (λ u v. IsSide u v z f) m.0 m.1 s)
      by_same (inr m) =
          right_side (same_apex points P T I q.c q.a z q.b (subst₂ (λ u v. IsEmptyTriangle points T u v z) m.0 m.1 t) (turn q.b q.c q.a (turn q.a q.b q.c h.corners.right))) (subst₂ (λ u v. IsSide u v z f) m.0 m.1 s)

  -- what shares a triangle with the diagonal is an outer side
  pub shares_side : (e f : Edge) (q : Quad) → IsQuadAt points T e q → f ≢ e → ShareTriangle points T e f → IsOuterSide q f
  shares_side e f q h ne (x, y, z, t, inl i, s) = at_diagonal e f q h ne x y z t i s
  shares_side e f q h ne (x, y, z, t, inr (inl i), s) = at_diagonal e f q h ne y z x (turn x y z t) i (turn_side x y z f s)
  shares_side e f q h ne (x, y, z, t, inr (inr i), s) = at_diagonal e f q h ne z x y (turn y z x (turn x y z t)) i (turn_side y z x f (turn_side x y z f s))

  -- the first outer side among other edges is the first that shares a triangle
  pub first_sharer : (e f : Edge) (q : Quad) (es : List Edge) → IsQuadAt points T e q → ¬ Contains es e → IsFirstWith (IsOuterSide q) es f → IsFirstWith (ShareTriangle points T e) es f
  first_sharer e f q es h n F = record {
    place = F.place;
    there = F.there;
    holds = side_shares e f q h F.holds;
    first = λ g k s. F.first g k (shares_side e g q h (λ i. n (subst (Contains es) i (taken_inside F.place es g k))) s);
  }
