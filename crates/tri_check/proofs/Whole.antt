-- Members without a fault are a triangulation.
use Rattle.std.proofs.Common.{◌≡◌, ◌⊎◌, inl, inr, ℕ, ◌<◌, ℤ, pos, neg_ℤ, ◌<ℤ◌, List, length, Contains, sym, ◌∙◌, subst, arith}
use Rattle.std.proofs.lemmas.Int.{ints}
use Rattle.geo_orient.specs.declared.Point.{Point}
use Rattle.geo_orient.proofs.Signs.{orient-cycle, orient-swap}
use Rattle.edge_table.specs.declared.edge.Edge.{Edge}
use Rattle.edge_table.specs.Edges.{edge, IsBefore, IsAscending}
use Rattle.edge_table.proofs.Edges.{edge_is}
use Rattle.edge_table.proofs.Ascending.{before_cases}
use Rattle.tri_theory.specs.Points.{point, turn, IsLeft}
use Rattle.tri_theory.specs.Triangulations.{AreJoined, Crosses, IsTriangulation}
use Rattle.tri_check.specs.Stages.{AreEdges, IsNoEdge, IsBlocked, IsCrossed, IsEnd, IsClosed, AreClosed}

-- no edge crosses itself
flat : (points : List Point) (a b : ℕ) → turn points a b a ≡ pos 0
flat points a b = zero_of (turn points a b a) (turn points a a b) (orient-cycle (point points a) (point points b) (point points a) ∙ orient-cycle (point points b) (point points a) (point points a)) (orient-swap (point points a) (point points a) (point points b))
  where
    zero_of : (x y : ℤ) → x ≡ y → y ≡ neg_ℤ y → x ≡ pos 0
    zero_of x y e f = omega (arith, ints)

not_itself : (points : List Point) (e : Edge) → ¬ Crosses points e e
not_itself points e x = by_sides x.0
  where
    none : (z : ℤ) → z ≡ pos 0 → pos 0 <ℤ z → ⊥
    none z e l = omega (arith, ints)

    by_sides : (IsLeft points e.0 e.1 e.0 × IsLeft points e.1 e.0 e.1) ⊎ (IsLeft points e.1 e.0 e.0 × IsLeft points e.0 e.1 e.1) → ⊥
    by_sides (inl h) = none (turn points e.0 e.1 e.0) (flat points e.0 e.1) h.0
    by_sides (inr h) = none (turn points e.1 e.0 e.0) (orient-cycle (point points e.1) (point points e.0) (point points e.0) ∙ orient-cycle (point points e.0) (point points e.0) (point points e.1) ∙ flat points e.0 e.1) h.0

pub whole : (points : List Point) (edges : List Edge) → IsAscending edges → AreEdges points edges → IsNoEdge edges (IsBlocked points) → IsNoEdge edges (IsCrossed points edges) → ((p : ℕ) → p < length points → IsEnd edges p) → AreClosed points edges → IsTriangulation points edges
whole points edges up E blocked crossed ends closed = record {
  ascending = up;
  segments = λ e h. record { low_first = E.low_first e h; in_range = E.in_range e h; clear = λ p l s. blocked e h (p, l, s) };
  planar = λ e f h k x. by_order e f h k x (before_cases e f);
  ends = ends;
  sides = λ a b p j l left. by_ends a b j (edge_is a b) p l left;
}
  where
    by_order : (e f : Edge) → Contains edges e → Contains edges f → Crosses points e f → (e ≡ f) ⊎ (IsBefore e f ⊎ IsBefore f e) → ⊥
    by_order e f h k x (inl i) = not_itself points e (subst (λ g. Crosses points e g) (sym i) x)
    by_order e f h k x (inr (inl b)) = crossed e h (f, k, (b, x))
    by_order e f h k x (inr (inr b)) = crossed f k (e, h, (b, (x.1, x.0)))

    by_ends : (a b : ℕ) → AreJoined edges a b → (edge a b ≡ (a, b)) ⊎ (edge a b ≡ (b, a)) → IsClosed points edges a b
    by_ends a b j (inl i) = subst (λ (g : Edge). IsClosed points edges g.0 g.1) i (closed (edge a b) j).0
    by_ends a b j (inr i) = subst (λ (g : Edge). IsClosed points edges g.1 g.0) i (closed (edge a b) j).1
