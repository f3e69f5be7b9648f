-- Ends, corners and open sides.
use Rattle.std.proofs.Common.{◌≡◌, inl, inr, ℕ, ◌<◌, min, max, List, length, Contains, sym, ◌∙◌, subst, arith}
use Rattle.geo_orient.specs.declared.Point.{Point}
use Rattle.edge_table.specs.declared.edge.Edge.{Edge}
use Rattle.edge_table.specs.Edges.{edge}
use Rattle.edge_table.proofs.Edges.{edge_swap, edge_of}
use Rattle.tri_theory.specs.Triangulations.{IsEmptyTriangle}
use Rattle.tri_check.specs.Stages.{EndsAt, IsEnd, AreEdges, IsClosed, HasOpenSide}

pub same_ends : (a b : ℕ) → a ≡ b → ¬ (min a b < max a b)
same_ends a b e h = omega arith

pub end_of : (edges : List Edge) (e : Edge) (p : ℕ) → Contains edges e → e.0 < e.1 → EndsAt e p → IsEnd edges p
end_of edges e p h l (inl i) = (e.1, subst (λ k. Contains edges (edge k e.1)) i (subst (Contains edges) (sym (edge_of e l)) h))
end_of edges e p h l (inr i) = (e.0, subst (λ k. Contains edges (edge k e.0)) i (subst (Contains edges) (sym (edge_swap e.1 e.0 ∙ edge_of e l)) h))

pub corner_in : (points : List Point) (edges : List Edge) (a b c : ℕ) → AreEdges points edges → IsEmptyTriangle points edges a b c → c < length points
corner_in points edges a b c E t = low b c (length points) (E.in_range (edge b c) t.bc)
  where
    low : (x y n : ℕ) → max x y < n → y < n
    low x y n h = omega arith

pub not_open : (points : List Point) (edges : List Edge) (e : Edge) → IsClosed points edges e.0 e.1 × IsClosed points edges e.1 e.0 → ¬ HasOpenSide points edges e
not_open points edges e (h, k) (inl ((p, l, left), none)) = none (h p l left).0 (h p l left).1
not_open points edges e (h, k) (inr ((p, l, left), none)) = none (k p l left).0 (k p l left).1
