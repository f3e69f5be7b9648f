-- The half edges of a triangulation: each edge in both directions, with what lies on its left.
use Rattle.std.specs.Prelude.{◌≡◌, ◌↔◌, ℕ, suc, ◌<◌, ◌≤◌, List, length, map, slice_get, Option, None, Some, Contains}
use Rattle.geo_orient.specs.declared.Point.{Point}
use Rattle.edge_table.specs.declared.edge.Edge.{Edge}
use Rattle.edge_table.specs.Edges.{edge, IsAscending}
use Rattle.tri_theory.specs.Triangulations.{AreJoined, IsEmptyTriangle}
use Rattle.half_edges.specs.declared.half.HalfEdge.{HalfEdge}
use Rattle.half_edges.specs.declared.half.Beyond.{Beyond}

-- what is seen of half edges: the list of them, and for each point, and once more, how many come from the points before it
pub record Graph : Type 0 where
  pub halves : List HalfEdge
  pub begins : List ℕ

-- where the half edges come from, and where they go to
abbrev pub ways_of : List HalfEdge → List Edge
ways_of halves = map (λ (h : HalfEdge). (h.from, h.to)) halves

-- the ways are the edges in both directions, in order
pub record AreDirected (edges ways : List Edge) : Type 0 where
  pub ascending : IsAscending ways
  pub members : (u v : ℕ) → Contains ways (u, v) ↔ AreJoined edges u v

-- the empty triangle on the left of the way from u to v, with the places of the ways from u and to v along its other sides, or None where there is no such triangle
abbrev pub IsBeyond : List Point → List Edge → List Edge → ℕ → ℕ → Option Beyond → Type 0
IsBeyond points edges ways u v None = (w : ℕ) → ¬ IsEmptyTriangle points edges u v w
IsBeyond points edges ways u v (Some b) = IsEmptyTriangle points edges u v b.apex × (slice_get ways b.near ≡ Some (u, b.apex)) × (slice_get ways b.far ≡ Some (b.apex, v))

-- the half edge has the place of its edge, and the triangle on its left
pub record IsHalf (points : List Point) (edges ways : List Edge) (h : HalfEdge) : Type 0 where
  pub edge : slice_get edges h.edge ≡ Some (edge h.from h.to)
  pub beyond : IsBeyond points edges ways h.from h.to h.beyond

-- the first i ways are those from points before u
pub record IsBegin (ways : List Edge) (u i : ℕ) : Type 0 where
  pub within : i ≤ length ways
  pub first : (k : ℕ) (w : Edge) → slice_get ways k ≡ Some w → (k < i) ↔ (w.0 < u)

-- for each of so many points, and once more, where the ways from it begin
pub record AreBegins (count : ℕ) (ways : List Edge) (begins : List ℕ) : Type 0 where
  pub long : length begins ≡ suc count
  pub places : (u i : ℕ) → slice_get begins u ≡ Some i → IsBegin ways u i

-- the half edges are those of a triangulation
pub record IsGraph (points : List Point) (edges : List Edge) (graph : Graph) : Type 0 where
  pub directed : AreDirected edges (ways_of graph.halves)
  pub halves : (h : HalfEdge) → Contains graph.halves h → IsHalf points edges (ways_of graph.halves) h
  pub begins : AreBegins (length points) (ways_of graph.halves) graph.begins
