-- The hull segments up to an edge, and those along chains.
use Rattle.std.specs.Prelude.{◌≡◌, ◌⊎◌, ◌↔◌, ℕ, ◌+◌, ◌<◌, List, length, Contains}
use Rattle.geo_orient.specs.declared.Point.{Point}
use Rattle.edge_table.specs.declared.edge.Edge.{Edge}
use Rattle.edge_table.specs.Edges.{edge, IsBefore, IsAscending}
use Rattle.tri_theory.specs.Inputs.{IsHullSegment}
use Rattle.planar_law.specs.Chains.{link}

-- the pair a, b as an edge
abbrev pub edge_from : ℕ → ℕ → Edge
edge_from a b = (a, b)

-- the edges are the hull segments before the edge of a and b
pub record IsHullBelow (points : List Point) (edges : List Edge) (a b : ℕ) : Type 0 where
  pub ascending : IsAscending edges
  pub sound : (e : Edge) → Contains edges e → IsHullSegment points e
  pub whole : (e : Edge) → IsHullSegment points e → IsBefore e (edge_from a b) → Contains edges e

-- the edge is a side of the chain at a place below j
abbrev pub IsLinkedBelow : List ℕ → ℕ → Edge → Type 0
IsLinkedBelow chain j e = (k : ℕ) × (k < j) × (k + 1 < length chain) × (e ≡ edge (link chain k) (link chain (k + 1)))

-- the edges are those before, and the sides of the chain at places below j
pub record AddsLinks (before edges : List Edge) (chain : List ℕ) (j : ℕ) : Type 0 where
  pub ascending : IsAscending edges
  pub members : (e : Edge) → Contains edges e ↔ (Contains before e ⊎ IsLinkedBelow chain j e)
