-- Triangles that fit together at their sides, given by a third corner on the left of each side.
use Rattle.std.specs.Prelude.{◌≡◌, ◌⊎◌, ℕ, ◌<◌, List, length, Contains}
use Rattle.geo_orient.specs.declared.Point.{Point}
use Rattle.edge_table.specs.declared.edge.Edge.{Edge}
use Rattle.edge_table.specs.Edges.{IsAscending}
use Rattle.tri_theory.specs.Points.{IsLeft}
use Rattle.tri_theory.specs.Triangulations.{AreJoined}
use Rattle.tri_theory.specs.Inputs.{IsHullSegment}

-- a, b, c are the corners of a triangle, named counter-clockwise: they are pairwise joined, and each is the third corner of the side of the others
pub record IsTriangle (points : List Point) (edges : List Edge) (third : ℕ → ℕ → ℕ) (a b c : ℕ) : Type 0 where
  pub turns : IsLeft points a b c
  pub ab : AreJoined edges a b
  pub bc : AreJoined edges b c
  pub ca : AreJoined edges c a
  pub third_ab : third a b ≡ c
  pub third_bc : third b c ≡ a
  pub third_ca : third c a ≡ b

-- the way from a to b is the side of a triangle on its left
abbrev pub HasThird : List Point → List Edge → (ℕ → ℕ → ℕ) → ℕ → ℕ → Type 0
HasThird points edges third a b = IsTriangle points edges third a b (third a b)

-- the member is a side of two triangles, or of one and a hull segment
abbrev pub IsSided : List Point → List Edge → (ℕ → ℕ → ℕ) → Edge → Type 0
IsSided points edges third e =
    (HasThird points edges third e.0 e.1 × HasThird points edges third e.1 e.0)
    ⊎ (IsHullSegment points e × (HasThird points edges third e.0 e.1 ⊎ HasThird points edges third e.1 e.0))

-- every point is an end of a member, and each member is a side of triangles where points lie
pub record IsPatched (points : List Point) (edges : List Edge) (third : ℕ → ℕ → ℕ) : Type 0 where
  pub ascending : IsAscending edges
  pub low_first : (e : Edge) → Contains edges e → e.0 < e.1
  pub in_range : (e : Edge) → Contains edges e → e.1 < length points
  pub ends : (p : ℕ) → p < length points → (q : ℕ) × AreJoined edges p q
  pub sides : (e : Edge) → Contains edges e → IsSided points edges third e
