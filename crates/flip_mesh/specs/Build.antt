-- How a mesh is built.
use Rattle.std.specs.Prelude.{◌≡◌, ◌⊎◌, ◌↔◌, ℕ, ◌<◌, ◌≤◌, List, [], ◌∷◌, ◌++◌, slice_index_or, Option, None, Some, Contains}
use Rattle.geo_orient.specs.declared.Point.{Point}
use Rattle.edge_table.specs.declared.edge.Edge.{Edge}
use Rattle.tri_theory.specs.Points.{IsLeft}
use Rattle.edge_table.specs.Edges.{IsAscending}
use Rattle.tri_theory.specs.Triangulations.{AreJoined}
use Rattle.tri_theory.specs.Flips.{Flips}
use Rattle.side_table.specs.declared.side.Side.{Side}
use Rattle.side_table.specs.Sides.{HasSide, IsOrderedSides}
use Rattle.flip_mesh.specs.Answers.{IsApex}

-- the way from u to v is added
pub record AddsWay (old new : List Side) (u v : ℕ) : Type 0 where
  pub ordered : IsOrderedSides new
  pub has : (x y : ℕ) → HasSide new x y ↔ (HasSide old x y ⊎ ((x ≡ u) × (y ≡ v)))

-- the edge goes both ways
abbrev pub GoesBothWays : List Side → Edge → Type 0
GoesBothWays sides e = HasSide sides e.0 e.1 × HasSide sides e.1 e.0

-- the sides are the edges in both directions
pub record AreWays (sides : List Side) (edges : List Edge) : Type 0 where
  pub ordered : IsOrderedSides sides
  pub joined : (x y : ℕ) → HasSide sides x y → AreJoined edges x y
  pub there : (e : Edge) → Contains edges e → GoesBothWays sides e

-- w is joined to both ends of the way from u to v, and lies left of it
pub record IsCorner (points : List Point) (edges : List Edge) (u v w : ℕ) : Type 0 where
  pub first : AreJoined edges u w
  pub second : AreJoined edges v w
  pub on_left : IsLeft points u v w

-- w is joined to the one end of the way from u to v, and q is the other end
abbrev pub IsReached : List Edge → ℕ → ℕ → ℕ → ℕ → Type 0
IsReached edges u v q w = ((q ≡ v) × AreJoined edges u w) ⊎ ((q ≡ u) × AreJoined edges v w)

-- there is a best corner, and x isn't nearer
abbrev pub IsNoFarther : List Point → ℕ → ℕ → Option ℕ → Type 0
IsNoFarther points u x None = ⊥
IsNoFarther points u x (Some b) = ¬ IsLeft points u x b

-- each side has its third corner
abbrev pub HaveApexes : List Point → List Edge → List Side → Type 0
HaveApexes points edges sides = (s : Side) → Contains sides s → IsApex points edges s.from s.to s.apex

-- none of the corners that the sides at the places from begin to i lead to is nearer
abbrev pub SeenFrom : List Point → List Edge → List Side → ℕ → ℕ → ℕ → ℕ → Option ℕ → Type 0
SeenFrom points edges sides u v begin i best =
    (k : ℕ) (d : Side) → begin ≤ k → k < i → IsCorner points edges u v (slice_index_or sides k d).to → IsNoFarther points u (slice_index_or sides k d).to best

-- the edge of s is added, where s goes from the lower end to the higher one
pub record AddsForward (old new : List Edge) (s : Side) : Type 0 where
  pub kept : (e : Edge) → Contains old e → Contains new e
  pub added : s.from < s.to → Contains new (s.from, s.to)
  pub only : (e : Edge) → Contains new e → Contains old e ⊎ ((s.from < s.to) × (e ≡ (s.from, s.to)))

-- the edge of s is added, where s goes from the lower end to the higher one and the edge flips
abbrev pub AddsFlip : List Point → List Edge → List Edge → List Edge → Side → Type 0
AddsFlip points edges old new s =
    ((new ≡ old) × (s.from < s.to → ¬ Flips points edges (s.from, s.to))) ⊎ ((s.from < s.to) × Flips points edges (s.from, s.to) × (new ≡ old ++ (s.from, s.to) ∷ []))

-- these are the edges that flip, in edge order
pub record AreFlippable (points : List Point) (edges list : List Edge) : Type 0 where
  pub ascending : IsAscending list
  pub members : (e : Edge) → Contains list e ↔ Flips points edges e
