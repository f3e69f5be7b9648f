-- What a round of a descent takes, and what the steps of a descent have done.
use Rattle.std.specs.Prelude.{◌≡◌, ◌≢◌, ◌⊎◌, ◌↔◌, ℕ, ◌<◌, Bool, true, false, cond, nat_lt, List, [], ◌∷◌, ◌++◌, length, Contains}
use Rattle.geo_orient.specs.declared.Point.{Point}
use Rattle.edge_table.specs.declared.edge.Edge.{Edge}
use Rattle.edge_table.specs.Edges.{edge, AddsEdge}
use Rattle.tri_theory.specs.Crossings.{crossings}
use Rattle.tri_theory.specs.Flips.{FlipsTo, Flips}
use Rattle.flip_mesh.specs.declared.mesh.Quad.{Quad}
use Rattle.flip_mesh.specs.Answers.{IsQuadAt}
use Rattle.flip_list_law.specs.FlipLists.{flipped_edges}
use Rattle.replay.specs.Independent.{ShareTriangle}
use Rattle.replay.specs.Steps.{IsOuterSide}
use Rattle.plan_law.specs.Images.{after_flips}
use Rattle.plan_law.specs.Improvers.{greedy_round, Descended, descended, weight_of, Descent, Better, NotBetter, Stuck}

-- none of the edges is a side of the quadrilateral
abbrev pub HasNoSide : Quad → List Edge → Type 0
HasNoSide q taken = (f : Edge) → IsOuterSide q f → ¬ Contains taken f

-- with this quadrilateral e is taken after the others: fewer members of the centre cross its image, and no side is taken
pub record IsFit (points : List Point) (centre taken : List Edge) (e : Edge) (q : Quad) : Type 0 where
  pub lower : crossings points centre (edge q.b q.d) < crossings points centre e
  pub apart : HasNoSide q taken

-- e flips, and its quadrilateral fits, so it is taken after the others
abbrev pub IsTaken : List Point → List Edge → List Edge → List Edge → Edge → Type 0
IsTaken points centre edges taken e = (q : Quad) × IsQuadAt points edges e q × IsFit points centre taken e q

-- e is passed over: it doesn't flip, or its quadrilateral doesn't fit
abbrev pub IsPassed : List Point → List Edge → List Edge → List Edge → Edge → Type 0
IsPassed points centre edges taken e = (¬ Flips points edges e) ⊎ ((q : Quad) × IsQuadAt points edges e q × ¬ IsFit points centre taken e q)

-- one or the other, and which edges are taken then
abbrev pub IsTried : List Point → List Edge → List Edge → List Edge → Edge → List Edge → Type 0
IsTried points centre edges taken e next = (IsTaken points centre edges taken e × AddsEdge taken next e) ⊎ (IsPassed points centre edges taken e × (next ≡ taken))

-- the candidates have each edge that flips to one which fewer members of the centre cross
abbrev pub HasEachLower : List Point → List Edge → List Edge → List Edge → Type 0
HasEachLower points centre edges candidates = (e f : Edge) → FlipsTo points edges e f → crossings points centre f < crossings points centre e → Contains candidates e

-- the set has each edge that shares a triangle with an edge of the round, other than that one
abbrev pub HasEachNeighbour : List Point → List Edge → List Edge → List Edge → Type 0
HasEachNeighbour points edges round neighbours = (e f : Edge) → Contains round e → ShareTriangle points edges e f → f ≢ e → Contains neighbours f

-- the edges are the old ones and those that share a triangle with e
abbrev pub AddsNeighbours : List Point → List Edge → Edge → List Edge → List Edge → Type 0
AddsNeighbours points edges e old new = (f : Edge) → Contains old f ⊎ ((f ≢ e) × ShareTriangle points edges e f) → Contains new f

-- the two lists have the same members
abbrev pub HaveSameMembers : List Edge → List Edge → Type 0
HaveSameMembers es fs = (e : Edge) → Contains es e ↔ Contains fs e

-- the rounds of a descent from the edges, and where they lead
abbrev pub run : List Point → List Edge → List Edge → Descended
run points centre edges = descended (weight_of points centre edges) points centre edges

-- the next round is made and added to the rounds; or the descent ends, and nothing changes
abbrev pub Descends : List Point → List Edge → List Edge → List (List Edge) → Bool → List Edge → List (List Edge) → Type 0
Descends points centre edges rounds true next more = (greedy_round points centre edges ≢ []) × (next ≡ after_flips edges (greedy_round points centre edges)) × (more ≡ rounds ++ flipped_edges (greedy_round points centre edges) ∷ [])
Descends points centre edges rounds false next more = (greedy_round points centre edges ≡ []) × (next ≡ edges) × (more ≡ rounds)

-- the answer of a descent that made these rounds, by whether it is at the centre
abbrev pub judged_as : ℕ → List (List Edge) → Bool → Descent
judged_as held rounds reached = cond reached (cond (nat_lt (length rounds) held) (Better rounds) (NotBetter held (length rounds))) (Stuck (length rounds))
