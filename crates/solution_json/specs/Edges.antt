-- Edges as pairs of whole numbers, and as values of JSON.
use Rattle.std.specs.Prelude.{◌≡◌, ◌≢◌, ℕ, ◌+◌, ℤ, pos, ◌≤ℤ◌, ⊤, List}
use Rattle.std.specs.List.{flat_map}
use Rattle.serde_json.specs.Data.{Data}
use Rattle.edge_table.specs.declared.edge.Edge.{Edge}
use Rattle.edge_table.specs.Edges.{edge}
use Rattle.tri_check.specs.declared.raw.RawPair.{RawPair}
use Rattle.json_value.specs.Values.{IsPairOf, IsFirstNot}
use Rattle.solution_json.specs.declared.edges.PairFault.{PairFault}
use Rattle.solution_json.specs.declared.edges.PairFault.TheVariants.{BadPair, OutOfMemory}

-- the number may name a point
abbrev pub IsPoint : ℤ → Type 0
IsPoint z = (pos 0 ≤ℤ z) × (z ≤ℤ pos 4294967295)

-- the two numbers may name the ends of an edge
abbrev pub NamesEdge : RawPair → Type 0
NamesEdge pair = IsPoint pair.a × IsPoint pair.b × (pair.a ≢ pair.b)

-- the edge whose ends the pair names, in either order
abbrev pub IsEdgeOf : RawPair → Edge → Type 0
IsEdgeOf pair e = NamesEdge pair × ((a b : ℕ) × (pair.a ≡ pos a) × (pair.b ≡ pos b) × (e ≡ edge a b))

-- the value is a list of two whole numbers, which name an edge
abbrev pub IsEdgePair : Data → Type 0
IsEdgePair d = (pair : RawPair) × IsPairOf d pair × NamesEdge pair

-- the value is a list of two whole numbers, and the edge is the one that they name
abbrev pub SpellsEdge : Data → Edge → Type 0
SpellsEdge d e = (pair : RawPair) × IsPairOf d pair × IsEdgeOf pair e

-- the fault names the first of the pairs that names no edge; want of memory says nothing
abbrev pub OnPair : PairFault → List RawPair → Type 0
OnPair (BadPair k) pairs = IsFirstNot NamesEdge pairs k
OnPair OutOfMemory pairs = ⊤

-- the pairs of some lists, one after another
abbrev pub pairs_within : List (List RawPair) → List RawPair
pairs_within rounds = flat_map (λ pairs. pairs) rounds

-- the fault is the other one, with so many pairs before
abbrev pub IsMoved : PairFault → ℕ → PairFault → Type 0
IsMoved e before (BadPair k) = (j : ℕ) × (e ≡ BadPair j) × (k ≡ before + j)
IsMoved e before OutOfMemory = ⊤
