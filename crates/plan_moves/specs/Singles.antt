-- The least of the moves of one edge that pass a test.
use Rattle.std.specs.Prelude.{◌≡◌, ◌≢◌, ℕ, ◌<◌, Bool, true, Option, Some, None, List, [], ◌∷◌, length, slice_get}
use Rattle.edge_table.specs.declared.edge.Edge.{Edge}
use Rattle.edge_table.specs.Edges.{IsBefore}

-- a move of one edge that passes the test, where none of the first `count` moves is such a move of an edge before it
pub record IsLeastSingle (test : List Edge → Bool) (moves : List (List Edge)) (count : ℕ) (move : List Edge) : Type 0 where
  pub edge : Edge
  pub alone : move ≡ edge ∷ []
  pub passes : test (edge ∷ []) ≡ true
  pub least : (k : ℕ) (f : Edge) → k < count → slice_get moves k ≡ Some (f ∷ []) → test (f ∷ []) ≡ true → ¬ IsBefore f edge

-- the same, or none of these moves is such a move
abbrev pub HasLeastSingle : (List Edge → Bool) → List (List Edge) → ℕ → Option (List Edge) → Type 0
HasLeastSingle test moves count (Some move) = IsLeastSingle test moves count move
HasLeastSingle test moves count None = (k : ℕ) (f : Edge) → k < count → slice_get moves k ≡ Some (f ∷ []) → test (f ∷ []) ≢ true

-- the edge comes before that of a move of one edge, or there is no move
abbrev pub ComesFirst : Edge → Option (List Edge) → Type 0
ComesFirst e (Some move) = (f : Edge) × (move ≡ f ∷ []) × IsBefore e f
ComesFirst e None = Unit {0}

-- a move of one edge that passes the test, and comes before the one that was found so far
pub record IsLesser (test : List Edge → Bool) (found : Option (List Edge)) (move : List Edge) : Type 0 where
  pub edge : Edge
  pub alone : move ≡ edge ∷ []
  pub passes : test (edge ∷ []) ≡ true
  pub first : ComesFirst edge found

-- the move that was found, if one was, is of one edge
abbrev pub IsAlone : Option (List Edge) → Type 0
IsAlone (Some move) = length move ≡ 1
IsAlone None = Unit {0}
