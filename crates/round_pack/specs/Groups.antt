-- Edges grouped by the numbers of their flips, as sets.
use Rattle.std.specs.Prelude.{◌≡◌, ◌⊎◌, ◌↔◌, ℕ, suc, ◌<◌, List, [], length, slice_index, slice_index_or, Contains}
use Rattle.edge_table.specs.declared.edge.Edge.{Edge}
use Rattle.edge_table.specs.Edges.{IsAscending}
use Rattle.flip_list_law.specs.declared.Flip.{Flip}
use Rattle.flip_list_law.specs.FlipLists.{greatest}

-- among the first `count` flips, e is the edge of one with this number
pub record IsEdgeOf (flips : List Flip) (numbers : List ℕ) (count n : ℕ) (e : Edge) : Type 0 where
  pub place : ℕ
  pub within : place < count
  pub number : slice_index numbers place ≡ n
  pub edge : (d : Flip) → (slice_index_or flips place d).edge ≡ e

-- the same for its image
pub record IsImageOf (flips : List Flip) (numbers : List ℕ) (count n : ℕ) (e : Edge) : Type 0 where
  pub place : ℕ
  pub within : place < count
  pub number : slice_index numbers place ≡ n
  pub image : (d : Flip) → (slice_index_or flips place d).image ≡ e

-- so many sets, all empty
pub record AreEmptySets (sets : List (List Edge)) (count : ℕ) : Type 0 where
  pub count_is : length sets ≡ count
  pub empty : (k : ℕ) → slice_index_or sets k [] ≡ []

-- e comes to the set with `before` others before it
pub record PutsEdge (old new : List (List Edge)) (before : ℕ) (e : Edge) : Type 0 where
  pub count_is : length new ≡ length old
  pub members : (k : ℕ) (f : Edge) → Contains (slice_index_or new k []) f ↔ (Contains (slice_index_or old k []) f ⊎ ((k ≡ before) × (f ≡ e)))

-- the edges of the first `count` flips, by number
pub record AreRoundSets (sets : List (List Edge)) (flips : List Flip) (numbers : List ℕ) (count : ℕ) : Type 0 where
  pub count_is : length sets ≡ greatest numbers
  pub members : (k : ℕ) (e : Edge) → Contains (slice_index_or sets k []) e ↔ IsEdgeOf flips numbers count (suc k) e

-- the first `count` sets are in edge order
abbrev pub AreAscendingSets : List (List Edge) → ℕ → Type 0
AreAscendingSets sets count = (k : ℕ) → k < count → IsAscending (slice_index_or sets k [])

-- the image of a flip with the wanted number comes to the set
pub record AddsImage (old new : List Edge) (flip : Flip) (number wanted : ℕ) : Type 0 where
  pub members : (e : Edge) → Contains new e ↔ (Contains old e ⊎ ((number ≡ wanted) × (flip.image ≡ e)))

-- the images of those among the first `count` flips that have the number
pub record IsImageSet (set : List Edge) (flips : List Flip) (numbers : List ℕ) (n count : ℕ) : Type 0 where
  pub members : (e : Edge) → Contains set e ↔ IsImageOf flips numbers count n e
