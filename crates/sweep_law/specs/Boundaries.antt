-- The boundary of the points that a sweep has passed, as two chains from its first point to its last, and what a further point sees of it.
use Rattle.std.specs.Prelude.{◌≡◌, ◌⊎◌, ℕ, ◌+◌, ◌<◌, ◌≤◌, ℤ, pos, ◌≤ℤ◌, negsuc, List, [], ◌∷◌, ◌++◌, length, take, Contains, map}
use Rattle.std.specs.List.{AllPairs}
use Rattle.geo_orient.specs.declared.Point.{Point}
use Rattle.tri_theory.specs.Points.{point, turn, IsLeft, ArePlaced}
use Rattle.planar_law.specs.Chains.{link, AreReachable}
use Rattle.sweep_law.specs.Sweeps.{ComesBefore, Pair}

-- a direction by whole numbers from -500 to 500 that aren't both 0
pub record IsDirection (a b : ℤ) : Type 0 where
  pub a_low : negsuc 499 ≤ℤ a
  pub a_high : a ≤ℤ pos 500
  pub b_low : negsuc 499 ≤ℤ b
  pub b_high : b ≤ℤ pos 500
  pub some : (a ≡ pos 0) → (b ≡ pos 0) → ⊥

-- the two sides of the way from one point to another
pub data Side : Type 0 where
  right : Side
  left : Side

-- s lies strictly on this side of the way from c to d
abbrev pub IsOn : Side → List Point → ℕ → ℕ → ℕ → Type 0
IsOn right points c d s = IsLeft points d c s
IsOn left points c d s = IsLeft points c d s

-- the points that were passed, in the order of the sweep
pub record ArePassed (points : List Point) (a b : ℤ) (earlier : List ℕ) : Type 0 where
  pub named : (i : ℕ) → Contains earlier i → i < length points
  pub ascend : AllPairs (λ i j. ComesBefore a b (point points i) (point points j)) earlier

-- p is a point that comes after all of them
pub record ComesNext (points : List Point) (a b : ℤ) (earlier : List ℕ) (p : ℕ) : Type 0 where
  pub named : p < length points
  pub after : (i : ℕ) → Contains earlier i → ComesBefore a b (point points i) (point points p)

-- the chain leads from the first earlier point to the last one in the order of the sweep, has no earlier point on this side of it, and leaves out none that lies on it
pub record IsBoundary (side : Side) (points : List Point) (a b : ℤ) (earlier chain : List ℕ) : Type 0 where
  pub some : 0 < length chain
  pub members : (i : ℕ) → Contains chain i → Contains earlier i
  pub ascends : AllPairs (λ i j. ComesBefore a b (point points i) (point points j)) chain
  pub first : link chain 0 ≡ link earlier 0
  pub last : (j k : ℕ) → j + 1 ≡ length chain → k + 1 ≡ length earlier → link chain j ≡ link earlier k
  pub closed : (j s : ℕ) → j + 1 < length chain → Contains earlier s → ¬ IsOn side points (link chain j) (link chain (j + 1)) s
  pub whole : (j s : ℕ) → j + 1 < length chain → Contains earlier s → turn points (link chain j) (link chain (j + 1)) s ≡ pos 0 → Contains chain s

-- each way of the chain is listed as a pair
abbrev pub AreListed : List Pair → List ℕ → Type 0
AreListed listed chain = (j : ℕ) → j + 1 < length chain → Contains listed (record { before = link chain j; joined = link chain (j + 1) })

-- the ends of what is listed are earlier points
abbrev pub AreAmong : List Pair → List ℕ → Type 0
AreAmong listed earlier = (f : Pair) → Contains listed f → Contains earlier f.before × Contains earlier f.joined

-- from its place j on, p lies strictly on this side of every way of the chain
pub record IsSeenFrom (side : Side) (points : List Point) (chain : List ℕ) (p j : ℕ) : Type 0 where
  pub within : j < length chain
  pub seen : (i : ℕ) → j ≤ i → i + 1 < length chain → IsOn side points (link chain i) (link chain (i + 1)) p

-- p sees the chain from its place j on and not from any lower one
pub record IsFirstSeen (side : Side) (points : List Point) (chain : List ℕ) (p j : ℕ) : Type 0 where
  pub seen : IsSeenFrom side points chain p j
  pub lowest : (i : ℕ) → IsSeenFrom side points chain p i → j ≤ i

-- the chain up to its place j, and then p
abbrev pub turned : List ℕ → ℕ → ℕ → List ℕ
turned chain j p = take (j + 1) chain ++ p ∷ []

-- what a sweep has made of the points that it has passed: the pairs that are listed, and the boundary on both sides
pub record IsSwept (points : List Point) (a b : ℤ) (earlier : List ℕ) (listed : List Pair) (rights lefts : List ℕ) : Type 0 where
  pub passed : ArePassed points a b earlier
  pub among : AreAmong listed earlier
  pub on_right : IsBoundary right points a b earlier rights
  pub on_left : IsBoundary left points a b earlier lefts
  pub rights_listed : AreListed listed rights
  pub lefts_listed : AreListed listed lefts

-- the numbers are those of the chains from these places on, in the order of the sweep, each once
pub record AreTaken (points : List Point) (a b : ℤ) (rights : List ℕ) (i : ℕ) (lefts : List ℕ) (j : ℕ) (taken : List ℕ) : Type 0 where
  pub ascend : AllPairs (λ r s. ComesBefore a b (point points r) (point points s)) taken
  pub sound : (r : ℕ) → Contains taken r → ((k : ℕ) × (i ≤ k) × (k < length rights) × (r ≡ link rights k)) ⊎ ((k : ℕ) × (j ≤ k) × (k < length lefts) × (r ≡ link lefts k))
  pub rights_in : (k : ℕ) → i ≤ k → k < length rights → Contains taken (link rights k)
  pub lefts_in : (k : ℕ) → j ≤ k → k < length lefts → Contains taken (link lefts k)

-- the pairs of these points with p, in their order
abbrev pub pairs_with : ℕ → List ℕ → List Pair
pairs_with p taken = map (λ r. record { before = r; joined = p }) taken

-- points of a list that a sweep can pass: they are distinct and not all on one line, and their coordinates are in reach
pub record CanBeSwept (points : List Point) : Type 0 where
  pub placed : ArePlaced points
  pub reachable : AreReachable points
