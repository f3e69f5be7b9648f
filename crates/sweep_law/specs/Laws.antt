-- The laws of sweeps. Each is the contract of a function of the crate, so each is proved.
use Rattle.std.specs.Prelude.{◌≡◌, ℕ, ℤ, List, [], ◌∷◌, ◌++◌}
use Rattle.geo_orient.specs.declared.Point.{Point}
use Rattle.sweep_law.specs.Sweeps.{IsSweepOrder, Pair, joined}
use Rattle.sweep_law.specs.Boundaries.{IsDirection, right, left, CanBeSwept, ComesNext, IsSwept, IsFirstSeen, AreTaken, turned, pairs_with}

-- points have one order along a direction
abbrev pub SweepOrdersAreUnique : Type 0
SweepOrdersAreUnique =
    (points : List Point) (a b : ℤ) (order other : List ℕ) → IsSweepOrder points a b order → IsSweepOrder points a b other → order ≡ other

-- the first point that a sweep passes is its own boundary, and nothing is listed
abbrev pub FirstPointsAreAlone : Type 0
FirstPointsAreAlone =
    (points : List Point) (a b : ℤ) (p : ℕ) → ComesNext points a b [] p → IsSwept points a b (p ∷ []) [] (p ∷ []) (p ∷ [])

-- a further point is joined with those points of the boundary that it sees, in the order of the sweep, and with no other
abbrev pub SweepsJoinWhatIsSeen : Type 0
SweepsJoinWhatIsSeen =
    (points : List Point) (a b : ℤ) (earlier : List ℕ) (listed : List Pair) (rights lefts : List ℕ) (p i j : ℕ) (taken : List ℕ)
    → CanBeSwept points → IsDirection a b → IsSwept points a b earlier listed rights lefts → ComesNext points a b earlier p
    → IsFirstSeen right points rights p i → IsFirstSeen left points lefts p j → AreTaken points a b rights i lefts j taken
    → joined points earlier p listed ≡ listed ++ pairs_with p taken

-- the boundary with the further point turns to it where the point sees it first
abbrev pub BoundariesGrow : Type 0
BoundariesGrow =
    (points : List Point) (a b : ℤ) (earlier : List ℕ) (listed : List Pair) (rights lefts : List ℕ) (p i j : ℕ) (taken : List ℕ)
    → CanBeSwept points → IsDirection a b → IsSwept points a b earlier listed rights lefts → ComesNext points a b earlier p
    → IsFirstSeen right points rights p i → IsFirstSeen left points lefts p j → AreTaken points a b rights i lefts j taken
    → IsSwept points a b (earlier ++ p ∷ []) (listed ++ pairs_with p taken) (turned rights i p) (turned lefts j p)
