-- What makes raw values no instance, and which fault is the first.
use Rattle.std.specs.Prelude.{◌≡◌, ◌⊎◌, ℕ, ◌<◌, ℤ, pos, ◌+ℤ◌, ◌<ℤ◌, ◌≤ℤ◌, List, [], ◌∷◌, length, sum, map, Contains, Some, slice_get}
use Rattle.std.specs.declared.cmp.Ordering.TheVariants.{Less}
use Rattle.std.specs.Ordering.{nat_cmp}
use Rattle.std.specs.Cmp.Lexicographic.{slice_cmp}
use Rattle.geo_orient.specs.declared.Point.{Point}
use Rattle.geo_orient.specs.Reach.{IsInReach}
use Rattle.edge_table.specs.declared.edge.Edge.{Edge}
use Rattle.edge_table.specs.Edges.{IsBefore}
use Rattle.tri_theory.specs.Points.{point, turn, IsLeft, Separates}
use Rattle.tri_theory.specs.Triangulations.{AreJoined, Crosses, IsEmptyTriangle}
use Rattle.tri_theory.specs.Inputs.{IsCompleted}
use Rattle.tri_check.specs.declared.raw.RawPair.{RawPair}
use Rattle.tri_check.specs.declared.fault.Bad.{Bad}
use Rattle.tri_check.specs.declared.fault.Bad.TheVariants.{TooManyPoints, TooManyInputs, TooManyPairs, CoordinateRange, TooFewPoints, RepeatedPoint, Collinear, NoInput, BadVertex, Loop, Blocked, Crossing, LonePoint, OpenSide, WeightRange, WeightSum}

-- the number names a point
abbrev pub NamesPoint : List Point → ℤ → Type 0
NamesPoint points z = (pos 0 ≤ℤ z) × (z <ℤ pos (length points))

-- the pair with this place in the input with this place
abbrev pub IsPairAt : List (List RawPair) → ℕ → ℕ → RawPair → Type 0
IsPairAt inputs t p pair = (pairs : List RawPair) × (slice_get inputs t ≡ Some pairs) × (slice_get pairs p ≡ Some pair)

-- the pairs of numbers that are listed
abbrev pub IsListed : List RawPair → List (ℕ × ℕ) → Type 0
IsListed raw pairs = raw ≡ map (λ pair. record { a = pos pair.0; b = pos pair.1 }) pairs

-- the members of an input: its listed pairs as edges, and all hull segments
abbrev pub IsCompletedInput : List Point → List RawPair → List Edge → Type 0
IsCompletedInput points raw edges = (pairs : List (ℕ × ℕ)) × IsListed raw pairs × IsCompleted points pairs edges

-- the input with this place has these members
abbrev pub HasMembers : List Point → List (List RawPair) → ℕ → List Edge → Type 0
HasMembers points inputs t edges = (raw : List RawPair) × (slice_get inputs t ≡ Some raw) × IsCompletedInput points raw edges

-- a member has points strictly on a side, and no empty triangle there
abbrev pub IsOpen : List Point → List Edge → ℕ → ℕ → Type 0
IsOpen points edges a b = ((p : ℕ) × (p < length points) × IsLeft points a b p) × ((c : ℕ) → ¬ IsEmptyTriangle points edges a b c)

-- the points or the listed pairs have the fault
abbrev pub HoldsOfShape : List Point → List (List RawPair) → Bad → Type 0
HoldsOfShape points inputs (TooManyPoints n) = (n ≡ length points) × (16384 < n)
HoldsOfShape points inputs (TooManyInputs m) = (m ≡ length inputs) × (256 < m)
HoldsOfShape points inputs (TooManyPairs c) = (c ≡ sum (map (λ pairs. length pairs) inputs)) × (2000000 < c)
HoldsOfShape points inputs (CoordinateRange i) = (i < length points) × ¬ IsInReach (point points i)
HoldsOfShape points inputs (TooFewPoints n) = (n ≡ length points) × (n < 3)
HoldsOfShape points inputs (RepeatedPoint i j) = (i < j) × (j < length points) × (point points i ≡ point points j)
HoldsOfShape points inputs Collinear = (a b c : ℕ) → a < length points → b < length points → c < length points → turn points a b c ≡ pos 0
HoldsOfShape points inputs NoInput = inputs ≡ []
HoldsOfShape points inputs (BadVertex t p) = (pair : RawPair) × IsPairAt inputs t p pair × (¬ NamesPoint points pair.a ⊎ ¬ NamesPoint points pair.b)
HoldsOfShape points inputs (Loop t p) = (pair : RawPair) × IsPairAt inputs t p pair × (pair.a ≡ pair.b)
HoldsOfShape points inputs (Blocked t e q) = (edges : List Edge) × HasMembers points inputs t edges × Contains edges e × (q < length points) × Separates points e.0 e.1 q
HoldsOfShape points inputs (Crossing t e f) = (edges : List Edge) × HasMembers points inputs t edges × Contains edges e × Contains edges f × IsBefore e f × Crosses points e f
HoldsOfShape points inputs (LonePoint t p) = (edges : List Edge) × HasMembers points inputs t edges × (p < length points) × ((q : ℕ) → ¬ AreJoined edges p q)
HoldsOfShape points inputs (OpenSide t e) = (edges : List Edge) × HasMembers points inputs t edges × Contains edges e × (IsOpen points edges e.0 e.1 ⊎ IsOpen points edges e.1 e.0)
HoldsOfShape points inputs (WeightRange t) = ⊥
HoldsOfShape points inputs (WeightSum s) = ⊥

-- a weight is from 1 to 16
abbrev pub IsWeight : ℤ → Type 0
IsWeight w = (pos 1 ≤ℤ w) × (w ≤ℤ pos 16)

-- the sum of whole numbers
abbrev pub whole_sum : List ℤ → ℤ
whole_sum [] = pos 0
whole_sum (w ∷ ws) = w +ℤ whole_sum ws

-- the weights have the fault
abbrev pub HoldsOfWeights : List ℤ → Bad → Type 0
HoldsOfWeights weights (WeightRange t) = (w : ℤ) × (slice_get weights t ≡ Some w) × ¬ IsWeight w
HoldsOfWeights weights (WeightSum s) = (pos s ≡ whole_sum weights) × (256 < s)
HoldsOfWeights weights _ = ⊥

-- the fault is there
abbrev pub Holds : List Point → List (List RawPair) → List ℤ → Bad → Type 0
Holds points inputs weights b = HoldsOfShape points inputs b ⊎ HoldsOfWeights weights b

-- the place of a fault among all faults: the number of its kind, then its fields; from the ninth kind to the fourteenth the input comes first
abbrev pub place_of : Bad → List ℕ
place_of (TooManyPoints n) = 1 ∷ []
place_of (TooManyInputs m) = 2 ∷ []
place_of (TooManyPairs c) = 3 ∷ []
place_of (CoordinateRange i) = 4 ∷ i ∷ []
place_of (TooFewPoints n) = 5 ∷ []
place_of (RepeatedPoint i j) = 6 ∷ i ∷ j ∷ []
place_of Collinear = 7 ∷ []
place_of NoInput = 8 ∷ []
place_of (BadVertex t p) = 9 ∷ t ∷ 9 ∷ p ∷ []
place_of (Loop t p) = 9 ∷ t ∷ 10 ∷ p ∷ []
place_of (Blocked t e q) = 9 ∷ t ∷ 11 ∷ e.0 ∷ e.1 ∷ q ∷ []
place_of (Crossing t e f) = 9 ∷ t ∷ 12 ∷ e.0 ∷ e.1 ∷ f.0 ∷ f.1 ∷ []
place_of (LonePoint t p) = 9 ∷ t ∷ 13 ∷ p ∷ []
place_of (OpenSide t e) = 9 ∷ t ∷ 14 ∷ e.0 ∷ e.1 ∷ []
place_of (WeightRange t) = 10 ∷ t ∷ []
place_of (WeightSum s) = 11 ∷ []

-- the one fault is looked for before the other
abbrev pub IsEarlier : Bad → Bad → Type 0
IsEarlier c b = slice_cmp nat_cmp (place_of c) (place_of b) ≡ Less

-- the fault is there, and no earlier one is
pub record IsFirstFault (points : List Point) (inputs : List (List RawPair)) (weights : List ℤ) (b : Bad) : Type 0 where
  pub holds : Holds points inputs weights b
  pub first : (c : Bad) → IsEarlier c b → ¬ Holds points inputs weights c

-- the raw values are an instance: they have no fault
abbrev pub IsValid : List Point → List (List RawPair) → List ℤ → Type 0
IsValid points inputs weights = (b : Bad) → ¬ Holds points inputs weights b
