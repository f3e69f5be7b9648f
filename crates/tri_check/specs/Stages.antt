-- What is known of raw values once some kinds of fault are ruled out.
use Rattle.std.specs.Prelude.{◌≡◌, ◌≢◌, ◌⊎◌, ◌↔◌, ⊤, ℕ, ◌<◌, ◌≤◌, ℤ, pos, List, length, take, map, sum, All, Contains, Some, slice_get, slice_index_or, unsigned_abs, ◌≤ℤ◌, ◌<ℤ◌}
use Rattle.geo_orient.specs.declared.Point.{Point}
use Rattle.edge_table.specs.declared.edge.Edge.{Edge}
use Rattle.edge_table.specs.Edges.{edge, IsBefore, IsAscending}
use Rattle.tri_theory.specs.Points.{point, turn, IsLeft, Separates, ArePlaced}
use Rattle.tri_theory.specs.Triangulations.{AreJoined, Crosses, IsOutside, IsEmptyTriangle, IsTriangulation}
use Rattle.tri_theory.specs.Inputs.{IsHullSegment}
use Rattle.tri_check.specs.declared.raw.RawPair.{RawPair}
use Rattle.tri_check.specs.declared.fault.Bad.{Bad}
use Rattle.tri_check.specs.declared.fault.CheckFault.{CheckFault}
use Rattle.tri_check.specs.declared.fault.CheckFault.TheVariants as fault
use Rattle.tri_check.specs.Layouts.{Layout, AreInReach}
use Rattle.tri_check.specs.Faults.{HoldsOfShape, HoldsOfWeights, NamesPoint, place_of, IsEarlier, IsWeight, IsCompletedInput, IsOpen}

-- ---- searches

-- the least number below n with a property
pub record IsLeast (n : ℕ) (P : ℕ → Type 0) (i : ℕ) : Type 0 where
  pub below : i < n
  pub holds : P i
  pub least : (k : ℕ) → k < i → ¬ P k

-- no number below n has the property
abbrev pub IsNone : ℕ → (ℕ → Type 0) → Type 0
IsNone n P = (k : ℕ) → k < n → ¬ P k

-- the first member with a property, in edge order
pub record IsFirstEdge (edges : List Edge) (P : Edge → Type 0) (e : Edge) : Type 0 where
  pub member : Contains edges e
  pub holds : P e
  pub first : (f : Edge) → Contains edges f → IsBefore f e → ¬ P f

-- no member has the property
abbrev pub IsNoEdge : List Edge → (Edge → Type 0) → Type 0
IsNoEdge edges P = (e : Edge) → Contains edges e → ¬ P e

-- ---- points

-- the points are few enough for their numbers, and in reach of the predicates
pub record AreUsable (points : List Point) : Type 0 where
  pub few : length points ≤ 16384
  pub in_reach : AreInReach points

-- no two points are equal
abbrev pub AreDistinct : List Point → Type 0
AreDistinct points = (i j : ℕ) → i < j → j < length points → point points i ≢ point points j

-- the first two equal points
pub record IsFirstRepeat (points : List Point) (i j : ℕ) : Type 0 where
  pub order : i < j
  pub within : j < length points
  pub same : point points i ≡ point points j
  pub first : (k l : ℕ) → k < i → k < l → l < length points → point points k ≢ point points l
  pub least : (l : ℕ) → i < l → l < j → point points i ≢ point points l

-- all points lie on one line
abbrev pub AreCollinear : List Point → Type 0
AreCollinear points = (a b c : ℕ) → a < length points → b < length points → c < length points → turn points a b c ≡ pos 0

-- some three points turn left
abbrev pub AreSpread : List Point → Type 0
AreSpread points = (a b c : ℕ) × (a < length points) × (b < length points) × (c < length points) × IsLeft points a b c

-- the edges are those of the hull
pub record AreHull (points : List Point) (edges : List Edge) : Type 0 where
  pub ascending : IsAscending edges
  pub members : (e : Edge) → (Contains edges e → IsHullSegment points e) × (IsHullSegment points e → Contains edges e)

-- ---- pairs

-- the pair with this place
abbrev pub pair_at : List RawPair → ℕ → RawPair
pair_at pairs p = slice_index_or pairs p (record { a = pos 0; b = pos 0 })

-- a number of the pair names no point
abbrev pub HasBadVertex : List Point → List RawPair → ℕ → Type 0
HasBadVertex points pairs p = ¬ NamesPoint points (pair_at pairs p).a ⊎ ¬ NamesPoint points (pair_at pairs p).b

-- the pair has equal numbers
abbrev pub IsLoop : List RawPair → ℕ → Type 0
IsLoop pairs p = (pair_at pairs p).a ≡ (pair_at pairs p).b

-- each pair names two points
pub record ArePairs (points : List Point) (pairs : List RawPair) : Type 0 where
  pub first : (p : ℕ) → p < length pairs → NamesPoint points (pair_at pairs p).a
  pub second : (p : ℕ) → p < length pairs → NamesPoint points (pair_at pairs p).b

-- the pair names two points
pub record NamesPoints (points : List Point) (pair : RawPair) : Type 0 where
  pub a_low : pos 0 ≤ℤ pair.a
  pub a_high : pair.a <ℤ pos (length points)
  pub b_low : pos 0 ≤ℤ pair.b
  pub b_high : pair.b <ℤ pos (length points)

-- the edge of a pair that names two points
abbrev pub edge_at : List RawPair → ℕ → Edge
edge_at pairs p = edge (unsigned_abs (pair_at pairs p).a) (unsigned_abs (pair_at pairs p).b)

-- the members are the hull segments and the edges of the first p pairs
pub record AreMembers (points : List Point) (pairs : List RawPair) (edges : List Edge) (p : ℕ) : Type 0 where
  pub ascending : IsAscending edges
  pub sound : (e : Edge) → Contains edges e → ((k : ℕ) × (k < p) × (e ≡ edge_at pairs k)) ⊎ IsHullSegment points e
  pub listed : (k : ℕ) → k < p → Contains edges (edge_at pairs k)
  pub hull : (e : Edge) → IsHullSegment points e → Contains edges e

-- the listed edges are the hull segments and the edges of the first p pairs
pub record AreGathered (points : List Point) (pairs : List RawPair) (items : List Edge) (p : ℕ) : Type 0 where
  pub sound : (e : Edge) → Contains items e → ((k : ℕ) × (k < p) × (e ≡ edge_at pairs k)) ⊎ IsHullSegment points e
  pub listed : (k : ℕ) → k < p → Contains items (edge_at pairs k)
  pub hull : (e : Edge) → IsHullSegment points e → Contains items e

-- the set has the first i of the listed edges
pub record HasFirst (items : List Edge) (edges : List Edge) (i : ℕ) : Type 0 where
  pub ascending : IsAscending edges
  pub members : (e : Edge) → Contains edges e ↔ Contains (take i items) e

-- ---- members

-- the edges are edges of these points
pub record AreEdges (points : List Point) (edges : List Edge) : Type 0 where
  pub low_first : (e : Edge) → Contains edges e → e.0 < e.1
  pub in_range : (e : Edge) → Contains edges e → e.1 < length points

-- a point lies strictly between the ends
abbrev pub IsBlocked : List Point → Edge → Type 0
IsBlocked points e = (q : ℕ) × (q < length points) × Separates points e.0 e.1 q

-- the edge is later, and crosses
abbrev pub CrossesLater : List Point → Edge → Edge → Type 0
CrossesLater points e f = IsBefore e f × Crosses points e f

-- a later member crosses
abbrev pub IsCrossed : List Point → List Edge → Edge → Type 0
IsCrossed points edges e = (f : Edge) × Contains edges f × CrossesLater points e f

-- the point is an end of a member
abbrev pub IsEnd : List Edge → ℕ → Type 0
IsEnd edges p = (q : ℕ) × AreJoined edges p q

-- the edge ends at the point
abbrev pub EndsAt : Edge → ℕ → Type 0
EndsAt e p = (e.0 ≡ p) ⊎ (e.1 ≡ p)

-- what holds of the first i members
abbrev pub AllBefore : List Edge → (Edge → Type 0) → ℕ → Type 0
AllBefore edges P i = (k : ℕ) (d : Edge) → k < i → P (slice_index_or edges k d)

-- other points than the corners lie outside
abbrev pub IsApart : List Point → ℕ → ℕ → ℕ → ℕ → Type 0
IsApart points a b c p = p ≢ a → p ≢ b → p ≢ c → IsOutside points a b c p

-- where points lie on the left, an empty triangle does
abbrev pub IsClosed : List Point → List Edge → ℕ → ℕ → Type 0
IsClosed points edges a b = (p : ℕ) → p < length points → IsLeft points a b p → (c : ℕ) × IsEmptyTriangle points edges a b c

-- a side is open
abbrev pub HasOpenSide : List Point → List Edge → Edge → Type 0
HasOpenSide points edges e = IsOpen points edges e.0 e.1 ⊎ IsOpen points edges e.1 e.0

-- no side is open
abbrev pub AreClosed : List Point → List Edge → Type 0
AreClosed points edges = (e : Edge) → Contains edges e → IsClosed points edges e.0 e.1 × IsClosed points edges e.1 e.0

-- ---- faults

-- the number of the kind up to the eighth, and 9 for the faults of an input
abbrev pub rank_of : Bad → ℕ
rank_of b = slice_index_or (place_of b) 0 0

-- the input, and the number of the kind, of a fault of an input
abbrev pub input_of : Bad → ℕ
input_of b = slice_index_or (place_of b) 1 0

abbrev pub kind_of : Bad → ℕ
kind_of b = slice_index_or (place_of b) 2 0

-- the points or the listed pairs have the fault, and no earlier one
pub record IsFirstOfShape (points : List Point) (inputs : List (List RawPair)) (b : Bad) : Type 0 where
  pub holds : HoldsOfShape points inputs b
  pub first : (c : Bad) → IsEarlier c b → ¬ HoldsOfShape points inputs c

-- a refusal names the first fault of the points and the listed pairs; want of memory is free
abbrev pub IsShapeRefusal : List Point → List (List RawPair) → CheckFault → Type 0
IsShapeRefusal points inputs (fault.Bad b) = IsFirstOfShape points inputs b
IsShapeRefusal points inputs fault.OutOfMemory = ⊤

-- no fault of a kind below k is there
pub record AreClear (points : List Point) (inputs : List (List RawPair)) (k : ℕ) : Type 0 where
  pub none : (c : Bad) → rank_of c < k → ¬ HoldsOfShape points inputs c

-- this input has no fault
pub record IsFaultless (points : List Point) (inputs : List (List RawPair)) (t : ℕ) : Type 0 where
  pub none : (c : Bad) → rank_of c ≡ 9 → input_of c ≡ t → ¬ HoldsOfShape points inputs c

-- the edges are what the input with this place stands for, a triangulation
pub record IsInput (points : List Point) (inputs : List (List RawPair)) (t : ℕ) (edges : List Edge) : Type 0 where
  pub completed : (raw : List RawPair) → slice_get inputs t ≡ Some raw → IsCompletedInput points raw edges
  pub triangulation : IsTriangulation points edges
  pub faultless : IsFaultless points inputs t

-- the numbers of points, inputs and pairs are within the limits
pub record AreLimited (points : List Point) (inputs : List (List RawPair)) : Type 0 where
  pub clear : AreClear points inputs 4
  pub few_points : length points ≤ 16384
  pub few_inputs : length inputs ≤ 256

-- no fault but those of an input is there
pub record AreSound (points : List Point) (inputs : List (List RawPair)) : Type 0 where
  pub clear : AreClear points inputs 9
  pub usable : AreUsable points
  pub placed : ArePlaced points
  pub some_points : 3 ≤ length points
  pub some_input : 1 ≤ length inputs
  pub few_inputs : length inputs ≤ 256

-- the first t triangulations are what the first t inputs stand for
pub record AreDone (points : List Point) (raw : List (List RawPair)) (layouts : List Layout) (t : ℕ) : Type 0 where
  pub count : length layouts ≡ t
  pub inputs : (k : ℕ) (d : Layout) → k < t → IsInput points raw k (slice_index_or layouts k d).edges
  pub shared : (k : ℕ) (d : Layout) → k < t → (slice_index_or layouts k d).points ≡ points

-- ---- weights

-- the weight with this place
abbrev pub weight_at : List ℤ → ℕ → ℤ
weight_at weights t = slice_index_or weights t (pos 0)

-- each weight is from 1 to 16
abbrev pub AreInRange : List ℤ → Type 0
AreInRange weights = (t : ℕ) → t < length weights → IsWeight (weight_at weights t)

-- the weights have the fault, and no earlier one
pub record IsFirstOfWeights (weights : List ℤ) (b : Bad) : Type 0 where
  pub holds : HoldsOfWeights weights b
  pub first : (c : Bad) → IsEarlier c b → ¬ HoldsOfWeights weights c

-- a refusal names the first fault of the weights; want of memory is free
abbrev pub IsWeightRefusal : List ℤ → CheckFault → Type 0
IsWeightRefusal weights (fault.Bad b) = IsFirstOfWeights weights b
IsWeightRefusal weights fault.OutOfMemory = ⊤

-- the numbers are the first t weights, each from 1 to 16
pub record AreNumbers (weights : List ℤ) (numbers : List ℕ) (t : ℕ) : Type 0 where
  pub same : take t weights ≡ map pos numbers
  pub positive : All (λ w. 1 ≤ w) numbers
  pub small : All (λ w. w ≤ 16) numbers

-- the weights have no fault, and these are their numbers
pub record AreWeighed (weights : List ℤ) (numbers : List ℕ) : Type 0 where
  pub same : weights ≡ map pos numbers
  pub positive : All (λ w. 1 ≤ w) numbers
  pub small : All (λ w. w ≤ 16) numbers
  pub few : sum numbers ≤ 256
  pub faultless : (b : Bad) → ¬ HoldsOfWeights weights b
