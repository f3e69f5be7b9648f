-- How a run goes on: the set of bad edges, its least member, and what the flip of it makes of all that is kept.
use Rattle.std.specs.Prelude.{◌≡◌, ◌≢◌, ◌↔◌, ℕ, ◌+◌, ◌<◌, List, [], ◌∷◌, ◌++◌, length, Some, slice_get, slice_index_or, Contains}
use Rattle.geo_orient.specs.declared.Point.{Point}
use Rattle.edge_table.specs.declared.edge.Edge.{Edge}
use Rattle.edge_table.specs.Edges.{edge, IsBefore}
use Rattle.tri_theory.specs.Flips.{IsFlip}
use Rattle.tri_check.specs.Layouts.{Layout}
use Rattle.flip_list_law.specs.FlipLists.{flipped_edges}
use Rattle.flip_mesh.specs.declared.mesh.Quad.{Quad}
use Rattle.round_pack.specs.Tracks.{FlipTrack, flip}
use Rattle.lawson_law.specs.LawsonRuns.{IsBad, HasNoBadEdge, LawsonRunsTo, IsTraced, IsLawsonRun, IsLawsonRunLonger}
use Rattle.lawson_start.specs.declared.fault.StartFault.{StartFault}
use Rattle.lawson_start.specs.declared.fault.StartFault.TheVariants.{FlipBudget, OutOfMemory}
use Rattle.lawson_start.specs.declared.traced.Trace.{Trace}

-- a member, and none is before it
pub record IsFirst (edges : List Edge) (e : Edge) : Type 0 where
  pub member : Contains edges e
  pub first : (f : Edge) → Contains edges f → ¬ IsBefore f e

-- the set has the bad edges, and no others
pub record AreBad (points : List Point) (edges bad : List Edge) : Type 0 where
  pub members : (e : Edge) → Contains bad e ↔ IsBad points edges e

-- the set has those of the first i edges that are bad
pub record AreBadBefore (points : List Point) (edges bad : List Edge) (i : ℕ) : Type 0 where
  pub sound : (e : Edge) → Contains bad e → IsBad points edges e
  pub complete : (k : ℕ) (d : Edge) → k < i → IsBad points edges (slice_index_or edges k d) → Contains bad (slice_index_or edges k d)

-- the set has e exactly where it is bad, and the other edges as before
pub record IsRetested (points : List Point) (edges old new : List Edge) (e : Edge) : Type 0 where
  pub here : Contains new e ↔ IsBad points edges e
  pub others : (f : Edge) → f ≢ e → Contains new f ↔ Contains old f

-- f is no side of the quadrilateral
pub record IsNoSide (q : Quad) (f : Edge) : Type 0 where
  pub ab : f ≢ edge q.a q.b
  pub bc : f ≢ edge q.b q.c
  pub cd : f ≢ edge q.c q.d
  pub da : f ≢ edge q.d q.a

-- the same for each side of the quadrilateral
pub record AreSidesRetested (points : List Point) (edges old new : List Edge) (q : Quad) : Type 0 where
  pub ab : Contains new (edge q.a q.b) ↔ IsBad points edges (edge q.a q.b)
  pub bc : Contains new (edge q.b q.c) ↔ IsBad points edges (edge q.b q.c)
  pub cd : Contains new (edge q.c q.d) ↔ IsBad points edges (edge q.c q.d)
  pub da : Contains new (edge q.d q.a) ↔ IsBad points edges (edge q.d q.a)
  pub others : (f : Edge) → IsNoSide q f → Contains new f ↔ Contains old f

-- e flips to some edge, which leads to the next edges
abbrev pub FlipsOn : List Point → List Edge → Edge → List Edge → Type 0
FlipsOn points edges e next = (f : Edge) × IsFlip points edges e f next

-- the track ends in the triangulation, and the set has its bad edges
pub record Stands (track : FlipTrack) (mesh : Layout) (bad : List Edge) : Type 0 where
  pub of_points : track.points ≡ mesh.points
  pub end : track.end ≡ mesh.edges
  pub bad_edges : AreBad mesh.points mesh.edges bad

-- the flip of e comes to the track
pub record Follows (old new : FlipTrack) (e : Edge) : Type 0 where
  pub of_points : new.points ≡ old.points
  pub start : new.start ≡ old.start
  pub flips : (f : Edge) × (new.flips ≡ old.flips ++ flip e f ∷ [])
  pub end : FlipsOn old.points old.end e new.end

-- the track's flips are the run of an input up to here, and so many more are within the budget
pub record IsBegun (points : List Point) (input : List Edge) (budget left : ℕ) (track : FlipTrack) : Type 0 where
  pub of_points : track.points ≡ points
  pub from : track.start ≡ input
  pub runs : LawsonRunsTo points input (flipped_edges track.flips) track.end
  pub count : length (flipped_edges track.flips) + left ≡ budget

-- the track's flips are the whole run of an input, and within the budget
pub record IsRunOf (points : List Point) (budget : ℕ) (input : List Edge) (track : FlipTrack) : Type 0 where
  pub of_points : track.points ≡ points
  pub from : track.start ≡ input
  pub run : IsLawsonRun points input (flipped_edges track.flips) track.end
  pub within : ¬ IsLawsonRunLonger points input budget

-- the run of the input with the place t has more flips than the budget
pub record IsLongAt (points : List Point) (inputs : List (List Edge)) (budget t : ℕ) : Type 0 where
  pub input : List Edge
  pub there : slice_get inputs t ≡ Some input
  pub longer : IsLawsonRunLonger points input budget

-- that is why there is no track of it, or there is no memory
abbrev pub IsFaultAt : List Point → List (List Edge) → ℕ → ℕ → StartFault → Type 0
IsFaultAt points inputs budget t (FlipBudget s) = (s ≡ t) × IsLongAt points inputs budget t
IsFaultAt points inputs budget t OutOfMemory = Unit {0}

-- the flips with their images are the run of an input up to here, and the set has the bad edges where they led
pub record IsOnTheWay (points : List Point) (input flips images : List Edge) (mesh : Layout) (bad : List Edge) : Type 0 where
  pub of_points : mesh.points ≡ points
  pub traced : IsTraced points input flips images mesh.edges
  pub bad_edges : AreBad mesh.points mesh.edges bad

-- the trace is the whole run of an input
pub record IsTraceOf (points : List Point) (input : List Edge) (trace : Trace) : Type 0 where
  pub to : List Edge
  pub traced : IsTraced points input trace.flips trace.images to
  pub last : HasNoBadEdge points to
