-- The start of an instance: the runs of its inputs as tracks, and the centre in which they end.
use Rattle.std.specs.Prelude.{◌≡◌, ℕ, ◌<◌, List, map, Some, slice_get, All}
use Rattle.std.specs.List.{AllZip}
use Rattle.geo_orient.specs.declared.Point.{Point}
use Rattle.edge_table.specs.declared.edge.Edge.{Edge}
use Rattle.flip_list_law.specs.FlipLists.{flipped_edges}
use Rattle.round_pack.specs.Tracks.{FlipTrack}
use Rattle.lawson_law.specs.LawsonRuns.{IsTraced, IsLawsonRun, IsLawsonRunLonger, IsOpening}
use Rattle.lawson_start.specs.declared.centre.Start.{Start}
use Rattle.lawson_start.specs.declared.fault.StartFault.{StartFault}
use Rattle.lawson_start.specs.declared.fault.StartFault.TheVariants.{FlipBudget, OutOfMemory}

-- the flips of the track are the run of an input, and lead to the centre
pub record IsRunTrack (points : List Point) (centre input : List Edge) (track : FlipTrack) : Type 0 where
  pub of_points : track.points ≡ points
  pub from : track.start ≡ input
  pub to : track.end ≡ centre
  pub run : IsLawsonRun points input (flipped_edges track.flips) centre

-- no run has more flips than the budget
abbrev pub AreWithin : List Point → List (List Edge) → ℕ → Type 0
AreWithin points inputs budget = All (λ input. ¬ IsLawsonRunLonger points input budget) inputs

-- for each input, in order, the track of its run, each within the budget, and the one centre of all
pub record IsStart (points : List Point) (inputs : List (List Edge)) (budget : ℕ) (start : Start) : Type 0 where
  pub of_points : start.centre.points ≡ points
  pub tracks : AllZip (IsRunTrack points start.centre.edges) inputs start.tracks
  pub opening : IsOpening points inputs (map (λ track. flipped_edges track.flips) start.tracks) start.centre.edges
  pub within : AreWithin points inputs budget

-- the input with the place t is the first whose run has more flips than the budget
pub record IsOverBudget (points : List Point) (inputs : List (List Edge)) (budget t : ℕ) : Type 0 where
  pub input : List Edge
  pub there : slice_get inputs t ≡ Some input
  pub longer : IsLawsonRunLonger points input budget
  pub earlier : (k : ℕ) (other : List Edge) → k < t → slice_get inputs k ≡ Some other → ¬ IsLawsonRunLonger points other budget

-- the first input whose run has more flips than the budget, or there is no memory
abbrev pub IsStartFault : List Point → List (List Edge) → ℕ → StartFault → Type 0
IsStartFault points inputs budget (FlipBudget t) = IsOverBudget points inputs budget t
IsStartFault points inputs budget OutOfMemory = Unit {0}

-- the flips are the whole run of the input with the place t
pub record IsWholeRun (points : List Point) (inputs : List (List Edge)) (t : ℕ) (flips : List Edge) : Type 0 where
  pub input : List Edge
  pub to : List Edge
  pub there : slice_get inputs t ≡ Some input
  pub run : IsLawsonRun points input flips to

-- the images are those of the flips in order, where the run of the input with the place t has these flips
pub record AreImages (points : List Point) (inputs : List (List Edge)) (t : ℕ) (flips images : List Edge) : Type 0 where
  pub input : List Edge
  pub to : List Edge
  pub there : slice_get inputs t ≡ Some input
  pub traced : IsTraced points input flips images to
