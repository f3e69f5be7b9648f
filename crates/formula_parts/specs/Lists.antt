-- The lists of a frame, with pairs of segments as pairs of their numbers.
use Rattle.std.specs.Prelude.{◌↔◌, ℕ, ◌<◌, ◌≤◌, List, length, map, slice_index_or, All, Contains}
use Rattle.geo_orient.specs.declared.Point.{Point}
use Rattle.tri_theory.specs.Triangulations.{IsSegment}
use Rattle.edge_table.specs.declared.edge.Edge.{Edge}
use Rattle.edge_table.specs.Edges.{IsAscending}
use Rattle.formula_law.specs.Frames.{Pair, Frame}

-- the numbers of two segments
abbrev pub Link : Type 0
Link = ℕ × ℕ

-- what stands for an edge that a list doesn't have
abbrev pub no_edge : Edge
no_edge = (0, 0)

abbrev pub edge_at : List Edge → ℕ → Edge
edge_at segments n = slice_index_or segments n no_edge

abbrev pub linked : List Edge → Link → Pair
linked segments g = (edge_at segments g.0, edge_at segments g.1)

abbrev pub frame_by : List Edge → List Link → List Link → Frame
frame_by segments crossings flips = record { segments = segments; crossings = map (linked segments) crossings; flips = map (linked segments) flips }

-- both are numbers below n
abbrev pub IsLinkBelow : ℕ → Link → Type 0
IsLinkBelow n g = (g.0 < n) × (g.1 < n)

-- the lists ascend, name segments that are there, and are as short as those of 64 points
pub record AreLists (segments : List Edge) (crossings flips : List Link) : Type 0 where
  pub segments_ascend : IsAscending segments
  pub crossings_in : All (IsLinkBelow (length segments)) crossings
  pub flips_in : All (IsLinkBelow (length segments)) flips
  pub flips_ascend : IsAscending flips
  pub few_segments : length segments ≤ 4096
  pub few_crossings : length crossings ≤ 16_777_216
  pub few_flips : length flips ≤ 16_777_216

-- all segments of the points, in order, and not many
pub record AreSegments (points : List Point) (segments : List Edge) : Type 0 where
  pub ascending : IsAscending segments
  pub members : (e : Edge) → Contains segments e ↔ IsSegment points e
  pub few : length segments ≤ 4096

abbrev pub pair_of : Edge → Edge → Pair
pair_of e f = (e, f)
