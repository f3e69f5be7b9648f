-- The crossings of each segment with a triangulation, counted over the frame's pairs that cross.
use Rattle.std.specs.Prelude.{◌≡◌, ℕ, ◌+◌, ◌<◌, ◌≤◌, cond, ◌&&◌, List, length, map, take, slice_index_or, sum_by, All}
use Rattle.geo_orient.specs.declared.Point.{Point}
use Rattle.edge_table.specs.declared.edge.Edge.{Edge}
use Rattle.edge_table.specs.Edges.{is_edge, is_member}
use Rattle.tri_theory.specs.Crossings.{crossings}
use Rattle.crossing_law.specs.Digits.{digits}
use Rattle.formula_law.specs.Frames.{Pair, Frame}
use Rattle.formula_parts.specs.Lists.{edge_at}
use Rattle.pruned_cnf.specs.Queries.{Query, IsQuery}

-- how often the pair is e with a member
abbrev pub hits : List Edge → Edge → Pair → ℕ
hits edges e g = cond (is_edge e g.0 && is_member edges g.1) 1 0 + cond (is_edge e g.1 && is_member edges g.0) 1 0

-- by the number of each segment, the pairs of it with a member among the first m that cross
pub record AreCounted (F : Frame) (edges : List Edge) (m : ℕ) (counts : List ℕ) : Type 0 where
  pub long : length counts ≡ length F.segments
  pub each : (n : ℕ) → n < length F.segments → slice_index_or counts n 0 ≡ sum_by (hits edges (edge_at F.segments n)) (take m F.crossings)

-- by the number of each segment, the digits of its crossings
pub record AreDigits (points : List Point) (edges segments : List Edge) (found : List ℕ) : Type 0 where
  pub each : found ≡ map (λ e. digits (crossings points edges e)) segments
  pub few : All (λ d. d ≤ 32) found

-- what a query keeps: the digits of all crossings with both triangulations. The second one names the same points
pub record IsHeld (q : Query) (named : List Point) (after before : List ℕ) : Type 0 where
  pub query : IsQuery q
  pub same : named ≡ q.points
  pub after_from : AreDigits q.points q.from q.frame.segments after
  pub before_to : AreDigits q.points q.to q.frame.segments before
