-- The laws of plans. Each is the contract of a function of the crate, so each is proved.
use Rattle.std.specs.Prelude.{◌≡◌, ◌≢◌, ◌↔◌, ℕ, ◌+◌, ◌*◌, ◌<◌, ◌≤◌, Some, List, [], length, slice_index_or, Contains}
use Rattle.geo_orient.specs.declared.Point.{Point}
use Rattle.tri_theory.specs.Points.{ArePlaced}
use Rattle.edge_table.specs.declared.edge.Edge.{Edge}
use Rattle.tri_theory.specs.Triangulations.{IsTriangulation}
use Rattle.tri_theory.specs.Flips.{FlipsTo, Flips}
use Rattle.tri_theory.specs.Rounds.{IsPlan, total}
use Rattle.flip_list_law.specs.declared.Flip.{Flip}
use Rattle.flip_list_law.specs.FlipLists.{Leads, IsFlipList, FlipInTurn, flipped_edges, round_count, in_turn}
use Rattle.bound_law.specs.Bounds.{input_at}
use Rattle.plan_law.specs.Images.{image_of, flippable, after_flip, flips_in_turn}
use Rattle.plan_law.specs.Plans.{IsInstance, Plan, IsPlanOf, schedules, plan_total, followed_all, swapped, moves, Settles}
use Rattle.plan_law.specs.Books.{AreRoundsOf}

-- ---- what the functions mean

-- the image that is found is the image, where there is one
abbrev pub ImagesAreFound : Type 0
ImagesAreFound =
    (points : List Point) (edges : List Edge) (e f : Edge) → ArePlaced points → IsTriangulation points edges → (image_of points edges e ≡ Some f) ↔ FlipsTo points edges e f

-- a flip leads where it says
abbrev pub FlipsLeadOn : Type 0
FlipsLeadOn =
    (points : List Point) (edges next : List Edge) (flip : Flip) → ArePlaced points → IsTriangulation points edges → Leads points edges flip next ↔ (FlipsTo points edges flip.edge flip.image × (next ≡ after_flip edges flip))

-- the edges that flip are those members that have an image
abbrev pub FlippableEdges : Type 0
FlippableEdges =
    (points : List Point) (edges : List Edge) (e : Edge) → ArePlaced points → IsTriangulation points edges → Contains (flippable points edges) e ↔ Flips points edges e

-- the flips that are found for edges are the flip list with these edges, where there is one
abbrev pub FlipsAreFound : Type 0
FlipsAreFound =
    (points : List Point) (edges es : List Edge) (flips : List Flip) → ArePlaced points → IsTriangulation points edges
    → (flips_in_turn points edges es ≡ Some flips) ↔ ((flipped_edges flips ≡ es) × ((to : List Edge) × IsFlipList points edges flips to))

-- ---- plans

-- the lists of a plan, grouped, are schedules to its centre, and have its total
abbrev pub PlansHaveSchedules : Type 0
PlansHaveSchedules =
    (points : List Point) (inputs : List (List Edge)) (plan : Plan) → IsInstance points inputs → IsPlanOf points inputs plan
    → IsPlan points inputs plan.centre (schedules plan) × (total plan.weights (schedules plan) ≡ plan_total plan)

-- its centre is a triangulation
abbrev pub CentresAreTriangulations : Type 0
CentresAreTriangulations =
    (points : List Point) (inputs : List (List Edge)) (plan : Plan) → IsInstance points inputs → IsPlanOf points inputs plan → IsTriangulation points plan.centre

-- a plan that follows edges stays a plan, and its centre is where they lead
abbrev pub FollowingKeepsPlans : Type 0
FollowingKeepsPlans =
    (points : List Point) (inputs : List (List Edge)) (plan next : Plan) (es : List Edge) → IsInstance points inputs → IsPlanOf points inputs plan → followed_all points plan es ≡ Some next
    → IsPlanOf points inputs next × FlipInTurn points plan.centre es next.centre

-- and it keeps its weights
abbrev pub FollowingKeepsWeights : Type 0
FollowingKeepsWeights = (points : List Point) (plan next : Plan) (es : List Edge) → followed_all points plan es ≡ Some next → next.weights ≡ plan.weights

-- and it can follow edges that flip in turn
abbrev pub EdgesAreFollowed : Type 0
EdgesAreFollowed =
    (points : List Point) (inputs : List (List Edge)) (plan : Plan) (es to : List Edge) → IsInstance points inputs → IsPlanOf points inputs plan → FlipInTurn points plan.centre es to
    → (next : Plan) × (followed_all points plan es ≡ Some next) × (next.centre ≡ to)

-- so it can make each of its moves
abbrev pub MovesAreMade : Type 0
MovesAreMade =
    (points : List Point) (inputs : List (List Edge)) (plan : Plan) (move : List Edge) → IsInstance points inputs → IsPlanOf points inputs plan → Contains (moves points plan) move
    → (next : Plan) × (followed_all points plan move ≡ Some next)

-- the flips of rounds that lead from an input to the centre can stand in place of its list. They need no more rounds
pub record Swaps (points : List Point) (inputs : List (List Edge)) (plan : Plan) (i : ℕ) (rounds : List (List Edge)) : Type 0 where
  pub next : Plan
  pub is_swapped : swapped points inputs plan i rounds ≡ Some next
  pub is_plan : IsPlanOf points inputs next
  pub same_centre : next.centre ≡ plan.centre
  pub same_weights : next.weights ≡ plan.weights
  pub edges : flipped_edges (slice_index_or next.lists i []) ≡ in_turn rounds
  pub no_more : round_count (slice_index_or next.lists i []) ≤ length rounds
  pub others : (k : ℕ) → k ≢ i → slice_index_or next.lists k [] ≡ slice_index_or plan.lists k []
  pub totals : plan_total next + slice_index_or plan.weights i 0 * round_count (slice_index_or plan.lists i []) ≡ plan_total plan + slice_index_or plan.weights i 0 * round_count (slice_index_or next.lists i [])

abbrev pub SwapsKeepPlans : Type 0
SwapsKeepPlans =
    (points : List Point) (inputs : List (List Edge)) (plan : Plan) (i : ℕ) (rounds : List (List Edge)) → IsInstance points inputs → IsPlanOf points inputs plan → i < length inputs
    → AreRoundsOf points (input_at inputs i) rounds plan.centre → Swaps points inputs plan i rounds

-- ---- settling

-- settling ends, after at most as many moves as the total falls by
abbrev pub SettlingEnds : Type 0
SettlingEnds =
    (points : List Point) (plan : Plan) → (made : List (List Edge)) × (end : Plan) × Settles points plan made end × (length made + plan_total end ≤ plan_total plan)

-- in one way
abbrev pub SettlingIsDetermined : Type 0
SettlingIsDetermined =
    (points : List Point) (plan end other : Plan) (made moves : List (List Edge)) → Settles points plan made end → Settles points plan moves other → (made ≡ moves) × (end ≡ other)

-- and keeps a plan
abbrev pub SettlingKeepsPlans : Type 0
SettlingKeepsPlans =
    (points : List Point) (inputs : List (List Edge)) (plan end : Plan) (made : List (List Edge)) → IsInstance points inputs → IsPlanOf points inputs plan → Settles points plan made end → IsPlanOf points inputs end
