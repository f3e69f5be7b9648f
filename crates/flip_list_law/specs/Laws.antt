-- The laws of flip lists: their grouping replays, one flip more, one flip less, and the flips of a schedule's rounds.
use Rattle.std.specs.Prelude.{◌≡◌, ◌≢◌, ◌↔◌, ℕ, suc, ◌<◌, ◌≤◌, max, cond, Some, None, List, [], ◌∷◌, ◌++◌, length, map, slice_index, slice_index_or, take, remove, All, AllPairs, Contains}
use Rattle.geo_orient.specs.declared.Point.{Point}
use Rattle.tri_theory.specs.Points.{ArePlaced}
use Rattle.edge_table.specs.declared.edge.Edge.{Edge}
use Rattle.edge_table.specs.Edges.{IsAscending}
use Rattle.tri_theory.specs.Triangulations.{IsTriangulation}
use Rattle.tri_theory.specs.Flips.{FlipsTo}
use Rattle.tri_theory.specs.Rounds.{IsRound, IsSchedule}
use Rattle.flip_list_law.specs.declared.Flip.{Flip}
use Rattle.flip_list_law.specs.FlipLists.{Leads, IsFlipList, flipped_edges, FlipInTurn, Triangle, one_side, other_side, makes, last_maker, rounds_before, number_after, round_numbers, last_numbers, round_count, with_edge_in, grouped, last_images, in_turn, undone_by, follow}

-- ---- flips

-- where an edge flips, its flip leads on
abbrev pub FlipsLead : Type 0
FlipsLead =
    (points : List Point) (edges : List Edge) (flip : Flip) → ArePlaced points → IsTriangulation points edges → FlipsTo points edges flip.edge flip.image
    → (next : List Edge) × Leads points edges flip next

-- a flip list leads from a triangulation to a triangulation
abbrev pub FlipListsKeepTriangulations : Type 0
FlipListsKeepTriangulations =
    (points : List Point) (from to : List Edge) (flips : List Flip) → ArePlaced points → IsTriangulation points from → IsFlipList points from flips to → IsTriangulation points to

-- the edges of a flip list determine its images and its end
abbrev pub EdgesDetermineFlips : Type 0
EdgesDetermineFlips =
    (points : List Point) (from to end : List Edge) (flips others : List Flip) → ArePlaced points → IsTriangulation points from → IsFlipList points from flips to → IsFlipList points from others end
    → flipped_edges flips ≡ flipped_edges others → (flips ≡ others) × (to ≡ end)

-- edges that flip in turn are the edges of a flip list, and the other way round
abbrev pub EdgesFlipInTurn : Type 0
EdgesFlipInTurn =
    (points : List Point) (from es to : List Edge) → FlipInTurn points from es to ↔ ((flips : List Flip) × (flipped_edges flips ≡ es) × IsFlipList points from flips to)

-- ---- round numbers

-- the number of the flip that last made the triangle, or 0
abbrev pub number_of_maker : List Flip → Triangle → ℕ
number_of_maker flips t = elim (last_maker flips t) [ Some place ↦ slice_index (round_numbers flips) place | None ↦ 0 ]

-- a flip's number is 1 plus the greater of the numbers of the earlier flips that last made the two triangles at its edge
abbrev pub NumbersCountMakers : Type 0
NumbersCountMakers =
    (flips : List Flip) (flip : Flip) (place : ℕ) → place < length flips → slice_index_or flips place flip ≡ flip
    → slice_index (round_numbers flips) place ≡ suc (max (number_of_maker (take place flips) (one_side flip)) (number_of_maker (take place flips) (other_side flip)))

-- ---- the grouping

-- the round with k others before it has the edges of the flips with the number k + 1
abbrev pub RoundsGroupByNumber : Type 0
RoundsGroupByNumber =
    (flips : List Flip) (k : ℕ) (e : Edge)
    → Contains (slice_index_or (grouped flips) k []) e ↔ ((place : ℕ) × (place < length flips) × (slice_index (round_numbers flips) place ≡ suc k) × (slice_index_or (flipped_edges flips) place e ≡ e))

-- the grouping is a schedule with the list's end. It has as many rounds as the greatest number, none is empty, and each is in edge order
pub record Replays (points : List Point) (from : List Edge) (flips : List Flip) (to : List Edge) : Type 0 where
  pub schedule : IsSchedule points from (grouped flips) to
  pub as_many : length (grouped flips) ≡ round_count flips
  pub none_empty : All (λ round. 0 < length round) (grouped flips)
  pub in_order : All IsAscending (grouped flips)

abbrev pub GroupingReplays : Type 0
GroupingReplays =
    (points : List Point) (from to : List Edge) (flips : List Flip) → ArePlaced points → IsTriangulation points from → IsFlipList points from flips to → Replays points from flips to

-- ---- one flip more

-- the new flip has the next number after those of its two triangles, and joins the round of that number
pub record Appends (points : List Point) (from : List Edge) (flips : List Flip) (flip : Flip) (next : List Edge) : Type 0 where
  pub leads : IsFlipList points from (flips ++ (flip ∷ [])) next
  pub numbers : round_numbers (flips ++ (flip ∷ [])) ≡ round_numbers flips ++ (suc (rounds_before (last_numbers flips) flip) ∷ [])
  pub rounds : round_count (flips ++ (flip ∷ [])) ≡ max (round_count flips) (suc (rounds_before (last_numbers flips) flip))
  pub grouping : grouped (flips ++ (flip ∷ [])) ≡ with_edge_in (rounds_before (last_numbers flips) flip) flip.edge (grouped flips)
  pub last : (t : Triangle) → last_numbers (flips ++ (flip ∷ [])) t ≡ number_after (last_numbers flips) flip t
  pub maker : (t : Triangle) → last_maker (flips ++ (flip ∷ [])) t ≡ cond (makes flip t) (Some (length flips)) (last_maker flips t)

abbrev pub FlipsAppend : Type 0
FlipsAppend =
    (points : List Point) (from to next : List Edge) (flips : List Flip) (flip : Flip) → IsFlipList points from flips to → Leads points to flip next → Appends points from flips flip next

-- for each triangle the last number is that of the flip that last made it, or 0
abbrev pub LastNumbersCountMakers : Type 0
LastNumbersCountMakers = (flips : List Flip) (t : Triangle) → last_numbers flips t ≡ number_of_maker flips t

-- ---- one flip less

-- one flip undoes another exactly where it was the last to make both triangles at the other's edge
abbrev pub UndoneByTheMaker : Type 0
UndoneByTheMaker =
    (flips : List Flip) (flip : Flip) (place : ℕ)
    → (undone_by flips flip ≡ Some place) ↔ ((last_maker flips (one_side flip) ≡ Some place) × (last_maker flips (other_side flip) ≡ Some place))

-- without that flip the list leads to the old end with the edge flipped. The flip was the other way round, all others keep their numbers, and so do all triangles but the two at the edge
pub record Cancels (points : List Point) (from : List Edge) (flips : List Flip) (place : ℕ) (flip : Flip) (next : List Edge) : Type 0 where
  pub within : place < length flips
  pub reversed : ((slice_index_or flips place flip).edge ≡ flip.image) × ((slice_index_or flips place flip).image ≡ flip.edge)
  pub leads : IsFlipList points from (remove flips place) next
  pub numbers : round_numbers (remove flips place) ≡ remove (round_numbers flips) place
  pub last : (t : Triangle) → t ≢ one_side flip → t ≢ other_side flip → last_numbers (remove flips place) t ≡ last_numbers flips t

abbrev pub FlipsCancel : Type 0
FlipsCancel =
    (points : List Point) (from to next : List Edge) (flips : List Flip) (flip : Flip) (place : ℕ) → ArePlaced points → IsTriangulation points from → IsFlipList points from flips to → Leads points to flip next
    → undone_by flips flip ≡ Some place → Cancels points from flips place flip next

-- where a flip is taken out, the flips that last made a triangle stay the last, those after it one place earlier
pub record MakersStay (flips : List Flip) (place : ℕ) (t : Triangle) : Type 0 where
  pub none : last_maker flips t ≡ None → last_maker (remove flips place) t ≡ None
  pub before : (k : ℕ) → k < place → last_maker flips t ≡ Some k → last_maker (remove flips place) t ≡ Some k
  pub after : (k : ℕ) → place ≤ k → last_maker flips t ≡ Some (suc k) → last_maker (remove flips place) t ≡ Some k

abbrev pub RemovalKeepsMakers : Type 0
RemovalKeepsMakers = (flips : List Flip) (place : ℕ) (t : Triangle) → MakersStay flips place t

-- either way the list leads to the old end with the edge flipped
abbrev pub FollowingLeads : Type 0
FollowingLeads =
    (points : List Point) (from to next : List Edge) (flips : List Flip) (flip : Flip) → ArePlaced points → IsTriangulation points from → IsFlipList points from flips to → Leads points to flip next
    → IsFlipList points from (follow flips flip) next

-- ---- the images of the last round

-- they are the images of the flips with the greatest number, in edge order, and members of the end
pub record AreLastImages (flips : List Flip) (to : List Edge) : Type 0 where
  pub in_order : IsAscending (last_images flips)
  pub members : (e : Edge) → Contains (last_images flips) e ↔ ((place : ℕ) × (place < length flips) × (slice_index (round_numbers flips) place ≡ round_count flips) × (slice_index_or (map (λ (flip : Flip). flip.image) flips) place e ≡ e))
  pub in_end : (e : Edge) → Contains (last_images flips) e → Contains to e

abbrev pub LastImages : Type 0
LastImages =
    (points : List Point) (from to : List Edge) (flips : List Flip) → ArePlaced points → IsTriangulation points from → IsFlipList points from flips to → AreLastImages flips to

-- they are a round from the end back to where all rounds but the last lead
abbrev pub LastImagesLeadBack : Type 0
LastImagesLeadBack =
    (points : List Point) (from to : List Edge) (flips : List Flip) (k : ℕ) → ArePlaced points → IsTriangulation points from → IsFlipList points from flips to → round_count flips ≡ suc k
    → (before : List Edge) × IsSchedule points from (take k (grouped flips)) before × IsRound points to (last_images flips) before

-- ---- the flips of a schedule's rounds

-- in order, they are a flip list with the same end, and need no more rounds. Each round names an edge once
abbrev pub RoundsFlipInTurn : Type 0
RoundsFlipInTurn =
    (points : List Point) (from to : List Edge) (rounds : List (List Edge)) → ArePlaced points → IsTriangulation points from → IsSchedule points from rounds to → All (λ round. AllPairs ◌≢◌ round) rounds
    → (flips : List Flip) × (flipped_edges flips ≡ in_turn rounds) × IsFlipList points from flips to × (round_count flips ≤ length rounds)
