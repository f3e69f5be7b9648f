-- Plans: a centre, and for each input its weight and a list of flips that leads to the centre. Following edges, the moves of a plan, and settling.
use Rattle.std.specs.Prelude.{◌≡◌, ℕ, ◌<◌, ◌≤◌, Bool, false, nat_lt, Option, Some, None, List, [], ◌∷◌, ◌++◌, map, length, find, set, All, Contains}
use Rattle.std.specs.List.{AllZip}
use Rattle.geo_orient.specs.declared.Point.{Point}
use Rattle.tri_theory.specs.Points.{ArePlaced}
use Rattle.edge_table.specs.declared.edge.Edge.{Edge}
use Rattle.tri_theory.specs.Triangulations.{IsTriangulation}
use Rattle.tri_theory.specs.Rounds.{AreWeights, weighted_sum}
use Rattle.flip_list_law.specs.declared.Flip.{Flip}
use Rattle.flip_list_law.specs.FlipLists.{IsFlipList, round_count, grouped, last_images, in_turn, follow}
use Rattle.bound_law.specs.Bounds.{input_at}
use Rattle.plan_law.specs.Images.{image_of, flippable, after_flip, flips_in_turn}

-- points, and some triangulations of them as inputs
pub record IsInstance (points : List Point) (inputs : List (List Edge)) : Type 0 where
  pub placed : ArePlaced points
  pub triangulated : All (λ edges. IsTriangulation points edges) inputs
  pub some_input : 0 < length inputs

pub record Plan : Type 0 where
  pub centre : List Edge
  pub weights : List ℕ
  pub lists : List (List Flip)

-- each input has a weight, and each list is a flip list from its input to the centre
pub record IsPlanOf (points : List Point) (inputs : List (List Edge)) (plan : Plan) : Type 0 where
  pub weighed : AreWeights inputs plan.weights
  pub lead : AllZip (λ input flips. IsFlipList points input flips plan.centre) inputs plan.lists

-- the schedules of a plan: its lists, grouped into rounds
abbrev pub schedules : Plan → List (List (List Edge))
schedules plan = map grouped plan.lists

-- the rounds of each list, and of all, each as often as the weight of its input says
abbrev pub costs : Plan → List ℕ
costs plan = map round_count plan.lists

abbrev pub plan_total : Plan → ℕ
plan_total plan = weighted_sum plan.weights (costs plan)

-- ---- following

-- a flip is followed in every list
abbrev pub with_flip : Plan → Flip → Plan
with_flip plan flip = record { centre = after_flip plan.centre flip; weights = plan.weights; lists = map (λ flips. follow flips flip) plan.lists }

-- an edge is followed, if it flips in the centre
abbrev pub followed : List Point → Plan → Edge → Option Plan
followed points plan e = elim (image_of points plan.centre e) [ Some f ↦ Some (with_flip plan (record { edge = e; image = f })) | None ↦ None ]

-- edges are followed one after the other, if each flips when its turn comes
abbrev pub followed_all : List Point → Plan → List Edge → Option Plan
followed_all points plan [] = Some plan
followed_all points plan (e ∷ es) = elim (followed points plan e) [ Some next ↦ followed_all points next es | None ↦ None ]

-- ---- another list for one input

-- the flips of the rounds, in order, stand in place of one list
abbrev pub with_list : Plan → ℕ → List Flip → Plan
with_list plan i flips = record { centre = plan.centre; weights = plan.weights; lists = set plan.lists i flips }

abbrev pub swapped : List Point → List (List Edge) → Plan → ℕ → List (List Edge) → Option Plan
swapped points inputs plan i rounds = elim (flips_in_turn points (input_at inputs i) (in_turn rounds)) [ Some flips ↦ Some (with_list plan i flips) | None ↦ None ]

-- ---- moves

-- the images of the last round of each list that has a round
abbrev pub last_moves : List (List Flip) → List (List Edge)
last_moves [] = []
last_moves ([] ∷ lists) = last_moves lists
last_moves ((flip ∷ flips) ∷ lists) = last_images (flip ∷ flips) ∷ last_moves lists

-- the moves of a plan: each edge of the centre that flips, then the last rounds
abbrev pub moves : List Point → Plan → List (List Edge)
moves points plan = map (λ e. e ∷ []) (flippable points plan.centre) ++ last_moves plan.lists

-- ---- settling

-- the edges can be followed, and the total is lower then
abbrev pub lowers : List Point → Plan → List Edge → Bool
lowers points plan es = elim (followed_all points plan es) [ Some next ↦ nat_lt (plan_total next) (plan_total plan) | None ↦ false ]

-- no move has a lower total
abbrev pub IsSettled : List Point → Plan → Type 0
IsSettled points plan = (move : List Edge) (next : Plan) → Contains (moves points plan) move → followed_all points plan move ≡ Some next → plan_total plan ≤ plan_total next

abbrev pub first_lowering : List Point → Plan → Option (List Edge)
first_lowering points plan = find (lowers points plan) (moves points plan)

-- the first lowering move again and again, until none is left
abbrev pub Settles : List Point → Plan → List (List Edge) → Plan → Type 0
Settles points plan [] end = (plan ≡ end) × IsSettled points plan
Settles points plan (move ∷ made) end = (next : Plan) × (first_lowering points plan ≡ Some move) × (followed_all points plan move ≡ Some next) × Settles points next made end
