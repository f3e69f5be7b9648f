-- What the steps of following edges and of settling do to a plan.
use Rattle.std.specs.Prelude.{◌≡◌, ℕ, ◌≤◌, Bool, true, false, Some, None, List, [], ◌∷◌, ◌++◌}
use Rattle.geo_orient.specs.declared.Point.{Point}
use Rattle.edge_table.specs.declared.edge.Edge.{Edge}
use Rattle.flip_list_law.specs.FlipLists.{in_turn}
use Rattle.plan_law.specs.Plans.{Plan, plan_total, followed_all, moves, first_lowering, Settles}
use Rattle.plan_law.specs.Improvers.{picked}

-- the edges can be followed one after the other, and lead to `next`; or they can't
abbrev pub Follows : List Point → Plan → List Edge → Bool → Plan → Type 0
Follows points plan edges true next = followed_all points plan edges ≡ Some next
Follows points plan edges false next = followed_all points plan edges ≡ None

-- the first move that lowers the total leads to `next`
pub record IsFirstStep (points : List Point) (plan : Plan) (move : List Edge) (next : Plan) : Type 0 where
  pub first : first_lowering points plan ≡ Some move
  pub leads : followed_all points plan move ≡ Some next

-- that move is made and added to the list; or there is none, and nothing changes
abbrev pub StepsOn : List Point → Plan → List (List Edge) → Bool → Plan → List (List Edge) → Type 0
StepsOn points plan made true next list = (move : List Edge) × IsFirstStep points plan move next × (list ≡ made ++ move ∷ [])
StepsOn points plan made false next list = (first_lowering points plan ≡ None) × (next ≡ plan) × (list ≡ made)

-- these moves were made so far: whatever settles the plan from now on, settles it from the start with them first
pub record IsBegun (points : List Point) (plan : Plan) (made : List (List Edge)) (now : Plan) : Type 0 where
  pub settles : (rest : List (List Edge)) (end : Plan) → Settles points now rest end → Settles points plan (made ++ rest) end
  pub stands : followed_all points plan (in_turn made) ≡ Some now
  pub lower : plan_total now ≤ plan_total plan

-- the move that a word picks is made, and its edges are added to those made; or there is no move, and nothing changes
abbrev pub Walks : List Point → Plan → List Edge → ℕ → Bool → Plan → List Edge → Type 0
Walks points plan made word true next edges = (move : List Edge) × (picked (moves points plan) word ≡ Some move) × (followed_all points plan move ≡ Some next) × (edges ≡ made ++ move)
Walks points plan made word false next edges = (moves points plan ≡ []) × (next ≡ plan) × (edges ≡ made)
