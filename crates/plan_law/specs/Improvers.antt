-- The improvers: a walk over moves that words pick, and a descent to the centre.
use Rattle.std.specs.Prelude.{ℕ, zero, suc, ◌%◌, Bool, cond, not, ◌&&◌, ◌||◌, nat_lt, Option, Some, None, List, [], ◌∷◌, ◌++◌, length, sum_by, slice_index_or, take}
use Rattle.std.specs.List.{list_any}
use Rattle.geo_orient.specs.declared.Point.{Point}
use Rattle.edge_table.specs.declared.edge.Edge.{Edge}
use Rattle.tri_theory.specs.Crossings.{crossings}
use Rattle.flip_list_law.specs.declared.Flip.{Flip}
use Rattle.flip_list_law.specs.FlipLists.{Triangle, is_same, one_side, other_side, round_count, flipped_edges}
use Rattle.bound_law.specs.Bounds.{input_at}
use Rattle.plan_law.specs.Images.{are_equal, image_of, after_flips}
use Rattle.plan_law.specs.Plans.{Plan, plan_total, moves, followed_all}

-- ---- walks

-- the move that a word picks, if there is a move
abbrev pub picked : List (List Edge) → ℕ → Option (List Edge)
picked [] word = None
picked (move ∷ more) word = Some (slice_index_or (move ∷ more) (word % length (move ∷ more)) [])

-- the edges of the first prefix of the moves with a total below `start`. `so_far` are the edges of the moves made
abbrev pub walk_from : List Point → ℕ → List Edge → Plan → List ℕ → Option (List Edge)
walk_from points start so_far plan [] = None
walk_from points start so_far plan (word ∷ words) =
    elim (picked (moves points plan) word) [
      | Some move ↦ elim (followed_all points plan move) [
        | Some next ↦ cond (nat_lt (plan_total next) start) (Some (so_far ++ move)) (walk_from points start (so_far ++ move) next words)
        | None ↦ None
      ]
      | None ↦ None
    ]

-- the answer of a walk on the plan: the edges of a better one, or none
abbrev pub walk : List Point → Plan → List ℕ → Option (List Edge)
walk points plan words = walk_from points (plan_total plan) [] plan (take 8 words)

-- ---- descents

-- no triangle of the list is at the flip's edge
abbrev pub is_free : List Triangle → Flip → Bool
is_free used flip = not (list_any (λ t. is_same t (one_side flip) || is_same t (other_side flip)) used)

-- of the edges, in order, those that flip to an edge of less weight and share no triangle with one taken earlier
abbrev pub greedy : List Point → (Edge → ℕ) → List Edge → List Triangle → List Edge → List Flip
greedy points weight edges used [] = []
greedy points weight edges used (e ∷ es) =
    elim (image_of points edges e) [
      | Some f ↦ cond (nat_lt (weight f) (weight e) && is_free used (record { edge = e; image = f }))
          (record { edge = e; image = f } ∷ greedy points weight edges (one_side (record { edge = e; image = f }) ∷ other_side (record { edge = e; image = f }) ∷ used) es)
          (greedy points weight edges used es)
      | None ↦ greedy points weight edges used es
    ]

-- the next round of a descent to the centre
abbrev pub greedy_round : List Point → List Edge → List Edge → List Flip
greedy_round points centre edges = greedy points (crossings points centre) edges [] edges

-- the rounds of a descent, at most so many, and where they lead. It ends at the centre, or where a round takes nothing
pub record Descended : Type 0 where
  pub rounds : List (List Edge)
  pub end : List Edge

abbrev pub preceded : List Edge → Descended → Descended
preceded round rest = record { rounds = round ∷ rest.rounds; end = rest.end }

abbrev pub descended : ℕ → List Point → List Edge → List Edge → Descended
descended zero points centre edges = record { rounds = []; end = edges }
descended (suc most) points centre edges =
    cond (are_equal edges centre) (record { rounds = []; end = edges })
    (elim (greedy_round points centre edges) [
      | [] ↦ record { rounds = []; end = edges }
      | flip ∷ flips ↦ preceded (flipped_edges (flip ∷ flips)) (descended most points centre (after_flips edges (flip ∷ flips)))
    ])

pub data Descent : Type 0 where
  Better : (rounds : List (List Edge)) → Descent
  NotBetter : (held : ℕ) → (given : ℕ) → Descent
  Stuck : (round : ℕ) → Descent

abbrev pub judged : ℕ → List Edge → Descended → Descent
judged held centre d =
    cond (are_equal d.end centre) (cond (nat_lt (length d.rounds) held) (Better d.rounds) (NotBetter held (length d.rounds))) (Stuck (length d.rounds))

-- the sum of the weights of the members. Each round lowers it, so a descent has no more rounds
abbrev pub weight_of : List Point → List Edge → List Edge → ℕ
weight_of points centre edges = sum_by (crossings points centre) edges

-- the answer of a descent for input i on the plan
abbrev pub descent : List Point → List (List Edge) → Plan → ℕ → Descent
descent points inputs plan i =
    judged (round_count (slice_index_or plan.lists i [])) plan.centre (descended (weight_of points plan.centre (input_at inputs i)) points plan.centre (input_at inputs i))
