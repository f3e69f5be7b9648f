-- Worked plans, walks, descents, states and jobs, for which the definitions compute.
use Rattle.std.proofs.Common.{◌≡◌, ℕ, pos, negsuc, Some, None, List, [], ◌∷◌, map, refl}
use Rattle.std.specs.Prelude.{Ok, Err}
use Rattle.std.specs.List.{range_with_len}
use Rattle.plan_law.specs.Replays.{NotEdge, Twice, NotConvex, SharedTriangle, Round, OtherEnd, replayed, swap_fault}
use Rattle.geo_orient.specs.declared.Point.{Point}
use Rattle.edge_table.specs.declared.edge.Edge.{Edge}
use Rattle.flip_list_law.specs.declared.Flip.{Flip}
use Rattle.flip_list_law.specs.FlipLists.{triangle, is_same, makes}
use Rattle.plan_law.specs.Images.{image_of}
use Rattle.plan_law.specs.Plans.{Plan, plan_total, followed_all, swapped, moves, first_lowering}
use Rattle.plan_law.specs.Improvers.{walk, Better, NotBetter, descent}
use Rattle.plan_law.specs.Books.{PairRow, Row, Pack, opening_state, state_after, bound, lower_of}
use Rattle.plan_law.specs.Jobs.{Walks, Descends, Compares, Packs, job, turn_count}

abbrev flip : ℕ → ℕ → ℕ → ℕ → Flip
flip a b c d = record { edge = (a, b); image = (c, d) }

-- ---- a square, with either diagonal
abbrev square : List Point
square = record { x = pos 0; y = pos 0 } ∷ record { x = pos 2; y = pos 0 } ∷ record { x = pos 2; y = pos 2 } ∷ record { x = pos 0; y = pos 2 } ∷ []

abbrev square_a : List Edge
square_a = (0, 1) ∷ (0, 2) ∷ (0, 3) ∷ (1, 2) ∷ (2, 3) ∷ []

abbrev square_b : List Edge
square_b = (0, 1) ∷ (0, 3) ∷ (1, 2) ∷ (1, 3) ∷ (2, 3) ∷ []

-- the opening of both: the second flips to the first
abbrev square_plan : Plan
square_plan = record { centre = square_a; weights = 1 ∷ 1 ∷ []; lists = [] ∷ (flip 1 3 0 2 ∷ []) ∷ [] }

square_image : image_of square square_a (0, 2) ≡ Some (1, 3)
square_image = refl

square_hull : image_of square square_a (0, 1) ≡ None
square_hull = refl

square_total : plan_total square_plan ≡ 1
unfolding triangle is_same makes
square_total = refl

square_moves : moves square square_plan ≡ ((0, 2) ∷ []) ∷ ((0, 2) ∷ []) ∷ []
unfolding triangle is_same makes
square_moves = refl

square_followed : followed_all square square_plan ((0, 2) ∷ []) ≡ Some (record { centre = square_b; weights = 1 ∷ 1 ∷ []; lists = (flip 0 2 1 3 ∷ []) ∷ [] ∷ [] })
unfolding triangle is_same makes
square_followed = refl

square_not_followed : followed_all square square_plan ((1, 3) ∷ []) ≡ None
unfolding triangle is_same makes
square_not_followed = refl

square_settled : first_lowering square square_plan ≡ None
unfolding triangle is_same makes
square_settled = refl

square_walk : walk square square_plan (5 ∷ 4 ∷ 3 ∷ 2 ∷ 1 ∷ 0 ∷ 7 ∷ 8 ∷ 9 ∷ []) ≡ None
unfolding triangle is_same makes
square_walk = refl

square_swap : swapped square (square_a ∷ square_b ∷ []) square_plan 1 (((0, 2) ∷ []) ∷ []) ≡ None
unfolding triangle is_same makes
square_swap = refl

-- where the second weighs 3, settling follows 0-2, and the total falls from 3 to 1
abbrev heavy_plan : Plan
heavy_plan = record { centre = square_a; weights = 1 ∷ 3 ∷ []; lists = [] ∷ (flip 1 3 0 2 ∷ []) ∷ [] }

heavy_total : plan_total heavy_plan ≡ 3
unfolding triangle is_same makes
heavy_total = refl

heavy_lowers : first_lowering square heavy_plan ≡ Some ((0, 2) ∷ [])
unfolding triangle is_same makes
heavy_lowers = refl

heavy_after : plan_total (record { centre = square_b; weights = 1 ∷ 3 ∷ []; lists = (flip 0 2 1 3 ∷ []) ∷ [] ∷ [] }) ≡ 1
unfolding triangle is_same makes
heavy_after = refl

-- with the second alone, settling follows 0-2
abbrev lone_plan : Plan
lone_plan = record { centre = square_a; weights = 1 ∷ []; lists = (flip 1 3 0 2 ∷ []) ∷ [] }

lone_lowers : first_lowering square lone_plan ≡ Some ((0, 2) ∷ [])
unfolding triangle is_same makes
lone_lowers = refl

lone_walk : walk square lone_plan (1 ∷ []) ≡ Some ((0, 2) ∷ [])
unfolding triangle is_same makes
lone_walk = refl

lone_after : followed_all square lone_plan ((0, 2) ∷ []) ≡ Some (record { centre = square_b; weights = 1 ∷ []; lists = [] ∷ [] })
unfolding triangle is_same makes
lone_after = refl

lone_descent : descent square (square_b ∷ []) lone_plan 0 ≡ NotBetter 1 1
unfolding triangle is_same makes
lone_descent = refl

-- ---- an octagon, with the fans at 0 and at 1
abbrev octagon : List Point
octagon = record { x = pos 8; y = pos 1 } ∷ record { x = pos 7; y = pos 4 } ∷ record { x = pos 4; y = pos 7 } ∷ record { x = pos 1; y = pos 8 } ∷ record { x = negsuc 0; y = pos 8 } ∷ record { x = negsuc 3; y = pos 7 } ∷ record { x = negsuc 6; y = pos 4 } ∷ record { x = negsuc 7; y = pos 1 } ∷ []

abbrev fan_0 : List Edge
fan_0 = (0, 1) ∷ (0, 2) ∷ (0, 3) ∷ (0, 4) ∷ (0, 5) ∷ (0, 6) ∷ (0, 7) ∷ (1, 2) ∷ (2, 3) ∷ (3, 4) ∷ (4, 5) ∷ (5, 6) ∷ (6, 7) ∷ []

abbrev fan_1 : List Edge
fan_1 = (0, 1) ∷ (0, 7) ∷ (1, 2) ∷ (1, 3) ∷ (1, 4) ∷ (1, 5) ∷ (1, 6) ∷ (1, 7) ∷ (2, 3) ∷ (3, 4) ∷ (4, 5) ∷ (5, 6) ∷ (6, 7) ∷ []

abbrev octagon_plan : Plan
octagon_plan = record { centre = fan_0; weights = 1 ∷ 1 ∷ []; lists = [] ∷ (flip 1 7 0 6 ∷ flip 1 6 0 5 ∷ flip 1 5 0 4 ∷ flip 1 4 0 3 ∷ flip 1 3 0 2 ∷ []) ∷ [] }

abbrev four_rounds : List (List Edge)
four_rounds = ((1, 4) ∷ (1, 6) ∷ []) ∷ ((1, 7) ∷ []) ∷ ((1, 5) ∷ (5, 7) ∷ []) ∷ ((1, 3) ∷ (3, 5) ∷ []) ∷ []

octagon_total : plan_total octagon_plan ≡ 5
unfolding triangle is_same makes
octagon_total = refl

octagon_descent : descent octagon (fan_0 ∷ fan_1 ∷ []) octagon_plan 1 ≡ Better four_rounds
unfolding triangle is_same makes
octagon_descent = refl

-- ---- replays
square_replayed : replayed square square_b 0 (((1, 3) ∷ []) ∷ []) ≡ Ok square_a
unfolding triangle is_same makes
square_replayed = refl

square_not_edge : swap_fault square square_b (((0, 2) ∷ []) ∷ []) square_a ≡ Some (Round (NotEdge 0 (0, 2)))
unfolding triangle is_same makes
square_not_edge = refl

square_other_end : swap_fault square square_b [] square_a ≡ Some (OtherEnd (1, 3))
unfolding triangle is_same makes
square_other_end = refl

square_twice : replayed square square_a 0 (((0, 2) ∷ (0, 2) ∷ []) ∷ []) ≡ Err (Twice 0 (0, 2))
unfolding triangle is_same makes
square_twice = refl

square_not_convex : replayed square square_a 0 (((0, 1) ∷ []) ∷ []) ≡ Err (NotConvex 0 (0, 1))
unfolding triangle is_same makes
square_not_convex = refl

-- a pentagon, with the fan at 0
abbrev pentagon : List Point
pentagon = record { x = pos 0; y = pos 0 } ∷ record { x = pos 4; y = pos 0 } ∷ record { x = pos 5; y = pos 3 } ∷ record { x = pos 2; y = pos 5 } ∷ record { x = negsuc 0; y = pos 3 } ∷ []

pentagon_shared : replayed pentagon ((0, 1) ∷ (0, 2) ∷ (0, 3) ∷ (0, 4) ∷ (1, 2) ∷ (2, 3) ∷ (3, 4) ∷ []) 0 (((0, 2) ∷ (0, 3) ∷ []) ∷ []) ≡ Err (SharedTriangle 0 (0, 3) (0, 2))
unfolding triangle is_same makes
pentagon_shared = refl

octagon_replayed : replayed octagon fan_1 0 four_rounds ≡ Ok fan_0
unfolding triangle is_same makes
octagon_replayed = refl

octagon_swap : swapped octagon (fan_0 ∷ fan_1 ∷ []) octagon_plan 1 four_rounds
    ≡ Some (record { centre = fan_0; weights = 1 ∷ 1 ∷ []; lists = [] ∷ (flip 1 4 3 5 ∷ flip 1 6 5 7 ∷ flip 1 7 0 5 ∷ flip 1 5 0 3 ∷ flip 5 7 0 6 ∷ flip 1 3 0 2 ∷ flip 3 5 0 4 ∷ []) ∷ [] })
unfolding triangle is_same makes
octagon_swap = refl

-- ---- jobs
jobs_two : map (λ u. job 1 2 u) (range_with_len 0 (turn_count 1 2)) ≡ Walks 0 ∷ Compares 0 1 ∷ []
jobs_two = refl

jobs_one : map (λ u. job 2 1 u) (range_with_len 0 (turn_count 2 1)) ≡ Walks 0 ∷ Descends 1 0 ∷ []
jobs_one = refl

jobs_three : map (λ u. job 2 3 u) (range_with_len 0 (turn_count 2 3)) ≡ Walks 0 ∷ Compares 0 1 ∷ Descends 1 0 ∷ Compares 0 2 ∷ Compares 1 2 ∷ Packs ∷ []
jobs_three = refl

-- ---- states
abbrev row_0_1 : PairRow (Unit {0})
row_0_1 = record { low = 0; high = 1; lower = 1; evidence = tt }

square_bound : bound (state_after square (square_a ∷ square_b ∷ []) (opening_state square_plan) (Row 1 row_0_1 ∷ Pack 2 (1 ∷ 0 ∷ []) ∷ [])) ≡ 1
square_bound = refl

lower_either : lower_of (row_0_1 ∷ []) 1 0 ≡ 1
lower_either = refl

lower_same : lower_of (row_0_1 ∷ []) 1 1 ≡ 0
lower_same = refl
