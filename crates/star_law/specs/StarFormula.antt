-- The star formula, which says that three legs meet, and what an assignment says of them.
use Rattle.std.specs.Prelude.{ℕ, ◌+◌, ◌*◌, Bool, cond, ltb, List, ◌++◌, length, map, filter, flat_map}
use Rattle.std.specs.List.{position_or_len, range_with_len}
use Rattle.log_law.specs.Clauses.{Clause, Formula}
use Rattle.edge_table.specs.declared.edge.Edge.{Edge}
use Rattle.edge_table.specs.Edges.{is_edge}
use Rattle.formula_law.specs.Frames.{Pair, Frame}
use Rattle.formula_law.specs.Formula.{is_pair, layer_clauses, crossing_clauses, flip_clauses, change_clauses}
use Rattle.star_law.specs.Legs.{Leg, Placed, placed, all_rounds}

-- ---- variables: those of the hub come first, then those of the other layers, leg by leg, and then those of the flips, leg by leg

-- the number of "segment e is in the hub"
abbrev pub in_hub : Frame → Edge → ℕ
in_hub F e = position_or_len (is_edge e) F.segments + 1

-- the number of "segment e is there after t rounds of the leg". After all its rounds that is the hub's
abbrev pub leg_there : Frame → Placed → ℕ → Edge → ℕ
leg_there F leg t e = cond (ltb t leg.0.rounds) ((1 + leg.1 + t) * length F.segments + position_or_len (is_edge e) F.segments + 1) (in_hub F e)

-- the number of "flip g is made in round t of the leg", where all legs have `total` rounds
abbrev pub leg_made : Frame → ℕ → Placed → ℕ → Pair → ℕ
leg_made F total leg t g = (1 + total) * length F.segments + (leg.1 + t) * length F.flips + position_or_len (is_pair g) F.flips + 1

-- ---- clauses

-- each leg begins where it is to
abbrev pub first_clauses : Frame → Placed → List Clause
first_clauses F leg = layer_clauses F (leg_there F leg) 0 leg.0.from

-- no two segments that cross are in the hub
abbrev pub hub_clauses : Frame → List Clause
hub_clauses F = crossing_clauses F (λ t e. in_hub F e) 0

-- nor there in a layer of a leg before the hub
abbrev pub early_clauses : Frame → Placed → List Clause
early_clauses F leg = flat_map (crossing_clauses F (leg_there F leg)) (range_with_len 0 leg.0.rounds)

abbrev pub leg_flip_clauses : Frame → ℕ → Placed → List Clause
leg_flip_clauses F total leg = flat_map (flip_clauses F (leg_there F leg) (leg_made F total leg)) (range_with_len 0 leg.0.rounds)

abbrev pub leg_change_clauses : Frame → ℕ → Placed → List Clause
leg_change_clauses F total leg = flat_map (change_clauses F (leg_there F leg) (leg_made F total leg)) (range_with_len 0 leg.0.rounds)

-- the clauses of "the three legs meet"
abbrev pub star_formula : Frame → Leg → Leg → Leg → List Clause
star_formula F x y z =
    flat_map (first_clauses F) (placed x y z)
    ++ hub_clauses F
    ++ flat_map (early_clauses F) (placed x y z)
    ++ flat_map (leg_flip_clauses F (all_rounds x y z)) (placed x y z)
    ++ flat_map (leg_change_clauses F (all_rounds x y z)) (placed x y z)

-- how many clauses and variables it has, by the rounds of all legs
abbrev pub star_clause_count : Frame → ℕ → ℕ
star_clause_count F total = 3 * length F.segments + (1 + total) * length F.crossings + total * (12 * length F.flips + 2 * length F.segments)

abbrev pub star_variable_count : Frame → ℕ → ℕ
star_variable_count F total = (1 + total) * length F.segments + total * length F.flips

-- the clauses with the number of their variables
abbrev pub star : Frame → Leg → Leg → Leg → Formula
star F x y z = record { variables = star_variable_count F (all_rounds x y z); clauses = star_formula F x y z }

-- ---- what an assignment says

-- the edges of the hub
abbrev pub hub_of : Frame → (ℕ → Bool) → List Edge
hub_of F truth = filter (λ e. truth (in_hub F e)) F.segments

-- the edges that flip in round t of a leg
abbrev pub leg_round : Frame → ℕ → (ℕ → Bool) → Placed → ℕ → List Edge
leg_round F total truth leg t = map (λ g. g.0) (filter (λ g. truth (leg_made F total leg t g)) F.flips)

abbrev pub leg_rounds : Frame → ℕ → (ℕ → Bool) → Placed → List (List Edge)
leg_rounds F total truth leg = map (leg_round F total truth leg) (range_with_len 0 leg.0.rounds)
