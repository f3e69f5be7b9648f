-- The star formula as the formulas of its legs, each with its variables numbered anew.
use Rattle.std.proofs.Common.{ℕ, ◌+◌, ◌-◌, ◌*◌, Bool, cond, ltb, List, ◌++◌, length, map}
use Rattle.std.specs.List.{flat_map, range_with_len}
use Rattle.log_law.specs.Clauses.{Clause}
use Rattle.edge_table.specs.declared.edge.Edge.{Edge}
use Rattle.formula_law.specs.Frames.{Frame}
use Rattle.formula_law.specs.Formula.{literal, there, made, layer_clauses, crossing_clauses, flip_clauses, change_clauses, layer_of, rounds_of}
use Rattle.star_law.specs.Legs.{Leg, Placed, placed, all_rounds}

-- where variable v of the formula of a leg's rounds goes: its last layer is the hub
abbrev pub in_star : Frame → ℕ → Placed → ℕ → ℕ
in_star F total leg v =
    cond (ltb v (leg.0.rounds * length F.segments + 1))
    ((1 + leg.1) * length F.segments + v)
    (cond (ltb v ((leg.0.rounds + 1) * length F.segments + 1))
    (v - leg.0.rounds * length F.segments)
    ((1 + total) * length F.segments + leg.1 * length F.flips + (v - (leg.0.rounds + 1) * length F.segments)))

-- clauses with their variables numbered anew
abbrev pub renamed : (ℕ → ℕ) → List Clause → List Clause
renamed number clauses = map (λ c. map (λ l. literal (number l.var) l.on) c) clauses

abbrev pub renamed_first : Frame → ℕ → Placed → List Clause
renamed_first F total leg = renamed (in_star F total leg) (layer_clauses F (there F) 0 leg.0.from)

abbrev pub renamed_early : Frame → ℕ → Placed → List Clause
renamed_early F total leg = renamed (in_star F total leg) (flat_map (crossing_clauses F (there F)) (range_with_len 0 leg.0.rounds))

abbrev pub renamed_flips : Frame → ℕ → Placed → List Clause
renamed_flips F total leg = renamed (in_star F total leg) (flat_map (flip_clauses F (there F) (made F leg.0.rounds)) (range_with_len 0 leg.0.rounds))

abbrev pub renamed_changes : Frame → ℕ → Placed → List Clause
renamed_changes F total leg = renamed (in_star F total leg) (flat_map (change_clauses F (there F) (made F leg.0.rounds)) (range_with_len 0 leg.0.rounds))

-- the hub's variables are those of layer 0 of a formula
abbrev pub renamed_star : Frame → Leg → Leg → Leg → List Clause
renamed_star F x y z =
    flat_map (renamed_first F (all_rounds x y z)) (placed x y z)
    ++ crossing_clauses F (there F) 0
    ++ flat_map (renamed_early F (all_rounds x y z)) (placed x y z)
    ++ flat_map (renamed_flips F (all_rounds x y z)) (placed x y z)
    ++ flat_map (renamed_changes F (all_rounds x y z)) (placed x y z)

-- what an assignment says
abbrev pub renamed_hub : Frame → (ℕ → Bool) → List Edge
renamed_hub F truth = layer_of F truth 0

abbrev pub renamed_rounds : Frame → ℕ → (ℕ → Bool) → Placed → List (List Edge)
renamed_rounds F total truth leg = rounds_of F (λ v. truth (in_star F total leg v)) leg.0.rounds
