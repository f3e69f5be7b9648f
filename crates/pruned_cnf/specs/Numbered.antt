-- The numbers of all places and all flips of a query, and how many variables come before a layer or a round.
use Rattle.std.specs.Prelude.{◌≡◌, ℕ, ◌+◌, Option, List, length, map}
use Rattle.std.specs.List.{filter, flat_map, sum_by, range_with_len}
use Rattle.formula_law.specs.PrunedFormula.{live_places}
use Rattle.pruned_cnf.specs.Queries.{Query, live_in, is_live_flip_in, place_number, flip_number, variables_in}

-- of the segments after t rounds
abbrev pub layer_numbers : Query → ℕ → List (Option ℕ)
layer_numbers q t = map (place_number q t) q.frame.segments

-- of the flips in round t
abbrev pub round_numbers : Query → ℕ → List (Option ℕ)
round_numbers q t = map (flip_number q t) q.frame.flips

-- of those of the layers or rounds before t
abbrev pub layers_numbers : Query → ℕ → List (Option ℕ)
layers_numbers q t = flat_map (layer_numbers q) (range_with_len 0 t)

abbrev pub rounds_numbers : Query → ℕ → List (Option ℕ)
rounds_numbers q t = flat_map (round_numbers q) (range_with_len 0 t)

-- the places that are live
abbrev pub count_of_places : Query → ℕ
count_of_places q = length (live_places q.frame (live_in q) q.rounds)

-- those of them in the layers before t
abbrev pub places_before : Query → ℕ → ℕ
places_before q t = sum_by (λ u. length (filter (live_in q u) q.frame.segments)) (range_with_len 0 t)

-- and, after all places, the flips that are live in the rounds before t
abbrev pub flips_before : Query → ℕ → ℕ
flips_before q t = count_of_places q + sum_by (λ u. length (filter (is_live_flip_in q u) q.frame.flips)) (range_with_len 0 t)

-- these lists hold the numbers of all places and all flips, and this is the number of variables
pub record AreNumbered (q : Query) (places flips : List (Option ℕ)) (variables : ℕ) : Type 0 where
  pub layers : places ≡ layers_numbers q (q.rounds + 1)
  pub rounds : flips ≡ rounds_numbers q q.rounds
  pub count : variables ≡ variables_in q
