-- How many clauses the star formula has.
use Rattle.std.proofs.Common.{◌≡◌, ℕ, ◌+◌, ◌*◌, true, false, List, [], ◌∷◌, ◌++◌, length, map, Contains, refl, ap, ap₂, ◌∙◌, arith, length-append}
use Rattle.std.specs.List.{filter, flat_map, range_with_len}
use Rattle.std.proofs.lemmas.List.{length-map}
use Rattle.std.proofs.lemmas.List.FromFn.{length-range_with_len}
use Rattle.geo_orient.specs.declared.Point.{Point}
use Rattle.tri_theory.specs.Points.{ArePlaced}
use Rattle.formula_law.specs.Frames.{Pair, Frame, IsFrame}
use Rattle.log_law.specs.declared.Lit.{Lit}
use Rattle.log_law.specs.Clauses.{Clause}
use Rattle.formula_law.specs.Formula.{literal, there, made, sides, demands, layer_clauses, crossing_clauses, flip_clauses, change_clauses}
use Rattle.edge_table.specs.Edges.{is_edge, is_member}
use Rattle.star_law.specs.Legs.{Leg, Placed, all_rounds, placed}
use Rattle.star_law.proofs.Renamed.{in_star, renamed, renamed_changes, renamed_early, renamed_first, renamed_flips, renamed_star}
use Rattle.star_law.specs.StarFormula.{star_clause_count}
use Rattle.formula_law.proofs.FormulaCounts.{length_each, four_sides}
use Rattle.star_law.proofs.StarModels.{firsts, hub, earlies, flips, changes}

length_renamed : (number : ℕ → ℕ) (cs : List Clause) → length (renamed number cs) ≡ length cs
length_renamed number cs = length-map cs (λ c. map (λ l. literal (number l.var) l.on) c)

module _ (points : List Point) (P : ArePlaced points) (F : Frame) (I : IsFrame points F) where
  abbrev s : ℕ
  s = length F.segments

  abbrev d : ℕ
  d = length F.crossings

  abbrev w : ℕ
  w = length F.flips

  rows : (f : ℕ → List Clause) (n m : ℕ) → ((t : ℕ) → length (f t) ≡ n) → length (flat_map f (range_with_len 0 m)) ≡ m * n
  rows f n m h = length_each f n (range_with_len 0 m) (λ t i. h t) ∙ ap (λ l. l * n) (length-range_with_len 0 m)

  twelve : (k t : ℕ) (g : Pair) → Contains F.flips g → length (map (λ l. let clause : Clause = literal (made F k t g) false ∷ l ∷ [] in clause) (demands F (there F) t g)) ≡ 12
  twelve k t g h =
      let e = length_each (λ s. let pair : List Lit = literal (there F t s) true ∷ literal (there F (t + 1) s) true ∷ [] in pair) 2 (sides F g) (λ s i. refl) in
      let f = length-map (demands F (there F) t g) (λ l. let clause : Clause = literal (made F k t g) false ∷ l ∷ [] in clause) in
      omega (arith, e, f, four_sides points P F I g h)

  module _ (total : ℕ) (leg : Placed) where
    abbrev k : ℕ
    k = leg.0.rounds

    abbrev number : ℕ → ℕ
    number v = in_star F total leg v

    first_count : length (renamed_first F total leg) ≡ s
    first_count = length_renamed number (layer_clauses F (there F) 0 leg.0.from) ∙ length-map F.segments (λ e. let clause : Clause = literal (there F 0 e) (is_member leg.0.from e) ∷ [] in clause)

    early_count : length (renamed_early F total leg) ≡ k * d
    early_count = length_renamed number (flat_map (crossing_clauses F (there F)) (range_with_len 0 k)) ∙ rows (crossing_clauses F (there F)) d k (λ t. length-map F.crossings (λ g. let clause : Clause = literal (there F t g.0) false ∷ literal (there F t g.1) false ∷ [] in clause))

    flip_count : length (renamed_flips F total leg) ≡ k * (w * 12)
    flip_count = length_renamed number (flat_map (flip_clauses F (there F) (made F k)) (range_with_len 0 k)) ∙ rows (flip_clauses F (there F) (made F k)) (w * 12) k (λ t. length_each (λ g. map (λ l. literal (made F k t g) false ∷ l ∷ []) (demands F (there F) t g)) 12 F.flips (twelve k t))

    change_count : length (renamed_changes F total leg) ≡ k * (s * 2)
    change_count = length_renamed number (flat_map (change_clauses F (there F) (made F k)) (range_with_len 0 k)) ∙ rows (change_clauses F (there F) (made F k)) (s * 2) k (λ t. length_each (λ e.
        let two : List Clause =
        (literal (there F t e) false ∷ literal (there F (t + 1) e) true ∷ map (λ g. let l : Lit = literal (made F k t g) true in l) (filter (λ g. is_edge e g.0) F.flips))
        ∷ (literal (there F t e) true ∷ literal (there F (t + 1) e) false ∷ map (λ g. let l : Lit = literal (made F k t g) true in l) (filter (λ g. is_edge e g.1) F.flips))
        ∷ [] in two) 2 F.segments (λ e i. refl))

  module _ (x y z : Leg) where
    abbrev all : ℕ
    all = all_rounds x y z

    three : (g : Placed → List Clause) (n : ℕ) → ((leg : Placed) → length (g leg) ≡ leg.0.rounds * n) → length (flat_map g (placed x y z)) ≡ (x.rounds + y.rounds + z.rounds) * n
    three g n h =
        let third : Placed = (z, x.rounds + y.rounds) in
        let second : Placed = (y, x.rounds) in
        let first : Placed = (x, 0) in
        let a = length-append (g first) (g second ++ (g third ++ [])) in
        let b = length-append (g second) (g third ++ []) in
        let c = length-append (g third) [] in
        omega (arith, a, b, c, h first, h second, h third)

    pub star_length : length (renamed_star F x y z) ≡ star_clause_count F all
    star_length =
        length-append (firsts F x y z ++ hub F x y z ++ earlies F x y z ++ flips F x y z) (changes F x y z)
        ∙ ap₂ ◌+◌ (length-append (firsts F x y z ++ hub F x y z ++ earlies F x y z) (flips F x y z)
        ∙ ap₂ ◌+◌ (length-append (firsts F x y z ++ hub F x y z) (earlies F x y z)
        ∙ ap₂ ◌+◌ (length-append (firsts F x y z) (hub F x y z)
        ∙ ap₂ ◌+◌ (length_each (renamed_first F all) s (placed x y z) (λ leg h. first_count all leg)) (length-map F.crossings (λ g. let clause : Clause = literal (there F 0 g.0) false ∷ literal (there F 0 g.1) false ∷ [] in clause)))
        (three (renamed_early F all) d (early_count all)))
        (three (renamed_flips F all) (w * 12) (flip_count all)))
        (three (renamed_changes F all) (s * 2) (change_count all))
        ∙ added s d w (x.rounds + y.rounds + z.rounds)
      where
        added : (s c w k : ℕ) → 3 * s + c + k * c + k * (w * 12) + k * (s * 2) ≡ 3 * s + (1 + k) * c + k * (12 * w + 2 * s)
        added s c w k = omega arith
