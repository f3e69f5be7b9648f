-- The star formula is the list of clauses written out with its own numbers.
use Rattle.std.proofs.Common.{◌≡◌, ◌⊎◌, inl, inr, ℕ, ◌+◌, ◌*◌, ◌<◌, ◌≤◌, Bool, true, false, List, [], ◌∷◌, ◌++◌, length, map, filter, Contains, refl, sym, ap, ap₂, ◌∙◌, subst, arith}
use Rattle.std.specs.List.{flat_map, position_or_len, range_with_len}
use Rattle.std.proofs.lemmas.Bool.{lt-ltb, le-ltb}
use Rattle.geo_orient.specs.declared.Point.{Point}
use Rattle.edge_table.specs.declared.edge.Edge.{Edge}
use Rattle.edge_table.specs.Edges.{edge, is_edge, is_member}
use Rattle.formula_law.specs.Frames.{Pair, Frame, IsFrame, MayFlip}
use Rattle.log_law.specs.declared.Lit.{Lit}
use Rattle.log_law.specs.Clauses.{Clause}
use Rattle.formula_law.specs.Formula.{literal, is_side, there, made, sides, crossing_clauses, demands, flip_clauses, leave_clause, come_clause, change_clauses, round_of}
use Rattle.star_law.specs.Legs.{Leg, Placed, all_rounds, placed}
use Rattle.star_law.specs.StarFormula.{early_clauses, first_clauses, hub_clauses, hub_of, in_hub, leg_change_clauses, leg_flip_clauses, leg_made, leg_round, leg_rounds, leg_there, star_formula}
use Rattle.star_law.proofs.Renamed.{in_star, renamed, renamed_changes, renamed_early, renamed_first, renamed_flips, renamed_hub, renamed_rounds, renamed_star}
use Rattle.formula_law.proofs.Clauses.{in_first, in_later, in_filter, in_range}
use Rattle.star_law.proofs.StarNumbers.{layer_number, hub_number, flip_number}
use Rattle.star_law.proofs.StarModels.{filter_same}

-- ---- lists that are equal element by element
module _ {X Y : Type 0} where
  map_same : (f g : X → Y) (xs : List X) → ((x : X) → Contains xs x → f x ≡ g x) → map f xs ≡ map g xs
  map_same f g [] h = refl
  map_same f g (x ∷ xs) h = ap₂ (λ y ys. y ∷ ys) (h x (in_first x xs)) (map_same f g xs (λ y i. h y (in_later y x xs i)))

  flat_same : (f g : X → List Y) (xs : List X) → ((x : X) → Contains xs x → f x ≡ g x) → flat_map f xs ≡ flat_map g xs
  flat_same f g [] h = refl
  flat_same f g (x ∷ xs) h = ap₂ (λ y ys. y ++ ys) (h x (in_first x xs)) (flat_same f g xs (λ y i. h y (in_later y x xs i)))

  map_append : (f : X → Y) (xs ys : List X) → map f (xs ++ ys) ≡ map f xs ++ map f ys
  map_append f [] ys = refl
  map_append f (x ∷ xs) ys = ap (λ zs. f x ∷ zs) (map_append f xs ys)

module _ {X Y Z : Type 0} where
  map_map : (f : Y → Z) (g : X → Y) (xs : List X) → map f (map g xs) ≡ map (λ x. f (g x)) xs
  map_map f g [] = refl
  map_map f g (x ∷ xs) = ap (λ zs. f (g x) ∷ zs) (map_map f g xs)

  map_flat : (f : Y → Z) (g : X → List Y) (xs : List X) → map f (flat_map g xs) ≡ flat_map (λ x. map f (g x)) xs
  map_flat f g [] = refl
  map_flat f g (x ∷ xs) = map_append f (g x) (flat_map g xs) ∙ ap (λ zs. map f (g x) ++ zs) (map_flat f g xs)

module _ (points : List Point) (F : Frame) (I : IsFrame points F) (total : ℕ) (leg : Placed) where
  abbrev k : ℕ
  k = leg.0.rounds

  abbrev number : ℕ → ℕ
  number v = in_star F total leg v

  abbrev new_literal : Lit → Lit
  new_literal l = literal (number l.var) l.on

  abbrev new_clause : Clause → Clause
  new_clause c = map new_literal c

  there_same : (t : ℕ) (e : Edge) → t ≤ k → Contains F.segments e → number (there F t e) ≡ leg_there F leg t e
  there_same t e l h = by_test (below t k l)
    where
      below : (t k : ℕ) → t ≤ k → (t < k) ⊎ (t ≡ k)
      below t k l = grind arith

      by_test : (t < k) ⊎ (t ≡ k) → number (there F t e) ≡ leg_there F leg t e
      by_test (inl lt) = rw (lt-ltb t k lt) (layer_number F total leg t e h lt)
      by_test (inr same) = rw (le-ltb t k (omega arith)) (ap (λ t. number (there F t e)) same ∙ hub_number F total leg e h)

  made_same : (t : ℕ) (g : Pair) → number (made F k t g) ≡ leg_made F total leg t g
  made_same t g = flip_number F total leg t g

  says : (b : Bool) (t : ℕ) (e : Edge) → t ≤ k → Contains F.segments e → literal (number (there F t e)) b ≡ literal (leg_there F leg t e) b
  says b t e l h = ap (λ v. literal v b) (there_same t e l h)

  flip_says : (b : Bool) (t : ℕ) (g : Pair) → literal (number (made F k t g)) b ≡ literal (leg_made F total leg t g) b
  flip_says b t g = ap (λ v. literal v b) (made_same t g)

  flip_ends : (g : Pair) → Contains F.flips g → Contains F.segments g.0 × Contains F.segments g.1
  flip_ends g h = by_quad ((I.flips g.0 g.1).0 h)
    where
      by_quad : MayFlip points g.0 g.1 → Contains F.segments g.0 × Contains F.segments g.1
      by_quad (a, b, c, d, he, hf, r) = (subst (Contains F.segments) (sym he) ((I.segments (edge a c)).1 r.from), subst (Contains F.segments) (sym hf) ((I.segments (edge b d)).1 r.to))

  abbrev two : Lit → Lit → Clause
  two l m = l ∷ m ∷ []

  first_same : renamed_first F total leg ≡ first_clauses F leg
  first_same =
      map_map new_clause (λ e. literal (there F 0 e) (is_member leg.0.from e) ∷ []) F.segments
      ∙ map_same (λ e. literal (number (there F 0 e)) (is_member leg.0.from e) ∷ []) (λ e. literal (leg_there F leg 0 e) (is_member leg.0.from e) ∷ []) F.segments (λ e h. ap (λ l. l ∷ []) (says (is_member leg.0.from e) 0 e (omega arith) h))

  crossings_at : (t : ℕ) → t ≤ k → map new_clause (crossing_clauses F (there F) t) ≡ crossing_clauses F (leg_there F leg) t
  crossings_at t l =
      map_map new_clause (λ g. literal (there F t g.0) false ∷ literal (there F t g.1) false ∷ []) F.crossings
      ∙ map_same (λ g. literal (number (there F t g.0)) false ∷ literal (number (there F t g.1)) false ∷ []) (λ g. literal (leg_there F leg t g.0) false ∷ literal (leg_there F leg t g.1) false ∷ []) F.crossings
      (λ g h. let r = (I.crossings g.0 g.1).0 h in ap₂ two (says false t g.0 l ((I.segments g.0).1 r.0)) (says false t g.1 l ((I.segments g.1).1 r.1)))

  abbrev of_side : ℕ → Edge → List Lit
  of_side t s = literal (there F t s) true ∷ literal (there F (t + 1) s) true ∷ []

  sides_at : (t : ℕ) (g : Pair) → t < k → map new_literal (flat_map (of_side t) (sides F g)) ≡ flat_map (λ s. literal (leg_there F leg t s) true ∷ literal (leg_there F leg (t + 1) s) true ∷ []) (sides F g)
  sides_at t g l =
      map_flat new_literal (of_side t) (sides F g)
      ∙ flat_same (λ s. literal (number (there F t s)) true ∷ literal (number (there F (t + 1) s)) true ∷ []) (λ s. literal (leg_there F leg t s) true ∷ literal (leg_there F leg (t + 1) s) true ∷ []) (sides F g)
      (λ s h. let i = (in_filter (is_side g) F.segments s h).0 in ap₂ two (says true t s (omega arith) i) (says true (t + 1) s (omega arith) i))

  demands_at : (t : ℕ) (g : Pair) → t < k → Contains F.flips g → map new_literal (demands F (there F) t g) ≡ demands F (leg_there F leg) t g
  demands_at t g l h =
      let r = flip_ends g h in
      ap₂ (λ l ls. l ∷ ls) (says true t g.0 (omega arith) r.0)
      (ap₂ (λ l ls. l ∷ ls) (says false (t + 1) g.0 (omega arith) r.0)
      (ap₂ (λ l ls. l ∷ ls) (says false t g.1 (omega arith) r.1)
      (ap₂ (λ l ls. l ∷ ls) (says true (t + 1) g.1 (omega arith) r.1) (sides_at t g l))))

  flip_at : (t : ℕ) (g : Pair) → t < k → Contains F.flips g → map new_clause (map (λ l. literal (made F k t g) false ∷ l ∷ []) (demands F (there F) t g)) ≡ map (λ l. literal (leg_made F total leg t g) false ∷ l ∷ []) (demands F (leg_there F leg) t g)
  flip_at t g l h =
      map_map new_clause (λ l. literal (made F k t g) false ∷ l ∷ []) (demands F (there F) t g)
      ∙ map_same (λ l. literal (number (made F k t g)) false ∷ new_literal l ∷ []) (λ l. literal (leg_made F total leg t g) false ∷ new_literal l ∷ []) (demands F (there F) t g) (λ m i. ap (λ x. two x (new_literal m)) (flip_says false t g))
      ∙ sym (map_map (λ l. literal (leg_made F total leg t g) false ∷ l ∷ []) new_literal (demands F (there F) t g))
      ∙ ap (λ ls. map (λ l. literal (leg_made F total leg t g) false ∷ l ∷ []) ls) (demands_at t g l h)

  flips_at : (t : ℕ) → t < k → map new_clause (flip_clauses F (there F) (made F k) t) ≡ flip_clauses F (leg_there F leg) (leg_made F total leg) t
  flips_at t l =
      map_flat new_clause (λ g. map (λ l. literal (made F k t g) false ∷ l ∷ []) (demands F (there F) t g)) F.flips
      ∙ flat_same (λ g. map new_clause (map (λ l. literal (made F k t g) false ∷ l ∷ []) (demands F (there F) t g))) (λ g. map (λ l. literal (leg_made F total leg t g) false ∷ l ∷ []) (demands F (leg_there F leg) t g)) F.flips (λ g h. flip_at t g l h)

  makes_at : (t : ℕ) (gs : List Pair) → map new_literal (map (λ g. literal (made F k t g) true) gs) ≡ map (λ g. literal (leg_made F total leg t g) true) gs
  makes_at t gs = map_map new_literal (λ g. literal (made F k t g) true) gs ∙ map_same (λ g. literal (number (made F k t g)) true) (λ g. literal (leg_made F total leg t g) true) gs (λ g h. flip_says true t g)

  leave_at : (t : ℕ) (e : Edge) → t < k → Contains F.segments e → new_clause (leave_clause F (there F) (made F k) t e) ≡ leave_clause F (leg_there F leg) (leg_made F total leg) t e
  leave_at t e l h =
      ap₂ (λ l ls. l ∷ ls) (says false t e (omega arith) h)
      (ap₂ (λ l ls. l ∷ ls) (says true (t + 1) e (omega arith) h) (makes_at t (filter (λ g. is_edge e g.0) F.flips)))

  come_at : (t : ℕ) (e : Edge) → t < k → Contains F.segments e → new_clause (come_clause F (there F) (made F k) t e) ≡ come_clause F (leg_there F leg) (leg_made F total leg) t e
  come_at t e l h =
      ap₂ (λ l ls. l ∷ ls) (says true t e (omega arith) h)
      (ap₂ (λ l ls. l ∷ ls) (says false (t + 1) e (omega arith) h) (makes_at t (filter (λ g. is_edge e g.1) F.flips)))

  changes_at : (t : ℕ) → t < k → map new_clause (change_clauses F (there F) (made F k) t) ≡ change_clauses F (leg_there F leg) (leg_made F total leg) t
  changes_at t l =
      map_flat new_clause (λ e. leave_clause F (there F) (made F k) t e ∷ come_clause F (there F) (made F k) t e ∷ []) F.segments
      ∙ flat_same (λ e. new_clause (leave_clause F (there F) (made F k) t e) ∷ new_clause (come_clause F (there F) (made F k) t e) ∷ []) (λ e. leave_clause F (leg_there F leg) (leg_made F total leg) t e ∷ come_clause F (leg_there F leg) (leg_made F total leg) t e ∷ []) F.segments
      (λ e h. ap₂ (λ c d. c ∷ d ∷ []) (leave_at t e l h) (come_at t e l h))

  rounds_same : (f : ℕ → List Clause) (g : ℕ → List Clause) → ((t : ℕ) → t < k → map new_clause (f t) ≡ g t) → renamed number (flat_map f (range_with_len 0 k)) ≡ flat_map g (range_with_len 0 k)
  rounds_same f g h = map_flat new_clause f (range_with_len 0 k) ∙ flat_same (λ t. map new_clause (f t)) g (range_with_len 0 k) (λ t i. let r = in_range 0 k t i in h t (omega arith))

  early_same : renamed_early F total leg ≡ early_clauses F leg
  early_same = rounds_same (crossing_clauses F (there F)) (crossing_clauses F (leg_there F leg)) (λ t l. crossings_at t (omega arith))

  flips_same : renamed_flips F total leg ≡ leg_flip_clauses F total leg
  flips_same = rounds_same (flip_clauses F (there F) (made F k)) (flip_clauses F (leg_there F leg) (leg_made F total leg)) flips_at

  changes_same : renamed_changes F total leg ≡ leg_change_clauses F total leg
  changes_same = rounds_same (change_clauses F (there F) (made F k)) (change_clauses F (leg_there F leg) (leg_made F total leg)) changes_at

  -- what an assignment says of the leg
  pub rounds_are : (truth : ℕ → Bool) → renamed_rounds F total truth leg ≡ leg_rounds F total truth leg
  rounds_are truth = map_same (round_of F (λ v. truth (number v)) k) (leg_round F total truth leg) (range_with_len 0 k)
      (λ t h. ap (λ gs. map (λ (g : Pair). g.0) gs) (filter_same (λ g. truth (number (made F k t g))) (λ g. truth (leg_made F total leg t g)) F.flips (λ g i. ap truth (made_same t g))))

hub_place : (F : Frame) (e : Edge) → there F 0 e ≡ in_hub F e
hub_place F e = by_place (length F.segments) (position_or_len (is_edge e) F.segments)
  where
    by_place : (s n : ℕ) → 0 * s + n + 1 ≡ n + 1
    by_place s n = omega arith

hub_same : (F : Frame) → crossing_clauses F (there F) 0 ≡ hub_clauses F
hub_same F = map_same (λ g. literal (there F 0 g.0) false ∷ literal (there F 0 g.1) false ∷ []) (λ g. literal (in_hub F g.0) false ∷ literal (in_hub F g.1) false ∷ []) F.crossings
    (λ g h. ap₂ (λ (l m : Lit). l ∷ m ∷ []) (ap (λ v. literal v false) (hub_place F g.0)) (ap (λ v. literal v false) (hub_place F g.1)))

pub hub_is : (F : Frame) (truth : ℕ → Bool) → renamed_hub F truth ≡ hub_of F truth
hub_is F truth = filter_same (λ e. truth (there F 0 e)) (λ e. truth (in_hub F e)) F.segments (λ e h. ap truth (hub_place F e))

pub star_direct : (points : List Point) (F : Frame) (x y z : Leg) → IsFrame points F → renamed_star F x y z ≡ star_formula F x y z
star_direct points F x y z I =
    ap₂ ◌++◌ (ap₂ ◌++◌ (ap₂ ◌++◌ (ap₂ ◌++◌
    (flat_same (renamed_first F all) (first_clauses F) legs (λ leg h. first_same points F I all leg))
    (hub_same F))
    (flat_same (renamed_early F all) (early_clauses F) legs (λ leg h. early_same points F I all leg)))
    (flat_same (renamed_flips F all) (leg_flip_clauses F all) legs (λ leg h. flips_same points F I all leg)))
    (flat_same (renamed_changes F all) (leg_change_clauses F all) legs (λ leg h. changes_same points F I all leg))
  where
    all : ℕ
    all = all_rounds x y z

    legs : List Placed
    legs = placed x y z
