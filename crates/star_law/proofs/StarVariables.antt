-- The variables of the star formula are numbered from 1 to their count, and those of a clause are distinct.
use Rattle.std.proofs.Common.{◌≡◌, ◌≢◌, ◌⊎◌, inl, inr, ℕ, ◌+◌, ◌<◌, ◌≤◌, List, [], ◌∷◌, ◌++◌, length, get_or, map, Contains, refl, sym, ap, ◌∙◌, subst, arith}
use Rattle.std.specs.List.{AllPairs, flat_map, range_with_len}
use Rattle.std.proofs.lemmas.List.{length-map, get_or-map}
use Rattle.std.proofs.lemmas.List.Elements.{Contains-append_cases, Contains-get_or}
use Rattle.geo_orient.specs.declared.Point.{Point}
use Rattle.formula_law.specs.Frames.{Frame, IsFrame}
use Rattle.log_law.specs.declared.Lit.{Lit}
use Rattle.log_law.specs.Clauses.{Clause}
use Rattle.formula_law.specs.Formula.{literal, layer_clauses, crossing_clauses, formula, there}
use Rattle.star_law.specs.Legs.{Leg, Placed, all_rounds, placed}
use Rattle.star_law.proofs.Renamed.{in_star, renamed, renamed_star}
use Rattle.star_law.specs.StarFormula.{star_variable_count}
use Rattle.formula_law.proofs.Clauses.{in_none, in_cases, in_map, in_flat_map, flat_mapped, ranged, in_range}
use Rattle.formula_law.proofs.Traces.{group_4, group_5, in_1, in_3, in_4, in_5}
use Rattle.formula_law.proofs.FormulaVariables.{formula_variables}
use Rattle.formula_law.proofs.FormulaApart.{formula_apart}
use Rattle.star_law.proofs.StarNumbers.{number_bounds, number_apart}
use Rattle.star_law.proofs.StarModels.{firsts, hub, earlies, flips, changes}

abbrev DifferentVariables : Lit → Lit → Type 0
DifferentVariables l m = l.var ≢ m.var

abbrev fitted : (ℕ → ℕ) → Lit → Lit
fitted number l = literal (number l.var) l.on

-- distinct variables stay so under numbers that keep them apart
apart_renamed : (number : ℕ → ℕ) (c : Clause) → ((l m : Lit) → Contains c l → Contains c m → number l.var ≡ number m.var → l.var ≡ m.var) → AllPairs DifferentVariables c → AllPairs DifferentVariables (map (fitted number) c)
apart_renamed number c keeps up i j d lt l same =
    up i j d lt jc (keeps (get_or c i d) (get_or c j d) (Contains-get_or c i d ic) (Contains-get_or c j d jc) (sym (ap (λ (m : Lit). m.var) (get_or-map (fitted number) c i d d ic)) ∙ same ∙ ap (λ (m : Lit). m.var) (get_or-map (fitted number) c j d d jc)))
  where
    jc : j < length c
    jc = let e = length-map c (fitted number) in omega (arith, l, e)

    ic : i < length c
    ic = let e = length-map c (fitted number) in omega (arith, l, lt, e)

module _ (points : List Point) (F : Frame) (I : IsFrame points F) (x y z : Leg) where
  abbrev all : ℕ
  all = all_rounds x y z

  -- a clause is one of a leg's formula, numbered anew, or one of a formula of no rounds
  data Origin (c : Clause) : Type 0 where
    OfLeg : (leg : Placed) → Contains (placed x y z) leg → (own : Clause) → Contains (formula F leg.0.from [] leg.0.rounds) own → map (fitted (in_star F all leg)) own ≡ c → Origin c
    OfHub : Contains (formula F [] [] 0) c → Origin c

  leg_origin : (group : Placed → List Clause) → ((leg : Placed) (own : Clause) → Contains (group leg) own → Contains (formula F leg.0.from [] leg.0.rounds) own) → (c : Clause) → Contains (flat_map (λ leg. renamed (in_star F all leg) (group leg)) (placed x y z)) c → Origin c
  leg_origin group h c i = by_leg (in_flat_map (λ leg. renamed (in_star F all leg) (group leg)) (placed x y z) c i)
    where
      by_leg : (leg : Placed) × Contains (placed x y z) leg × Contains (renamed (in_star F all leg) (group leg)) c → Origin c
      by_leg (leg, i, j) = by_own (in_map (λ own. map (fitted (in_star F all leg)) own) (group leg) c j)
        where
          by_own : (own : Clause) × Contains (group leg) own × (map (fitted (in_star F all leg)) own ≡ c) → Origin c
          by_own (own, g, e) = OfLeg leg i own (h leg own g) e

  early_in : (k : ℕ) (c : Clause) → Contains (flat_map (crossing_clauses F (there F)) (range_with_len 0 k)) c → Contains (flat_map (crossing_clauses F (there F)) (range_with_len 0 (k + 1))) c
  early_in k c h = by_layer (in_flat_map (crossing_clauses F (there F)) (range_with_len 0 k) c h)
    where
      by_layer : (t : ℕ) × Contains (range_with_len 0 k) t × Contains (crossing_clauses F (there F) t) c → Contains (flat_map (crossing_clauses F (there F)) (range_with_len 0 (k + 1))) c
      by_layer (t, i, j) = let r = in_range 0 k t i in flat_mapped (crossing_clauses F (there F)) (range_with_len 0 (k + 1)) t c (ranged 0 (k + 1) t (omega arith) (omega arith)) j

  origin : (c : Clause) → Contains (renamed_star F x y z) c → Origin c
  origin c h = by_5 (Contains-append_cases (firsts F x y z ++ hub F x y z ++ earlies F x y z ++ flips F x y z) (changes F x y z) c h)
    where
      by_2 : Contains (firsts F x y z) c ⊎ Contains (hub F x y z) c → Origin c
      by_2 (inl i) = leg_origin (λ leg. layer_clauses F (there F) 0 leg.0.from) (λ leg own j. in_1 F leg.0.from [] leg.0.rounds own j) c i
      by_2 (inr i) = OfHub (in_3 F [] [] 0 c (flat_mapped (crossing_clauses F (there F)) (range_with_len 0 1) 0 c (0, omega arith, refl) i))

      by_3 : Contains (firsts F x y z ++ hub F x y z) c ⊎ Contains (earlies F x y z) c → Origin c
      by_3 (inl i) = by_2 (Contains-append_cases (firsts F x y z) (hub F x y z) c i)
      by_3 (inr i) = leg_origin (λ leg. flat_map (crossing_clauses F (there F)) (range_with_len 0 leg.0.rounds)) (λ leg own j. in_3 F leg.0.from [] leg.0.rounds own (early_in leg.0.rounds own j)) c i

      by_4 : Contains (firsts F x y z ++ hub F x y z ++ earlies F x y z) c ⊎ Contains (flips F x y z) c → Origin c
      by_4 (inl i) = by_3 (Contains-append_cases (firsts F x y z ++ hub F x y z) (earlies F x y z) c i)
      by_4 (inr i) = leg_origin (λ leg. group_4 F leg.0.from [] leg.0.rounds) (λ leg own j. in_4 F leg.0.from [] leg.0.rounds own j) c i

      by_5 : Contains (firsts F x y z ++ hub F x y z ++ earlies F x y z ++ flips F x y z) c ⊎ Contains (changes F x y z) c → Origin c
      by_5 (inl i) = by_4 (Contains-append_cases (firsts F x y z ++ hub F x y z ++ earlies F x y z) (flips F x y z) c i)
      by_5 (inr i) = leg_origin (λ leg. group_5 F leg.0.from [] leg.0.rounds) (λ leg own j. in_5 F leg.0.from [] leg.0.rounds own j) c i

  -- each leg has its rounds within those of all
  record Fits (leg : Placed) : Type 0 where
    rest : ℕ
    all : x.rounds + y.rounds + z.rounds ≡ leg.1 + leg.0.rounds + rest

  fits : (leg : Placed) → Contains (placed x y z) leg → Fits leg
  fits leg h = by_1 (in_cases leg (x, 0) ((y, x.rounds) ∷ (z, x.rounds + y.rounds) ∷ []) h)
    where
      by_3 : (let l : Placed = (z, x.rounds + y.rounds) in l ≡ leg) ⊎ Contains [] leg → Fits leg
      by_3 (inl e) = subst Fits e (record { rest = 0; all = omega arith })
      by_3 (inr n) = absurd (in_none leg n)

      by_2 : (let l : Placed = (y, x.rounds) in l ≡ leg) ⊎ Contains ((z, x.rounds + y.rounds) ∷ []) leg → Fits leg
      by_2 (inl e) = subst Fits e (record { rest = z.rounds; all = omega arith })
      by_2 (inr n) = by_3 (in_cases leg (z, x.rounds + y.rounds) [] n)

      by_1 : (let l : Placed = (x, 0) in l ≡ leg) ⊎ Contains ((y, x.rounds) ∷ (z, x.rounds + y.rounds) ∷ []) leg → Fits leg
      by_1 (inl e) = subst Fits e (record { rest = y.rounds + z.rounds; all = omega arith })
      by_1 (inr n) = by_2 (in_cases leg (y, x.rounds) ((z, x.rounds + y.rounds) ∷ []) n)

  abbrev InCount : Lit → Type 0
  InCount l = (1 ≤ l.var) × (l.var ≤ star_variable_count F all)

  pub star_variables : (c : Clause) (l : Lit) → Contains (renamed_star F x y z) c → Contains c l → InCount l
  star_variables c l h i = by_origin (origin c h)
    where
      by_origin : Origin c → InCount l
      by_origin (OfHub j) = let r = formula_variables points F I [] [] 0 c l j i in (r.0, omega (arith, r.1))
      by_origin (OfLeg leg j own g e) = by_source (in_map (fitted (in_star F all leg)) own l (subst (λ c. Contains c l) (sym e) i))
        where
          f : Fits leg
          f = fits leg j

          by_source : (m : Lit) × Contains own m × (fitted (in_star F all leg) m ≡ l) → InCount l
          by_source (m, a, b) =
              let r = formula_variables points F I leg.0.from [] leg.0.rounds own m g a in
              subst InCount b (number_bounds F all leg f.rest f.all m.var r.0 r.1)

  pub star_apart : (c : Clause) → Contains (renamed_star F x y z) c → AllPairs DifferentVariables c
  star_apart c h = by_origin (origin c h)
    where
      by_origin : Origin c → AllPairs DifferentVariables c
      by_origin (OfHub j) = formula_apart points F I [] [] 0 c j
      by_origin (OfLeg leg j own g e) =
          subst (AllPairs DifferentVariables) e
          (apart_renamed (in_star F all leg) own
          (λ l m a b. number_apart F all leg f.rest f.all l.var m.var (formula_variables points F I leg.0.from [] leg.0.rounds own l g a).0 (formula_variables points F I leg.0.from [] leg.0.rounds own m g b).0)
          (formula_apart points F I leg.0.from [] leg.0.rounds own g))
        where
          f : Fits leg
          f = fits leg j
