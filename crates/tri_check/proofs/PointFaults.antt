-- The first eight kinds of fault: what each test finds is the first fault, and what it doesn't find isn't there.
use Rattle.std.proofs.Common.{◌≡◌, ◌≢◌, ◌⊎◌, inl, inr, ℕ, ◌<◌, ◌≤◌, ℤ, pos, ◌<ℤ◌, List, [], ◌∷◌, map, length, sum, refl, sym, ap, ◌∙◌, arith}
use Rattle.std.proofs.lemmas.Int.{ints}
use Rattle.geo_orient.specs.declared.Point.{Point}
use Rattle.geo_orient.specs.Reach.{IsInReach}
use Rattle.tri_theory.specs.Points.{point, turn}
use Rattle.tri_check.specs.declared.raw.RawPair.{RawPair}
use Rattle.tri_check.specs.declared.fault.Bad.{Bad}
use Rattle.tri_check.specs.declared.fault.Bad.TheVariants.{TooManyPoints, TooManyInputs, TooManyPairs, CoordinateRange, TooFewPoints, RepeatedPoint, Collinear, NoInput}
use Rattle.tri_check.specs.Layouts.{AreInReach}
use Rattle.tri_check.specs.Faults.{HoldsOfShape}
use Rattle.tri_check.specs.Stages.{IsFirstOfShape, IsLeast, AreDistinct, IsFirstRepeat, AreSpread, rank_of, AreClear, AreLimited, AreSound}
use Rattle.tri_check.proofs.Order.{Less_than, rest_of, lex, lex_one, first_of, clear_next}

module _ (points : List Point) (inputs : List (List RawPair)) where
  pub none_before : AreClear points inputs 1
  none_before = record { none = λ c l. by_cases c l }
    where
      by_cases : (c : Bad) → rank_of c < 1 → ¬ HoldsOfShape points inputs c
      by_cases (TooManyPoints n) l h = omega arith
      by_cases _ l h = omega arith

  pub few_points : length points ≤ 16384 → (c : Bad) → rank_of c ≡ 1 → ¬ HoldsOfShape points inputs c
  few_points few (TooManyPoints n) r h = absurd (let e = h.0 in let l = h.1 in omega arith)
  few_points few _ r h = absurd (omega arith)

  pub few_inputs : length inputs ≤ 256 → (c : Bad) → rank_of c ≡ 2 → ¬ HoldsOfShape points inputs c
  few_inputs few (TooManyInputs n) r h = absurd (let e = h.0 in let l = h.1 in omega arith)
  few_inputs few _ r h = absurd (omega arith)

  pub few_pairs : (c : ℕ) → c ≡ sum (map (λ pairs. length pairs) inputs) → c ≤ 2000000 → (c : Bad) → rank_of c ≡ 3 → ¬ HoldsOfShape points inputs c
  few_pairs m is few (TooManyPairs n) r h = absurd (let e = h.0 in let l = h.1 in omega arith)
  few_pairs m is few _ r h = absurd (omega arith)

  pub first_range : (i : ℕ) → AreClear points inputs 4 → IsLeast (length points) (λ i. ¬ IsInReach (point points i)) i → IsFirstOfShape points inputs (CoordinateRange i)
  first_range i clear L = first_of points inputs (CoordinateRange i) 4 (i ∷ []) refl clear (L.below, L.holds) same
    where
      same : (c : Bad) → rank_of c ≡ 4 → Less_than (rest_of c) (i ∷ []) → ¬ HoldsOfShape points inputs c
      same (CoordinateRange j) r l h = L.least j (lex_one j i l) h.1
      same _ r l h = absurd (omega arith)

  pub in_range : AreInReach points → (c : Bad) → rank_of c ≡ 4 → ¬ HoldsOfShape points inputs c
  in_range reach (CoordinateRange j) r h = h.1 (reach j h.0)
  in_range reach _ r h = absurd (omega arith)

  pub some_points : 3 ≤ length points → (c : Bad) → rank_of c ≡ 5 → ¬ HoldsOfShape points inputs c
  some_points some (TooFewPoints n) r h = absurd (let e = h.0 in let l = h.1 in omega arith)
  some_points some _ r h = absurd (omega arith)

  pub first_repeat : (i j : ℕ) → AreClear points inputs 6 → IsFirstRepeat points i j → IsFirstOfShape points inputs (RepeatedPoint i j)
  first_repeat i j clear R = first_of points inputs (RepeatedPoint i j) 6 (i ∷ j ∷ []) refl clear (R.order, R.within, R.same) same
    where
      by_order : (k l : ℕ) → (k < i) ⊎ ((k ≡ i) × Less_than (l ∷ []) (j ∷ [])) → k < l → l < length points → ¬ (point points k ≡ point points l)
      by_order k l (inl m) o w e = R.first k l m o w e
      by_order k l (inr (s, m)) o w e = R.least l (omega arith) (lex_one l j m) (ap (point points) (sym s) ∙ e)

      same : (c : Bad) → rank_of c ≡ 6 → Less_than (rest_of c) (i ∷ j ∷ []) → ¬ HoldsOfShape points inputs c
      same (RepeatedPoint k l) r m h = by_order k l (lex k i (l ∷ []) (j ∷ []) m) h.0 h.1 h.2
      same _ r l h = absurd (omega arith)

  pub distinct : AreDistinct points → (c : Bad) → rank_of c ≡ 6 → ¬ HoldsOfShape points inputs c
  distinct D (RepeatedPoint k l) r h = D k l h.0 h.1 h.2
  distinct D _ r h = absurd (omega arith)

  pub spread : AreSpread points → (c : Bad) → rank_of c ≡ 7 → ¬ HoldsOfShape points inputs c
  spread (a, b, c, ha, hb, hc, left) Collinear r h = not_zero (turn points a b c) left (h a b c ha hb hc)
    where
      not_zero : (z : ℤ) → pos 0 <ℤ z → z ≡ pos 0 → ⊥
      not_zero z l e = omega (arith, ints)
  spread S _ r h = absurd (omega arith)

  pub some_input : inputs ≢ [] → (c : Bad) → rank_of c ≡ 8 → ¬ HoldsOfShape points inputs c
  some_input some NoInput r h = some h
  some_input some _ r h = absurd (omega arith)

  -- ---- what is known after each test
  pub clear_2 : length points ≤ 16384 → AreClear points inputs 2
  clear_2 few = clear_next points inputs 1 none_before (few_points few)

  pub clear_3 : length points ≤ 16384 → length inputs ≤ 256 → AreClear points inputs 3
  clear_3 few some = clear_next points inputs 2 (clear_2 few) (few_inputs some)

  pub limited : length points ≤ 16384 → length inputs ≤ 256 → (c : ℕ) → c ≡ sum (map (λ pairs. length pairs) inputs) → c ≤ 2000000 → AreLimited points inputs
  limited few some c is small = record { clear = clear_next points inputs 3 (clear_3 few some) (few_pairs c is small); few_points = few; few_inputs = some }

  module _ (limits : AreLimited points inputs) (reach : AreInReach points) where
    pub clear_5 : AreClear points inputs 5
    clear_5 = clear_next points inputs 4 limits.clear (in_range reach)

    pub clear_6 : 3 ≤ length points → AreClear points inputs 6
    clear_6 some = clear_next points inputs 5 clear_5 (some_points some)

    pub clear_7 : 3 ≤ length points → AreDistinct points → AreClear points inputs 7
    clear_7 some D = clear_next points inputs 6 (clear_6 some) (distinct D)

    pub clear_8 : 3 ≤ length points → AreDistinct points → AreSpread points → AreClear points inputs 8
    clear_8 some D S = clear_next points inputs 7 (clear_7 some D) (spread S)

    pub sound : 3 ≤ length points → AreDistinct points → AreSpread points → inputs ≢ [] → AreSound points inputs
    sound some D S inputs_there = record {
      clear = clear_next points inputs 8 (clear_8 some D S) (some_input inputs_there);
      usable = record { few = limits.few_points; in_reach = reach };
      placed = record { distinct = D; spread = S };
      some_points = some;
      some_input = not_empty inputs inputs_there;
      few_inputs = limits.few_inputs;
    }
      where
        not_empty : (xs : List (List RawPair)) → xs ≢ [] → 1 ≤ length xs
        not_empty [] n = absurd (n refl)
        not_empty (x ∷ xs) n = omega arith
