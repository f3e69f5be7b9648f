-- Totals: with one item more, and where each input has the weight 1.
use Rattle.std.proofs.Common.{◌≡◌, ℕ, zero, suc, ◌+◌, ◌*◌, List, [], ◌∷◌, length, get_or, map, take, replicate, sum, Some, slice_get, refl, ap, ◌∙◌, arith}
use Rattle.std.proofs.lemmas.List.Sums.{sum_by-cons}
use Rattle.edge_table.specs.declared.edge.Edge.{Edge}
use Rattle.tri_theory.specs.Rounds.{total, weighted_sum}

pub unit_total : (schedules : List (List (List Edge))) → total (replicate (length schedules) 1) schedules ≡ sum (map (λ rounds. length rounds) schedules)
unit_total [] = refl
unit_total (rounds ∷ schedules) = let again = unit_total schedules in omega (arith, again, sum_by-cons (λ n. n) (length rounds) (map (λ rounds. length rounds) schedules))

-- one item more
pub weighted_none : (ws : List ℕ) → weighted_sum ws [] ≡ 0
weighted_none [] = refl
weighted_none (w ∷ ws) = refl

module _ {X : Type 0} (f : X → ℕ) where
  longer : (ws : List ℕ) (xs : List X) (t : ℕ) (x : X) → slice_get xs t ≡ Some x → weighted_sum ws (map f (take (suc t) xs)) ≡ weighted_sum ws (map f (take t xs)) + get_or ws t 0 * f x
  longer [] xs t x h = omega arith
  longer (w ∷ ws) [] t x h = absurd (cc)
  longer (w ∷ ws) (y ∷ xs) zero x h = let e : y ≡ x = cc in let n = weighted_none ws in let m : w * f y ≡ w * f x = ap (λ z. w * f z) e in omega (arith, n, m)
  longer (w ∷ ws) (y ∷ xs) (suc t) x h = let again = longer ws xs t x h in omega (arith, again)

  pub weighted_more : (ws : List ℕ) (xs : List X) (t : ℕ) (x : X) → slice_get xs t ≡ Some x → weighted_sum ws (map f (take (t + 1) xs)) ≡ weighted_sum ws (map f (take t xs)) + get_or ws t 0 * f x
  weighted_more ws xs t x h = let e : t + 1 ≡ suc t = omega arith in ap (λ n. weighted_sum ws (map f (take n xs))) e ∙ longer ws xs t x h
