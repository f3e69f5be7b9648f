-- Potentials show that an assignment has the greatest sum, and one with the greatest sum is best.
use Rattle.std.proofs.Common.{◌≡◌, ℕ, suc, ◌+◌, ◌/◌, ◌<◌, ◌≤◌, List, [], ◌∷◌, length, get_or, refl, sym, ap, ◌∙◌, subst, arith}
use Rattle.std.specs.Prelude.{sum_by}
use Rattle.std.specs.List.{enumerate_from}
use Rattle.std.proofs.lemmas.List.Sums.{sum_by-cons}
use Rattle.assignment_law.specs.Assignments.{IsAssignment, assignment_sum, HasGreatestSum, IsBest}
use Rattle.assignment_law.proofs.Distinct.{assigned_sum}

module _ (weight : ℕ → ℕ → ℕ) (u v : ℕ → ℕ) where
  abbrev rows : ℕ → List ℕ → ℕ
  rows n [] = 0
  rows n (j ∷ js) = u n + rows (n + 1) js

  abbrev pairs : ℕ → List ℕ → ℕ
  pairs n js = sum_by (λ place. weight place.0 place.1) (enumerate_from n js)

  same_rows : (n : ℕ) (is js : List ℕ) → length is ≡ length js → rows n is ≡ rows n js
  same_rows n [] [] e = refl
  same_rows n [] (j ∷ js) e = absurd (omega arith)
  same_rows n (i ∷ is) [] e = absurd (omega arith)
  same_rows n (i ∷ is) (j ∷ js) e = ap (λ z. u n + z) (same_rows (n + 1) is js (omega arith))

  under : (n : ℕ) (js : List ℕ) → ((k : ℕ) → k < length js → weight (n + k) (get_or js k 0) ≤ u (n + k) + v (get_or js k 0)) → pairs n js ≤ rows n js + sum_by v js
  under n [] h = omega arith
  under n (j ∷ js) h =
      let again = under (n + 1) js (λ k l. subst (λ z. weight z (get_or js k 0) ≤ u z + v (get_or js k 0)) (moved k) (h (suc k) (omega arith))) in
      let first = subst (λ z. weight z j ≤ u z + v j) none (h 0 (omega arith)) in
      omega (arith, again, first, sum_by-cons (λ place. weight place.0 place.1) (n, j) (enumerate_from (n + 1) js), sum_by-cons v j js)
    where
      moved : (k : ℕ) → n + suc k ≡ n + 1 + k
      moved k = omega arith

      none : n + 0 ≡ n
      none = omega arith

  over : (n : ℕ) (js : List ℕ) → ((k : ℕ) → k < length js → u (n + k) + v (get_or js k 0) ≤ weight (n + k) (get_or js k 0)) → rows n js + sum_by v js ≤ pairs n js
  over n [] h = omega arith
  over n (j ∷ js) h =
      let again = over (n + 1) js (λ k l. subst (λ z. u z + v (get_or js k 0) ≤ weight z (get_or js k 0)) (moved k) (h (suc k) (omega arith))) in
      let first = subst (λ z. u z + v j ≤ weight z j) none (h 0 (omega arith)) in
      omega (arith, again, first, sum_by-cons (λ place. weight place.0 place.1) (n, j) (enumerate_from (n + 1) js), sum_by-cons v j js)
    where
      moved : (k : ℕ) → n + suc k ≡ n + 1 + k
      moved k = omega arith

      none : n + 0 ≡ n
      none = omega arith

  pub potentials_best : (n : ℕ) (assignment : List ℕ) → IsAssignment n assignment → ((i j : ℕ) → i < n → j < n → weight i j ≤ u i + v j) → ((i : ℕ) → i < n → weight i (get_or assignment i 0) ≡ u i + v (get_or assignment i 0)) → HasGreatestSum weight n assignment
  potentials_best n assignment A above meets = (A, no_greater)
    where
      zeroed : (k : ℕ) → 0 + k ≡ k
      zeroed k = omega arith

      no_greater : (other : List ℕ) → IsAssignment n other → assignment_sum weight other ≤ assignment_sum weight assignment
      no_greater other B =
          let most = under 0 other (λ k l. subst (λ z. weight z (get_or other k 0) ≤ u z + v (get_or other k 0)) (sym (zeroed k)) (above k (get_or other k 0) (let e = B.long in omega (arith, l, e)) (B.below k 0 l))) in
          let least = over 0 assignment (λ k l. subst (λ z. u z + v (get_or assignment k 0) ≤ weight z (get_or assignment k 0)) (sym (zeroed k)) (let e = meets k (let i = A.long in omega (arith, l, i)) in omega (arith, e))) in
          omega (arith, most, least, same_rows 0 other assignment (B.long ∙ sym A.long), assigned_sum v n other B, assigned_sum v n assignment A)

pub greatest_sum_best : (weight : ℕ → ℕ → ℕ) (n : ℕ) (s : List ℕ) → HasGreatestSum weight n s → IsBest weight n s
greatest_sum_best weight n s h = (h.0, λ other A. halves (assignment_sum weight other) (assignment_sum weight s) (h.1 other A))
  where
    halves : (a b : ℕ) → a ≤ b → (a + 1) / 2 ≤ (b + 1) / 2
    halves a b l = omega arith
