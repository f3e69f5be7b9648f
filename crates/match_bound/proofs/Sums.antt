-- Sums over an assignment: term by term, and through potentials that its pairs meet.
use Rattle.std.proofs.Common.{◌≡◌, ℕ, pos, zero, suc, ◌+◌, ◌<◌, ◌≤◌, ◌+ℤ◌, Some, List, [], ◌∷◌, length, get_or, take, map, refl, sym, ap, ◌∙◌, subst, arith, add-one}
use Rattle.std.specs.Prelude.{slice_get, sum_by}
use Rattle.std.specs.List.{enumerate_from}
use Rattle.std.proofs.lemmas.List.{take_all}
use Rattle.std.proofs.lemmas.List.FromFn.{length-enumerate_from, get_or-enumerate_from}
use Rattle.std.proofs.lemmas.List.Sums.{sum_by-cons, sum_by_more}
use Rattle.std.proofs.lemmas.Option.{get_or_from_slice_get, slice_get_within}
use Rattle.assignment_law.specs.Assignments.{IsAssignment, assignment_sum}
use Rattle.assignment_law.proofs.Distinct.{numbers, assigned_sum}
use Rattle.match_bound.specs.Potentials.{total}

abbrev pub pair_weight : (ℕ → ℕ → ℕ) → ℕ × ℕ → ℕ
pair_weight weight place = weight place.0 place.1

-- the sum of the first pairs
abbrev pub sum_before : (ℕ → ℕ → ℕ) → List ℕ → ℕ → ℕ
sum_before weight js i = sum_by (pair_weight weight) (take i (enumerate_from 0 js))

pub sum_more : (weight : ℕ → ℕ → ℕ) (js : List ℕ) (i j : ℕ) → slice_get js i ≡ Some j → sum_before weight js (i + 1) ≡ sum_before weight js i + weight i j
sum_more weight js i j s =
    let l : i < length js = slice_get_within js i j s in
    sum_by_more (pair_weight weight) (enumerate_from 0 js) i (0, 0) (subst (λ n. i < n) (sym (length-enumerate_from 0 js)) l)
    ∙ ap (λ w. sum_before weight js i + w) (ap (pair_weight weight) (get_or-enumerate_from 0 js i (0, 0) l) ∙ (ap (λ n. weight n (get_or js i 0)) (none i) ∙ ap (weight i) (get_or_from_slice_get js i j 0 s)))
  where
    none : (k : ℕ) → 0 + k ≡ k
    none k = omega arith

pub sum_all : (weight : ℕ → ℕ → ℕ) (js : List ℕ) (i : ℕ) → length js ≤ i → sum_before weight js i ≡ assignment_sum weight js
sum_all weight js i l = ap (sum_by (pair_weight weight)) (take_all i (enumerate_from 0 js) (let e = length-enumerate_from 0 js in omega (arith, e, l)))

-- pairs that meet their potentials
met_pairs : (weight : ℕ → ℕ → ℕ) (v : ℕ → ℕ) (us js : List ℕ) (n : ℕ) → length js ≡ length us → ((k : ℕ) → k < length js → weight (n + k) (get_or js k 0) ≡ get_or us k 0 + v (get_or js k 0))
    → sum_by (pair_weight weight) (enumerate_from n js) ≡ sum_by (λ x. x) us + sum_by v js
met_pairs weight v [] [] n e h = refl
met_pairs weight v (u ∷ us) [] n e h = absurd (omega arith)
met_pairs weight v [] (j ∷ js) n e h = absurd (omega arith)
met_pairs weight v (u ∷ us) (j ∷ js) n e h =
    let again = met_pairs weight v us js (n + 1) (omega arith) (λ k l. subst (λ z. weight z (get_or js k 0) ≡ get_or us k 0 + v (get_or js k 0)) (moved k) (h (suc k) (omega arith))) in
    let first = subst (λ z. weight z j ≡ u + v j) none (h 0 (omega arith)) in
    omega (arith, again, first, sum_by-cons (pair_weight weight) (n, j) (enumerate_from (n + 1) js), sum_by-cons (λ x. x) u us, sum_by-cons v j js)
  where
    moved : (k : ℕ) → n + suc k ≡ n + 1 + k
    moved k = omega arith

    none : n + 0 ≡ n
    none = omega arith

-- a list's sum is that over the numbers of its places
placed_sum : (vs : List ℕ) (n : ℕ) → n ≤ length vs → sum_by (λ j. get_or vs j 0) (numbers n) ≡ sum_by (λ x. x) (take n vs)
placed_sum vs zero h = refl
placed_sum vs (suc n) h =
    let again = placed_sum vs n (omega arith) in
    let l : n < length vs = omega arith in
    let e = sum_by_more (λ x. x) vs n 0 l in
    let i = ap (λ k. sum_by (λ x. x) (take k vs)) (add-one n) in
    omega (arith, again, sum_by-cons (λ j. get_or vs j 0) n (numbers n), e, i)

pub met_sum : (weight : ℕ → ℕ → ℕ) (m : ℕ) (us vs js : List ℕ) → length us ≡ m → length vs ≡ m → IsAssignment m js → ((i : ℕ) → i < m → weight i (get_or js i 0) ≡ get_or us i 0 + get_or vs (get_or js i 0) 0)
    → assignment_sum weight js ≡ sum_by (λ x. x) us + sum_by (λ x. x) vs
met_sum weight m us vs js ul vl A h =
    let pairs = met_pairs weight (λ j. get_or vs j 0) us js 0 (A.long ∙ sym ul) (λ k l. subst (λ z. weight z (get_or js k 0) ≡ get_or us k 0 + get_or vs (get_or js k 0) 0) (sym (none k)) (h k (subst (λ n. k < n) A.long l))) in
    let same = assigned_sum (λ j. get_or vs j 0) m js A in
    let placed = placed_sum vs m (omega (arith, vl)) in
    let whole = ap (sum_by (λ x. x)) (take_all m vs (omega (arith, vl))) in
    omega (arith, pairs, same, placed, whole)
  where
    none : (k : ℕ) → 0 + k ≡ k
    none k = omega arith

-- a sum of numbers as one of integers
pub total_pos : (xs : List ℕ) → total (map pos xs) ≡ pos (sum_by (λ x. x) xs)
total_pos [] = refl
total_pos (x ∷ xs) = ap (λ z. pos x +ℤ z) (total_pos xs) ∙ ap pos (sym (sum_by-cons (λ x. x) x xs))
