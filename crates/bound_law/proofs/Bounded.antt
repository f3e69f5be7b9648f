-- The assignment bound of inputs, each counted once: summed over a permutation, lower bounds of pairs are at most twice the rounds of a plan.
use Rattle.std.proofs.Common.{◌≡◌, ℕ, zero, suc, ◌+◌, ◌/◌, ◌<◌, ◌≤◌, List, [], ◌∷◌, length, get_or, take, refl, sym, ap, ◌∙◌, subst, arith, add-one}
use Rattle.std.proofs.Math.Seq.{take-length}
use Rattle.std.specs.Prelude.{All, map, sum, sum_by}
use Rattle.std.specs.List.{enumerate_from}
use Rattle.std.proofs.lemmas.List.Sums.{sum_by-cons, sum_by_more, sum-map}
use Rattle.geo_orient.specs.declared.Point.{Point}
use Rattle.edge_table.specs.declared.edge.Edge.{Edge}
use Rattle.tri_theory.specs.Points.{ArePlaced}
use Rattle.tri_theory.specs.Triangulations.{IsTriangulation}
use Rattle.tri_theory.specs.Rounds.{IsSchedule, Within, IsPlan}
use Rattle.tri_theory.proofs.Schedules.{within_back, within_sum}
use Rattle.assignment_law.specs.Assignments.{IsAssignment, assignment_sum, assignment_bound}
use Rattle.assignment_law.proofs.Distinct.{numbers, assigned_sum}
use Rattle.bound_law.specs.Bounds.{input_at, AreLowerBounds}

-- the rounds of all schedules
abbrev pub round_sum : List (List (List Edge)) → ℕ
round_sum schedules = sum (map (λ rounds. length rounds) schedules)

module _ (schedules : List (List (List Edge))) where
  abbrev cost : ℕ → ℕ
  cost i = length (get_or schedules i [])

  costs_taken : (n : ℕ) → n ≤ length schedules → sum_by cost (numbers n) ≡ sum_by (λ rounds. length rounds) (take n schedules)
  costs_taken zero h = refl
  costs_taken (suc n) h =
      let again = costs_taken n (omega arith) in
      let l : n < length schedules = omega arith in
      let e = sum_by_more (λ rounds. length rounds) schedules n [] l in
      let i = ap (λ k. sum_by (λ rounds. length rounds) (take k schedules)) (add-one n) in
      omega (arith, again, sum_by-cons cost n (numbers n), e, i)

  costs_total : (n : ℕ) → n ≡ length schedules → sum_by cost (numbers n) ≡ round_sum schedules
  costs_total n e =
      costs_taken n (omega arith) ∙ ap (λ k. sum_by (λ rounds. length rounds) (take k schedules)) e
      ∙ ap (λ s. sum_by (λ rounds. length rounds) s) (take-length schedules) ∙ sym (sum-map (λ rounds. length rounds) schedules)

  -- an assignment's costs are these rounds
  assigned_costs : (assignment : List ℕ) → IsAssignment (length schedules) assignment → sum_by cost assignment ≡ round_sum schedules
  assigned_costs assignment A = sym (assigned_sum cost (length schedules) assignment A) ∙ costs_total (length schedules) refl

  -- each pair of the list costs at most the two together
  pairs_cost : (lower : ℕ → ℕ → ℕ) (js : List ℕ) (rest : List (List (List Edge))) (n : ℕ) → length js ≡ length rest → ((k : ℕ) → k < length js → lower (n + k) (get_or js k 0) ≤ length (get_or rest k []) + cost (get_or js k 0))
      → sum_by (λ place. lower place.0 place.1) (enumerate_from n js) ≤ sum_by (λ rounds. length rounds) rest + sum_by cost js
  pairs_cost lower [] rest n e h = omega arith
  pairs_cost lower (j ∷ js) [] n e h = absurd (omega arith)
  pairs_cost lower (j ∷ js) (rounds ∷ rest) n e h =
      let again = pairs_cost lower js rest (n + 1) (omega arith) (λ k l. subst (λ z. lower z (get_or js k 0) ≤ length (get_or rest k []) + cost (get_or js k 0)) (moved k) (h (suc k) (omega arith))) in
      let first = subst (λ z. lower z j ≤ length rounds + cost j) none (h 0 (omega arith)) in
      omega (arith, again, first, sum_by-cons (λ place. lower place.0 place.1) (n, j) (enumerate_from (n + 1) js), sum_by-cons (λ rounds. length rounds) rounds rest, sum_by-cons cost j js)
    where
      moved : (k : ℕ) → n + suc k ≡ n + 1 + k
      moved k = omega arith

      none : n + 0 ≡ n
      none = omega arith

-- ---- plans
pub plan_long : (points : List Point) (inputs : List (List Edge)) (centre : List Edge) (schedules : List (List (List Edge))) → IsPlan points inputs centre schedules → length inputs ≡ length schedules
plan_long points [] centre [] p = refl
plan_long points [] centre (s ∷ ss) p = absurd p
plan_long points (i ∷ is) centre [] p = absurd p
plan_long points (i ∷ is) centre (s ∷ ss) p = ap suc (plan_long points is centre ss p.1)

pub plan_at : (points : List Point) (inputs : List (List Edge)) (centre : List Edge) (schedules : List (List (List Edge))) → IsPlan points inputs centre schedules → (i : ℕ) → i < length inputs → IsSchedule points (input_at inputs i) (get_or schedules i []) centre
plan_at points [] centre [] p i h = absurd (omega arith)
plan_at points [] centre (s ∷ ss) p i h = absurd p
plan_at points (e ∷ is) centre [] p i h = absurd p
plan_at points (e ∷ is) centre (s ∷ ss) p zero h = p.0
plan_at points (e ∷ is) centre (s ∷ ss) p (suc i) h = plan_at points is centre ss p.1 i (omega arith)

pub plan_joins : (points : List Point) (inputs : List (List Edge)) (centre : List Edge) (schedules : List (List (List Edge))) (i j : ℕ) → ArePlaced points → All (λ edges. IsTriangulation points edges) inputs → IsPlan points inputs centre schedules
    → i < length inputs → j < length inputs → Within points (input_at inputs i) (input_at inputs j) (length (get_or schedules i []) + length (get_or schedules j []))
plan_joins points inputs centre schedules i j P I p hi hj =
    within_sum points (input_at inputs i) centre (input_at inputs j) _ _ (get_or schedules i [], omega arith, plan_at points inputs centre schedules p i hi)
    (within_back points P (input_at inputs j) centre _ (I j [] hj) (get_or schedules j [], omega arith, plan_at points inputs centre schedules p j hj))

pub assignment_bounds : (points : List Point) (inputs : List (List Edge)) (centre : List Edge) (schedules : List (List (List Edge))) (lower : ℕ → ℕ → ℕ) (assignment : List ℕ) → ArePlaced points → All (λ edges. IsTriangulation points edges) inputs → IsPlan points inputs centre schedules
    → AreLowerBounds points inputs lower → IsAssignment (length inputs) assignment → assignment_bound lower assignment ≤ round_sum schedules
assignment_bounds points inputs centre schedules lower assignment P I p L A =
    let sums = pairs_cost schedules lower assignment schedules 0 (A.long ∙ long) pair in
    let costs = assigned_costs schedules assignment (subst (λ n. IsAssignment n assignment) long A) in
    halves (assignment_sum lower assignment) (round_sum schedules) (omega (arith, sums, costs, sum-map (λ rounds. length rounds) schedules))
  where
    long : length inputs ≡ length schedules
    long = plan_long points inputs centre schedules p

    halves : (s t : ℕ) → s ≤ t + t → (s + 1) / 2 ≤ t
    halves s t h = omega arith

    low : (x y : ℕ) → ¬ (y < x) → x ≤ y
    low x y h = omega arith

    pair : (k : ℕ) → k < length assignment → lower (0 + k) (get_or assignment k 0) ≤ length (get_or schedules k []) + cost schedules (get_or assignment k 0)
    pair k h =
        let hk : k < length inputs = omega (arith, A.long) in
        let hj = A.below k 0 h in
        subst (λ z. lower z (get_or assignment k 0) ≤ length (get_or schedules k []) + cost schedules (get_or assignment k 0)) (sym (none k))
        (low _ _ (λ l. L k (get_or assignment k 0) _ hk hj l (plan_joins points inputs centre schedules k (get_or assignment k 0) P I p hk hj)))
      where
        none : (k : ℕ) → 0 + k ≡ k
        none k = omega arith
