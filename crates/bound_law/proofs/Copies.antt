-- Copies of inputs: how many, whose, and that a plan's schedules, copied, are a plan of them with as many rounds as its total.
use Rattle.std.proofs.Common.{◌≡◌, ℕ, zero, suc, ◌+◌, ◌/◌, ◌<◌, ◌≤◌, List, [], ◌∷◌, ◌++◌, length, get_or, replicate, sum, sum_by, refl, sym, ap, ap₂, ◌∙◌, subst, subst₂, arith}
use Rattle.std.specs.List.{All, enumerate_from, range_with_len}
use Rattle.std.proofs.lemmas.List.{length-replicate}
use Rattle.std.proofs.lemmas.List.Elements.{All-replicate, All-append}
use Rattle.std.proofs.lemmas.List.Sums.{sum_by-cons, sum_by-append, sum-map}
use Rattle.std.proofs.lemmas.List.Folds.{sum_by-replicate}
use Rattle.std.proofs.lemmas.List.FromFn.{length-range_with_len, get_or-range_with_len}
use Rattle.geo_orient.specs.declared.Point.{Point}
use Rattle.tri_theory.specs.Points.{ArePlaced}
use Rattle.edge_table.specs.declared.edge.Edge.{Edge}
use Rattle.tri_theory.specs.Triangulations.{IsTriangulation}
use Rattle.tri_theory.specs.Rounds.{IsSchedule, Within, IsPlan, AreWeights, total}
use Rattle.assignment_law.specs.Assignments.{IsAssignment, assignment_bound}
use Rattle.bound_law.specs.Bounds.{AreLowerBounds}
use Rattle.bound_law.specs.Copies.{copied, copy_of, copy_lower}
use Rattle.tri_theory.proofs.Copies.{copies_counted, copies_items}
use Rattle.bound_law.proofs.Bounded.{round_sum, assignment_bounds}

-- ---- plans
module _ (points : List Point) (centre : List Edge) where
  more_copies : (w : ℕ) (input : List Edge) (rounds : List (List Edge)) (inputs : List (List Edge)) (schedules : List (List (List Edge))) → IsSchedule points input rounds centre → IsPlan points inputs centre schedules → IsPlan points (replicate w input ++ inputs) centre (replicate w rounds ++ schedules)
  more_copies zero input rounds inputs schedules s p = p
  more_copies (suc w) input rounds inputs schedules s p = (s, more_copies w input rounds inputs schedules s p)

  pub copies_plan : (ws : List ℕ) (inputs : List (List Edge)) (schedules : List (List (List Edge))) → IsPlan points inputs centre schedules → IsPlan points (copied ws inputs) centre (copied ws schedules)
  copies_plan [] inputs schedules p = p_none
    where
      p_none : IsPlan points [] centre []
      p_none = tt
  copies_plan (w ∷ ws) [] [] p = p
  copies_plan (w ∷ ws) [] (s ∷ ss) p = absurd p
  copies_plan (w ∷ ws) (i ∷ is) [] p = absurd p
  copies_plan (w ∷ ws) (i ∷ is) (s ∷ ss) p = more_copies w i s (copied ws is) (copied ws ss) p.0 (copies_plan ws is ss p.1)

abbrev long : List (List Edge) → ℕ
long rounds = length rounds

pub copies_total : (ws : List ℕ) (schedules : List (List (List Edge))) → round_sum (copied ws schedules) ≡ total ws schedules
copies_total ws schedules = sum-map long (copied ws schedules) ∙ summed ws schedules
  where
    summed : (ws : List ℕ) (schedules : List (List (List Edge))) → sum_by long (copied ws schedules) ≡ total ws schedules
    summed [] schedules = refl
    summed (w ∷ ws) [] = refl
    summed (w ∷ ws) (s ∷ ss) =
        sum_by-append long (replicate w s) (copied ws ss) ∙ ap₂ ◌+◌ (sum_by-replicate long w s) (summed ws ss)

-- ---- weights of 1
pub copied_once : {X : Type 0} (xs : List X) → copied (replicate (length xs) 1) xs ≡ xs
copied_once [] = refl
copied_once (x ∷ xs) = ap (λ ys. x ∷ ys) (copied_once xs)

copy_once : (n c : ℕ) → c < n → copy_of (replicate n 1) c ≡ c
copy_once n c l =
    ap (λ m. get_or (copied (replicate n 1) (range_with_len 0 m)) c 0) (length-replicate n 1)
    ∙ ap (λ xs. get_or xs c 0) (subst (λ m. copied (replicate m 1) (range_with_len 0 n) ≡ range_with_len 0 n) (length-range_with_len 0 n) (copied_once (range_with_len 0 n)))
    ∙ get_or-range_with_len 0 n c 0 l ∙ none
  where
    none : 0 + c ≡ c
    none = omega arith

same_sums : (f g : ℕ → ℕ → ℕ) (n a : ℕ) (js : List ℕ) → a + length js ≤ n → All (λ j. j < n) js → ((i j : ℕ) → i < n → j < n → f i j ≡ g i j)
    → sum_by (λ place. f place.0 place.1) (enumerate_from a js) ≡ sum_by (λ place. g place.0 place.1) (enumerate_from a js)
same_sums f g n a [] l h e = refl
same_sums f g n a (j ∷ js) l h e =
    let again = same_sums f g n (a + 1) js (omega arith) (λ k d m. h (suc k) d (omega arith)) e in
    let first = e a j (omega arith) (h 0 0 (omega arith)) in
    omega (arith, again, first, sum_by-cons (λ place. f place.0 place.1) (a, j) (enumerate_from (a + 1) js), sum_by-cons (λ place. g place.0 place.1) (a, j) (enumerate_from (a + 1) js))

pub unit_bound : (n : ℕ) (lower : ℕ → ℕ → ℕ) (assignment : List ℕ) → IsAssignment n assignment → assignment_bound (copy_lower (replicate n 1) lower) assignment ≡ assignment_bound lower assignment
unit_bound n lower assignment A =
    ap (λ s. (s + 1) / 2) (same_sums (copy_lower (replicate n 1) lower) lower n 0 assignment (let l = A.long in omega (arith, l)) A.below (λ i j hi hj. ap₂ lower (copy_once n i hi) (copy_once n j hj)))

-- ---- what holds of each item holds of each copy
pub copies_all : {X : Type 0} (Q : X → Type 0) (ws : List ℕ) (xs : List X) → All Q xs → All Q (copied ws xs)
copies_all Q [] xs h = λ k d l. absurd (omega arith)
copies_all Q (w ∷ ws) [] h = λ k d l. absurd (omega arith)
copies_all Q (w ∷ ws) (x ∷ xs) h = All-append Q (replicate w x) (copied ws xs) (All-replicate Q w x (h 0 x (omega arith))) (copies_all Q ws xs (λ k d l. h (suc k) d (omega arith)))

-- ---- bounds
pub copies_bounds : (points : List Point) (ws : List ℕ) (inputs : List (List Edge)) (lower : ℕ → ℕ → ℕ) → length ws ≡ length inputs → AreLowerBounds points inputs lower → AreLowerBounds points (copied ws inputs) (copy_lower ws lower)
copies_bounds points ws inputs lower e L i j k hi hj l within =
    let n = copies_counted ws inputs e in
    let p = copies_items ws inputs i [] e (omega (arith, hi, n)) in
    let q = copies_items ws inputs j [] e (omega (arith, hj, n)) in
    L (copy_of ws i) (copy_of ws j) k p.0 q.0 l (subst₂ (λ A B. Within points A B k) p.1 q.1 within)

pub weights_bound : (points : List Point) (ws : List ℕ) (inputs : List (List Edge)) (centre : List Edge) (schedules : List (List (List Edge))) (lower : ℕ → ℕ → ℕ) (assignment : List ℕ) → ArePlaced points → All (λ edges. IsTriangulation points edges) inputs → AreWeights inputs ws → IsPlan points inputs centre schedules
    → AreLowerBounds points inputs lower → IsAssignment (sum ws) assignment → assignment_bound (copy_lower ws lower) assignment ≤ total ws schedules
weights_bound points ws inputs centre schedules lower assignment P I W p L A =
    subst (λ n. assignment_bound (copy_lower ws lower) assignment ≤ n) (copies_total ws schedules)
    (assignment_bounds points (copied ws inputs) centre (copied ws schedules) (copy_lower ws lower) assignment P (copies_all (λ edges. IsTriangulation points edges) ws inputs I) (copies_plan points centre ws inputs schedules p)
    (copies_bounds points ws inputs lower W.one_each L) (subst (λ n. IsAssignment n assignment) (sym (copies_counted ws inputs W.one_each)) A))
