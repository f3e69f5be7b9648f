-- The bound of a star: disjoint rows with lower bounds, and half of the rest's lower bounds, are at most the total of a plan.
use Rattle.std.proofs.Common.{◌≡◌, ◌≢◌, ◌⊎◌, inl, inr, ℕ, suc, ◌+◌, ◌/◌, ◌<◌, ◌≤◌, Bool, true, false, not, eqb, List, [], ◌∷◌, ◌++◌, length, get_or, sum, sum_by, Contains, refl, sym, ap, ◌∙◌, subst, arith}
use Rattle.std.specs.List.{All, AllPairs, list_any, range_with_len}
use Rattle.std.proofs.lemmas.Bool.{eq-eqb}
use Rattle.std.proofs.lemmas.List.Elements.{All-contains, Contains-append_cases}
use Rattle.std.proofs.lemmas.List.Kept.{AllPairs-filter}
use Rattle.std.proofs.lemmas.List.Sums.{sum_by-cons, sum_by-append, sum-map}
use Rattle.std.proofs.lemmas.List.FromFn.{length-range_with_len, get_or-range_with_len}
use Rattle.geo_orient.specs.declared.Point.{Point}
use Rattle.tri_theory.specs.Points.{ArePlaced}
use Rattle.edge_table.specs.declared.edge.Edge.{Edge}
use Rattle.tri_theory.specs.Triangulations.{IsTriangulation}
use Rattle.tri_theory.specs.Rounds.{IsSchedule, IsPlan, AreWeights, total}
use Rattle.bound_law.specs.Bounds.{AreLowerBounds, input_at}
use Rattle.bound_law.specs.Copies.{copied}
use Rattle.star_law.specs.StarRows.{StarRow, IsTrue}
use Rattle.star_law.specs.Stars.{taken, rest_of, IsRearranged, paired_sum, star_bound}
use Rattle.formula_law.proofs.Clauses.{not_both, in_none, in_first, in_later, in_cases, in_filter, any_true, flat_mapped, ranged, in_range}
use Rattle.formula_law.proofs.OrderedLists.{pairs_tail, pairs_head, pairs_append}
use Rattle.bound_law.proofs.Bounded.{round_sum, plan_long, plan_at, plan_joins}
use Rattle.tri_theory.proofs.Copies.{copies_counted}
use Rattle.bound_law.proofs.Copies.{copies_plan, copies_total, copies_all}

-- ---- a sum over distinct members of a list is at most that over the list
module _ (f : ℕ → ℕ) where
  -- a list without one of its members
  abbrev Less : List ℕ → ℕ → Type 0
  Less is j = (js : List ℕ) × (sum_by f is ≡ f j + sum_by f js) × ((k : ℕ) → Contains is k → k ≢ j → Contains js k)

  less : (is : List ℕ) (j : ℕ) → Contains is j → Less is j
  less [] j h = absurd (in_none j h)
  less (i ∷ is) j h = by_cases (in_cases j i is h) (λ k. less is j k)
    where
      kept : i ≡ j → (k : ℕ) → k ≢ j → (i ≡ k) ⊎ Contains is k → Contains is k
      kept e k ne (inl g) = absurd (ne (sym g ∙ e))
      kept e k ne (inr g) = g

      deeper : Less is j → Less (i ∷ is) j
      deeper (js, e, m) = (i ∷ js, omega (arith, e, sum_by-cons f i is, sum_by-cons f i js), λ k h ne. sort k ne (in_cases k i is h))
        where
          sort : (k : ℕ) → k ≢ j → (i ≡ k) ⊎ Contains is k → Contains (i ∷ js) k
          sort k ne (inl g) = subst (Contains (i ∷ js)) g (in_first i js)
          sort k ne (inr g) = in_later k i js (m k g ne)

      by_cases : (i ≡ j) ⊎ Contains is j → (Contains is j → Less is j) → Less (i ∷ is) j
      by_cases (inl e) _ = (is, sum_by-cons f i is ∙ ap (λ z. f z + sum_by f is) e, λ k h ne. kept e k ne (in_cases k i is h))
      by_cases (inr k) again = deeper (again k)

  sum_within : (js is : List ℕ) → AllPairs (λ c d. c ≢ d) js → ((k : ℕ) → Contains js k → Contains is k) → sum_by f js ≤ sum_by f is
  sum_within [] is d m = omega arith
  sum_within (j ∷ js) is d m = by_less (less is j (m j (in_first j js))) (λ ks n. sum_within js ks (pairs_tail (λ c d. c ≢ d) j js d) n)
    where
      by_less : Less is j → ((ks : List ℕ) → ((k : ℕ) → Contains js k → Contains ks k) → sum_by f js ≤ sum_by f ks) → sum_by f (j ∷ js) ≤ sum_by f is
      by_less (ks, e, n) again =
          let h = again ks (λ k g. n k (m k (in_later k j js g)) (λ i. pairs_head (λ c d. c ≢ d) j js d k g (sym i))) in
          omega (arith, e, h, sum_by-cons f j js)

-- ---- the costs of all schedules, by their places
abbrev long : List (List Edge) → ℕ
long rounds = length rounds

by_places : (schedules : List (List (List Edge))) (a : ℕ) (g : ℕ → ℕ) → ((i : ℕ) → i < length schedules → g (a + i) ≡ long (get_or schedules i [])) → sum_by g (range_with_len a (length schedules)) ≡ sum_by long schedules
by_places [] a g h = refl
by_places (s ∷ ss) a g h =
    let again = by_places ss (a + 1) g (λ i l. ap g (moved i) ∙ h (suc i) (omega arith)) in
    let first = ap g none ∙ h 0 (omega arith) in
    omega (arith, again, first, sum_by-cons g a (range_with_len (a + 1) (length ss)), sum_by-cons long s ss)
  where
    moved : (i : ℕ) → a + 1 + i ≡ a + suc i
    moved i = omega arith

    none : a ≡ a + 0
    none = omega arith

pub range_distinct : (a n : ℕ) → AllPairs (λ c d. c ≢ d) (range_with_len a n)
range_distinct a n i j d lt l e =
    let m = length-range_with_len a n in
    let p = get_or-range_with_len a n i d (omega (arith, l, lt, m)) in
    let q = get_or-range_with_len a n j d (omega (arith, l, m)) in
    omega (arith, e, p, q, lt)

pub untrue : (b : Bool) → b ≡ true → ¬ (not b ≡ true)
untrue true e f = not_both refl (sym f)
untrue false e f = not_both e refl

-- ---- lists of rows and pairs
module _ (cost : ℕ → ℕ) where
  rows_cost : (ts : List StarRow) → ((t : StarRow) → Contains ts t → t.lower ≤ cost t.first + cost t.second + cost t.third) → sum_by (λ t. t.lower) ts ≤ sum_by cost (taken ts)
  rows_cost [] h = omega arith
  rows_cost (t ∷ ts) h =
      let again = rows_cost ts (λ u i. h u (in_later u t ts i)) in
      let first = h t (in_first t ts) in
      omega (arith, again, first, sum_by-cons (λ (t : StarRow). t.lower) t ts, sum_by-cons cost t.first (t.second ∷ t.third ∷ taken ts), sum_by-cons cost t.second (t.third ∷ taken ts), sum_by-cons cost t.third (taken ts))

  pairs_cost : (lower : ℕ → ℕ → ℕ) (cs ds : List ℕ) → ((c d : ℕ) → Contains cs c → Contains ds d → lower c d ≤ cost c + cost d) → paired_sum lower cs ds ≤ sum_by cost cs + sum_by cost ds
  pairs_cost lower [] ds h = omega arith
  pairs_cost lower (c ∷ cs) [] h = omega arith
  pairs_cost lower (c ∷ cs) (d ∷ ds) h =
      let again = pairs_cost lower cs ds (λ a b i j. h a b (in_later a c cs i) (in_later b d ds j)) in
      let first = h c d (in_first c cs) (in_first d ds) in
      omega (arith, again, first, sum_by-cons cost c cs, sum_by-cons cost d ds)

-- ---- plans
-- rows that are true, without a common copy, and the images of the rest
pub record AreTrue (points : List Point) (inputs : List (List Edge)) (rows : List StarRow) (images : List ℕ) : Type 0 where
  pub below : All (λ c. c < length inputs) (taken rows)
  pub distinct : AllPairs (λ c d. c ≢ d) (taken rows)
  pub lower : All (λ row. IsTrue points inputs row) rows
  pub rest : IsRearranged (rest_of (length inputs) rows) images

module _ (points : List Point) (P : ArePlaced points) (inputs : List (List Edge)) (centre : List Edge) (schedules : List (List (List Edge))) (I : All (λ edges. IsTriangulation points edges) inputs) (p : IsPlan points inputs centre schedules) (lower : ℕ → ℕ → ℕ) (L : AreLowerBounds points inputs lower) (rows : List StarRow) (images : List ℕ) (S : AreTrue points inputs rows images) where
  abbrev n : ℕ
  n = length inputs

  abbrev cost : ℕ → ℕ
  cost c = long (get_or schedules c [])

  abbrev rest : List ℕ
  rest = rest_of n rows

  taken_below : (c : ℕ) → Contains (taken rows) c → c < n
  taken_below c h = All-contains (λ c. c < n) (taken rows) c S.below h

  rest_below : (c : ℕ) → Contains rest c → c < n
  rest_below c h =
      let r = in_filter (λ c. not (list_any (eqb c) (taken rows))) (range_with_len 0 n) c h in
      let l = in_range 0 n c r.0 in omega (arith, l.1)

  row_cost : (t : StarRow) → Contains rows t → t.lower ≤ cost t.first + cost t.second + cost t.third
  row_cost t h =
      All-contains (λ row. IsTrue points inputs row) rows t S.lower h
      centre (get_or schedules t.first []) (get_or schedules t.second []) (get_or schedules t.third [])
      (here t.first (0, omega arith, refl)) (here t.second (1, omega arith, refl)) (here t.third (2, omega arith, refl))
    where
      here : (c : ℕ) → Contains (t.first ∷ t.second ∷ t.third ∷ []) c → IsSchedule points (input_at inputs c) (get_or schedules c []) centre
      here c i = plan_at points inputs centre schedules p c (taken_below c (flat_mapped (λ (t : StarRow). t.first ∷ t.second ∷ t.third ∷ []) rows t c h i))

  pair_cost : (c d : ℕ) → c < n → d < n → lower c d ≤ cost c + cost d
  pair_cost c d hc hd = low _ _ (λ l. L c d (cost c + cost d) hc hd l (plan_joins points inputs centre schedules c d P I p hc hd))
    where
      low : (x y : ℕ) → ¬ (y < x) → x ≤ y
      low x y h = omega arith

  apart : (c d : ℕ) → Contains (taken rows) c → Contains rest d → c ≢ d
  apart c d h i e = untrue (list_any (eqb d) (taken rows)) (any_true (eqb d) (taken rows) c h (eq-eqb d c (sym e))) (in_filter (λ c. not (list_any (eqb c) (taken rows))) (range_with_len 0 n) d i).1

  all_distinct : AllPairs (λ c d. c ≢ d) (taken rows ++ rest)
  all_distinct = pairs_append (λ c d. c ≢ d) (taken rows) rest S.distinct (AllPairs-filter (λ c d. c ≢ d) (λ c. not (list_any (eqb c) (taken rows))) (range_with_len 0 n) (range_distinct 0 n)) apart

  all_below : (c : ℕ) → Contains (taken rows ++ rest) c → Contains (range_with_len 0 n) c
  all_below c h = by_part (Contains-append_cases (taken rows) rest c h)
    where
      by_part : Contains (taken rows) c ⊎ Contains rest c → Contains (range_with_len 0 n) c
      by_part (inl i) = let l = taken_below c i in ranged 0 n c (omega arith) (omega (arith, l))
      by_part (inr i) = let l = rest_below c i in ranged 0 n c (omega arith) (omega (arith, l))

  all_costs : sum_by cost (range_with_len 0 n) ≡ round_sum schedules
  all_costs =
      ap (λ m. sum_by cost (range_with_len 0 m)) (plan_long points inputs centre schedules p)
      ∙ by_places schedules 0 cost (λ i l. ap cost (none i)) ∙ sym (sum-map long schedules)
    where
      none : (i : ℕ) → 0 + i ≡ i
      none i = omega arith

  pub star_bounds : star_bound lower n rows images ≤ round_sum schedules
  star_bounds =
      let threes = rows_cost cost rows row_cost in
      let twos = pairs_cost cost lower rest images (λ c d h i. pair_cost c d (rest_below c h) (rest_below d (R.among d i))) in
      let again = sum_within cost images rest R.distinct R.among in
      let whole = sum_within cost (taken rows ++ rest) (range_with_len 0 n) all_distinct all_below in
      let parts = sum_by-append cost (taken rows) rest in
      halves (sum_by (λ t. t.lower) rows) (paired_sum lower rest images) (sum_by cost (taken rows)) (sum_by cost rest) (round_sum schedules) threes (omega (arith, twos, again)) (omega (arith, whole, parts, all_costs))
    where
      R : IsRearranged rest images
      R = S.rest

      halves : (l q a b t : ℕ) → l ≤ a → q ≤ b + b → a + b ≤ t → l + (q + 1) / 2 ≤ t
      halves l q a b t h i j = omega arith

-- ---- over copies
pub weighted_star : (points : List Point) (ws : List ℕ) (inputs : List (List Edge)) (centre : List Edge) (schedules : List (List (List Edge))) (lower : ℕ → ℕ → ℕ) (rows : List StarRow) (images : List ℕ) → ArePlaced points → All (λ edges. IsTriangulation points edges) inputs → AreWeights inputs ws → IsPlan points inputs centre schedules
    → AreLowerBounds points (copied ws inputs) lower → AreTrue points (copied ws inputs) rows images → star_bound lower (sum ws) rows images ≤ total ws schedules
weighted_star points ws inputs centre schedules lower rows images P I W p L S =
    subst (λ n. star_bound lower n rows images ≤ total ws schedules) (copies_counted ws inputs W.one_each)
    (subst (λ n. star_bound lower (length (copied ws inputs)) rows images ≤ n) (copies_total ws schedules)
    (star_bounds points P (copied ws inputs) centre (copied ws schedules) (copies_all (λ edges. IsTriangulation points edges) ws inputs I) (copies_plan points centre ws inputs schedules p) lower L rows images S))
