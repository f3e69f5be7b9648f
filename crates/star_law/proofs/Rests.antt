-- Permutations of distinct numbers are assignments of their places, so a best assignment gives the best rest. Rows of copies in a row.
use Rattle.std.proofs.Common.{◌≡◌, ◌≢◌, ◌⊎◌, inl, inr, ℕ, suc, ◌+◌, ◌-◌, ◌*◌, ◌/◌, ◌<◌, ◌≤◌, Bool, true, false, not, eqb, List, [], ◌∷◌, length, get_or, map, sum_by, Contains, refl, sym, ap, ap₂, ◌∙◌, subst, arith}
use Rattle.std.specs.List.{All, AllPairs, enumerate_from, list_any, position_or_len, range_with_len}
use Rattle.std.proofs.lemmas.Bool.{eqb-true, eq-eqb, cases_order}
use Rattle.std.proofs.lemmas.List.{length-map, get_or-map}
use Rattle.std.proofs.lemmas.List.Elements.{Contains-get_or}
use Rattle.std.proofs.lemmas.List.Kept.{AllPairs-filter}
use Rattle.std.proofs.lemmas.List.Sums.{sum_by-cons}
use Rattle.std.proofs.lemmas.List.FromFn.{length-range_with_len, get_or-range_with_len}
use Rattle.assignment_law.specs.Assignments.{IsAssignment, IsBest, assignment_sum}
use Rattle.star_law.specs.StarRows.{StarRow}
use Rattle.star_law.specs.Stars.{taken, rest_of, IsRearranged, rearranged, paired_sum, place_lower, star_bound, AreInRow}
use Rattle.formula_law.proofs.Clauses.{true_or_false, in_filter, filtered, any_true, true_found, in_map, placed, all_of, ranged, in_range}
use Rattle.formula_law.proofs.OrderedLists.{same_elements}
use Rattle.star_law.proofs.StarBounds.{range_distinct, untrue}

abbrev AreDistinct : List ℕ → Type 0
AreDistinct xs = AllPairs (λ i j. i ≢ j) xs

-- ---- distinct numbers under a map that keeps them apart
map_distinct : (f : ℕ → ℕ) (xs : List ℕ) → ((a b : ℕ) → Contains xs a → Contains xs b → f a ≡ f b → a ≡ b) → AreDistinct xs → AreDistinct (map f xs)
map_distinct f xs keeps up i j d lt l same =
    up i j d lt jc (keeps (get_or xs i d) (get_or xs j d) (Contains-get_or xs i d ic) (Contains-get_or xs j d jc) (sym (get_or-map f xs i d d ic) ∙ same ∙ get_or-map f xs j d d jc))
  where
    jc : j < length xs
    jc = let e = length-map xs f in omega (arith, l, e)

    ic : i < length xs
    ic = let e = length-map xs f in omega (arith, l, lt, e)

module _ (numbers : List ℕ) where
  abbrev at : ℕ → ℕ
  at i = get_or numbers i 0

  at_apart : AreDistinct numbers → (i j : ℕ) → i < length numbers → j < length numbers → at i ≡ at j → i ≡ j
  at_apart d i j hi hj e = by_order (cases_order i j)
    where
      by_order : (i ≡ j) ⊎ ((i < j) ⊎ (j < i)) → i ≡ j
      by_order (inl h) = h
      by_order (inr (inl h)) = absurd (d i j 0 h hj e)
      by_order (inr (inr h)) = absurd (d j i 0 h hi (sym e))

  below : (assignment : List ℕ) → IsAssignment (length numbers) assignment → (i : ℕ) → Contains assignment i → i < length numbers
  below assignment A i (k, l, e) = subst (λ n. n < length numbers) e (A.below k i l)

  pub assignment_rearranged : AreDistinct numbers → (assignment : List ℕ) → IsAssignment (length numbers) assignment → IsRearranged numbers (rearranged numbers assignment)
  assignment_rearranged d assignment A = record {
    long = length-map assignment at ∙ A.long;
    among = λ c h. by_source c (in_map at assignment c h);
    distinct = map_distinct at assignment (λ a b h i e. at_apart d a b (below assignment A a h) (below assignment A b i) e) A.distinct;
  }
    where
      by_source : (c : ℕ) → (i : ℕ) × Contains assignment i × (at i ≡ c) → Contains numbers c
      by_source c (i, h, e) = subst (Contains numbers) e (Contains-get_or numbers i 0 (below assignment A i h))

  -- ---- and back, by places
  abbrev place : ℕ → ℕ
  place c = position_or_len (eqb c) numbers

  at_place : (c : ℕ) → Contains numbers c → (place c < length numbers) × (at (place c) ≡ c)
  at_place c h = placed (eqb c) numbers c h (eq-eqb c c refl) (λ y e. sym (eqb-true c y e)) 0

  there_and_back : (images : List ℕ) → ((c : ℕ) → Contains images c → Contains numbers c) → map at (map place images) ≡ images
  there_and_back [] h = refl
  there_and_back (c ∷ cs) h = ap₂ (λ x xs. x ∷ xs) (at_place c (h c (0, omega arith, refl))).1 (there_and_back cs (λ b (k, l, e). h b (suc k, omega arith, e)))

  pub rearranged_assignment : (images : List ℕ) → IsRearranged numbers images → (assignment : List ℕ) × IsAssignment (length numbers) assignment × (rearranged numbers assignment ≡ images)
  rearranged_assignment images R = (map place images, record { long = length-map images place ∙ R.long; below = all_of (λ i. i < length numbers) (map place images) (λ i h. by_source i (in_map place images i h)); distinct = map_distinct place images keeps R.distinct }, there_and_back images R.among)
    where
      by_source : (i : ℕ) → (c : ℕ) × Contains images c × (place c ≡ i) → i < length numbers
      by_source i (c, h, e) = subst (λ n. n < length numbers) e (at_place c (R.among c h)).0

      keeps : (a b : ℕ) → Contains images a → Contains images b → place a ≡ place b → a ≡ b
      keeps a b h i e = sym (at_place a (R.among a h)).1 ∙ ap at e ∙ (at_place b (R.among b i)).1

  -- ---- the sums
  paired : (lower : ℕ → ℕ → ℕ) (cs js : List ℕ) (a : ℕ) → length cs ≡ length js → ((k : ℕ) → k < length cs → at (a + k) ≡ get_or cs k 0)
      → paired_sum lower cs (map at js) ≡ sum_by (λ place. place_lower lower numbers place.0 place.1) (enumerate_from a js)
  paired lower [] [] a e h = refl
  paired lower [] (j ∷ js) a e h = absurd (omega arith)
  paired lower (c ∷ cs) [] a e h = absurd (omega arith)
  paired lower (c ∷ cs) (j ∷ js) a e h =
      let again = paired lower cs js (a + 1) (omega arith) (λ k l. ap at (moved k) ∙ h (suc k) (omega arith)) in
      let first = ap (λ n. lower n (at j)) (ap at none ∙ h 0 (omega arith)) in
      omega (arith, again, first, sum_by-cons (λ place. place_lower lower numbers place.0 place.1) (a, j) (enumerate_from (a + 1) js))
    where
      moved : (k : ℕ) → a + 1 + k ≡ a + suc k
      moved k = omega arith

      none : a ≡ a + 0
      none = omega arith

pub assignment_paired : (lower : ℕ → ℕ → ℕ) (numbers assignment : List ℕ) → IsAssignment (length numbers) assignment → paired_sum lower numbers (rearranged numbers assignment) ≡ assignment_sum (place_lower lower numbers) assignment
assignment_paired lower numbers assignment A = paired numbers lower numbers assignment 0 (sym A.long) (λ k l. ap (λ i. get_or numbers i 0) (none k))
  where
    none : (k : ℕ) → 0 + k ≡ k
    none k = omega arith

-- ---- the best rest
pub rest_distinct : (count : ℕ) (rows : List StarRow) → AreDistinct (rest_of count rows)
rest_distinct count rows = AllPairs-filter (λ c d. c ≢ d) (λ c. not (list_any (eqb c) (taken rows))) (range_with_len 0 count) (range_distinct 0 count)

pub best_rest : (lower : ℕ → ℕ → ℕ) (count : ℕ) (rows : List StarRow) (assignment images : List ℕ) → IsBest (place_lower lower (rest_of count rows)) (length (rest_of count rows)) assignment → IsRearranged (rest_of count rows) images
    → star_bound lower count rows images ≤ star_bound lower count rows (rearranged (rest_of count rows) assignment)
best_rest lower count rows assignment images B R = by_assignment (rearranged_assignment rest images R)
  where
    rest : List ℕ
    rest = rest_of count rows

    halves : (l p q s r : ℕ) → p ≡ s → q ≡ r → (s + 1) / 2 ≤ (r + 1) / 2 → l + (p + 1) / 2 ≤ l + (q + 1) / 2
    halves l p q s r e f h = omega arith

    by_assignment : (other : List ℕ) × IsAssignment (length rest) other × (rearranged rest other ≡ images) → star_bound lower count rows images ≤ star_bound lower count rows (rearranged rest assignment)
    by_assignment (other, A, e) = subst (λ cs. star_bound lower count rows cs ≤ star_bound lower count rows (rearranged rest assignment)) e
        (halves (sum_by (λ (row : StarRow). row.lower) rows) (paired_sum lower rest (rearranged rest other)) (paired_sum lower rest (rearranged rest assignment)) (assignment_sum (place_lower lower rest) other) (assignment_sum (place_lower lower rest) assignment)
        (assignment_paired lower rest other A) (assignment_paired lower rest assignment B.0) (B.1 other A))

-- ---- rows of copies in a row
ascends : (a n : ℕ) → AllPairs (λ c d. c < d) (range_with_len a n)
ascends a n i j d lt l =
    let m = length-range_with_len a n in
    let p = get_or-range_with_len a n i d (omega (arith, l, lt, m)) in
    let q = get_or-range_with_len a n j d (omega (arith, l, m)) in
    omega (arith, p, q, lt)

pub rows_apart : (count : ℕ) (rows : List StarRow) → AreInRow count rows
    → All (λ c. c < count) (taken rows) × AllPairs (λ c d. c ≢ d) (taken rows) × (rest_of count rows ≡ range_with_len (3 * length rows) (count - 3 * length rows))
rows_apart count rows R = (
  all_of (λ c. c < count) (taken rows) (λ c h. let r = in_row c h in let l = R.within in omega (arith, r, l)),
  subst AreDistinct (sym R.row) (range_distinct 0 m),
  same_elements (λ c d. c < d) (λ x y z h i. omega arith) (λ x h. omega arith) (rest_of count rows) (range_with_len m (count - m)) (AllPairs-filter (λ c d. c < d) test (range_with_len 0 count) (ascends 0 count)) (ascends m (count - m)) (λ c. (to c, from c)),
)
  where
    m : ℕ
    m = 3 * length rows

    test : ℕ → Bool
    test c = not (list_any (eqb c) (taken rows))

    in_row : (c : ℕ) → Contains (taken rows) c → c < m
    in_row c h = let r = in_range 0 m c (subst (λ cs. Contains cs c) R.row h) in omega (arith, r.1)

    to : (c : ℕ) → Contains (rest_of count rows) c → Contains (range_with_len m (count - m)) c
    to c h = by_parts (in_filter test (range_with_len 0 count) c h)
      where
        high : ¬ (c < m)
        high l = untrue (list_any (eqb c) (taken rows)) (any_true (eqb c) (taken rows) c (subst (λ cs. Contains cs c) (sym R.row) (ranged 0 m c (omega arith) (omega arith))) (eq-eqb c c refl)) (in_filter test (range_with_len 0 count) c h).1

        by_parts : Contains (range_with_len 0 count) c × (test c ≡ true) → Contains (range_with_len m (count - m)) c
        by_parts (i, e) = let r = in_range 0 count c i in let l = R.within in at_least (not_less c m high) r.1
          where
            not_less : (c m : ℕ) → ¬ (c < m) → m ≤ c
            not_less c m n = omega arith

            at_least : m ≤ c → c < 0 + count → Contains (range_with_len m (count - m)) c
            at_least h i = ranged m (count - m) c h (omega (arith, h, i))

    from : (c : ℕ) → Contains (range_with_len m (count - m)) c → Contains (rest_of count rows) c
    from c h = let r = in_range m (count - m) c h in filtered test (range_with_len 0 count) c (ranged 0 count c (omega arith) (omega (arith, r))) (by_test (true_or_false (list_any (eqb c) (taken rows))) r.0)
      where
        found : (d : ℕ) × Contains (taken rows) d × (eqb c d ≡ true) → m ≤ c → test c ≡ true
        found (d, i, e) l = let same = eqb-true c d e in let s = in_row d i in absurd (omega (arith, same, s, l))

        by_test : (list_any (eqb c) (taken rows) ≡ true) ⊎ (list_any (eqb c) (taken rows) ≡ false) → m ≤ c → test c ≡ true
        by_test (inl e) l = found (true_found (eqb c) (taken rows) e) l
        by_test (inr e) l = ap not e
