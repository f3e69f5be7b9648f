-- Pairs of numbers in edge order, and the numbers of prover jobs.
use Rattle.std.proofs.Common.{◌≡◌, ◌≢◌, ◌∙◌, ◌⊎◌, inl, inr, ℕ, zero, suc, ◌+◌, ◌-◌, ◌*◌, ◌/◌, ◌%◌, ◌<◌, ◌≤◌, List, ◌++◌, map, length, slice_index_or, flat_map, refl, sym, ap, arith, length-append, mul-suc, suc-mul, mul-le-mul_right}
use Rattle.std.specs.List.{range_with_len}
use Rattle.std.proofs.lemmas.Bool.{cases_lt}
use Rattle.std.proofs.lemmas.List.{length-map, get_or-append-add, get_or_append_left}
use Rattle.std.proofs.lemmas.List.FromFn.{length-range_with_len}
use Rattle.std.proofs.lemmas.Nat.{div-add-mod', mod_below, mod-mul-add}
use Rattle.plan_law.specs.Jobs.{pairs, pair_count, prover_jobs}
use Rattle.worker_pool.specs.Jobs.{IsPairAt}

-- the pairs with this number first
abbrev pub row_from : ℕ → ℕ → List (ℕ × ℕ)
row_from m i = map (λ j. (i, j)) (range_with_len (i + 1) (m - (i + 1)))

-- the pairs whose first number is one of n from i on
abbrev pub pairs_from : ℕ → ℕ → ℕ → List (ℕ × ℕ)
pairs_from m i n = flat_map (row_from m) (range_with_len i n)

abbrev pub with_first : ℕ → ℕ → ℕ × ℕ
with_first i j = (i, j)

pub length-row : (m i : ℕ) → length (row_from m i) ≡ m - (i + 1)
length-row m i = length-map (range_with_len (i + 1) (m - (i + 1))) (with_first i) ∙ length-range_with_len (i + 1) (m - (i + 1))

pub row_at : (c a n k : ℕ) → k < n → slice_index_or (map (λ j. (c, j)) (range_with_len a n)) k (0, 0) ≡ with_first c (a + k)
row_at c a zero k lt = absurd (omega (arith, lt))
row_at c a (suc n) zero lt = let e : a ≡ a + 0 = omega arith in ap (with_first c) e
row_at c a (suc n) (suc k) lt = let e : (a + 1) + k ≡ a + suc k = omega arith in row_at c (a + 1) n k (omega (arith, lt)) ∙ ap (with_first c) e

-- twice the number of pairs
twice_length : (m i n : ℕ) → i + n ≡ m → length (pairs_from m i n) * 2 ≡ n * (n - 1)
twice_length m i zero e = refl
twice_length m i (suc zero) e = let r = length-row m i in let l = length-append (row_from m i) (pairs_from m (i + 1) zero) in let e0 : length (pairs_from m (i + 1) zero) ≡ 0 = refl in omega (arith, r, l, e, e0)
twice_length m i (suc (suc n)) e =
    let h = twice_length m (i + 1) (suc n) (omega (arith, e)) in
    let r = length-row m i in
    let l = length-append (row_from m i) (pairs_from m (i + 1) (suc n)) in
    let a : suc (suc n) * suc n ≡ suc n * suc n + suc n = suc-mul (suc n) (suc n) in
    let b : suc n * suc n ≡ suc n * n + suc n = mul-suc (suc n) n in
    let c : length (pairs_from m (i + 1) (suc n)) * 2 ≡ suc n * n = h ∙ ap (λ (x : ℕ). suc n * x) (less n) in
    let d : length (pairs_from m i (suc (suc n))) * 2 ≡ suc (suc n) * suc n = omega (arith, a, b, c, r, l, e) in
    d ∙ ap (λ (x : ℕ). suc (suc n) * x) (sym (less (suc n)))
  where
    less : (k : ℕ) → suc k - 1 ≡ k
    less k = omega arith

half : (a b : ℕ) → a * 2 ≡ b → b / 2 ≡ a
half a b e = omega (arith, e)

pub count_pairs : (m : ℕ) → length (pairs m) ≡ pair_count m
count_pairs m = sym (half (length (pairs m)) (m * (m - 1)) (twice_length m 0 m (omega arith)))

next_row : (m i : ℕ) → i < m → m - i ≡ suc (m - (i + 1))
next_row m i lt = omega (arith, lt)

-- the pair at the place is so far on in what comes from number i on
abbrev pub Left : ℕ → ℕ → ℕ → ℕ → Type 0
Left m place i left = (left < length (pairs_from m i (m - i))) × (slice_index_or (pairs_from m i (m - i)) left (0, 0) ≡ slice_index_or (pairs m) place (0, 0))

pub found_in_row : (m i left : ℕ) → i < m → left < m - 1 - i → slice_index_or (pairs_from m i (m - i)) left (0, 0) ≡ with_first i (i + 1 + left)
found_in_row m i left lt l =
    ap (λ n. slice_index_or (pairs_from m i n) left (0, 0)) (next_row m i lt)
    ∙ (get_or_append_left (row_from m i) (pairs_from m (i + 1) (m - (i + 1))) (0, 0) left (omega (arith, length-row m i, l)) ∙ row_at i (i + 1) (m - (i + 1)) left (omega (arith, l)))

pub past_row : (m i left : ℕ) → i < m → m - 1 - i ≤ left → slice_index_or (pairs_from m i (m - i)) left (0, 0) ≡ slice_index_or (pairs_from m (i + 1) (m - (i + 1))) (left - (m - 1 - i)) (0, 0)
past_row m i left lt l =
    ap (λ n. slice_index_or (pairs_from m i n) left (0, 0)) (next_row m i lt)
    ∙ (ap (λ k. slice_index_or (row_from m i ++ pairs_from m (i + 1) (m - (i + 1))) k (0, 0)) (let e : left ≡ length (row_from m i) + (left - (m - 1 - i)) = omega (arith, length-row m i, l) in e)
    ∙ get_or-append-add (row_from m i) (pairs_from m (i + 1) (m - (i + 1))) (left - (m - 1 - i)) (0, 0))

pub still_in : (m i left : ℕ) → i < m → m - 1 - i ≤ left → left < length (pairs_from m i (m - i)) → left - (m - 1 - i) < length (pairs_from m (i + 1) (m - (i + 1)))
still_in m i left lt l h =
    let e = ap (λ n. length (pairs_from m i n)) (next_row m i lt) in
    omega (arith, e, length-row m i, length-append (row_from m i) (pairs_from m (i + 1) (m - (i + 1))), l, h)

pub begins : (m place : ℕ) → place < pair_count m → (place < length (pairs_from m 0 (m - 0))) × (slice_index_or (pairs_from m 0 (m - 0)) place (0, 0) ≡ slice_index_or (pairs m) place (0, 0))
begins m place lt =
    let e : m - 0 ≡ m = omega arith in
    (omega (arith, lt, count_pairs m, ap (λ n. length (pairs_from m 0 n)) e), ap (λ n. slice_index_or (pairs_from m 0 n) place (0, 0)) e)

pub none_left : (m i left : ℕ) → m ≤ i → left < length (pairs_from m i (m - i)) → ⊥
none_left m i left le h =
    let e : m - i ≡ 0 = omega (arith, le) in
    let l : length (pairs_from m i (m - i)) ≡ 0 = ap (λ n. length (pairs_from m i n)) e in
    omega (arith, l, h)

-- where a job of the prover side isn't a pack, so many rows come before it
among : (m d r k s p q : ℕ) → k * m + s ≡ p → s < m → d * m + d + r ≡ q → r < m → q < p + k → q - d < p
among m d r k s p q e l f b lt = by_place (cases_lt d k) (cases_lt k d)
  where
    by_place : (d < k) ⊎ (k ≤ d) → (k < d) ⊎ (d ≤ k) → q - d < p
    by_place (inl a) _ = let x : suc d * m ≤ k * m = mul-le-mul_right m a in omega (arith, x, suc-mul d m, e, f, b)
    by_place (inr a) (inl c) = absurd (let x : suc k * m ≤ d * m = mul-le-mul_right m c in omega (arith, x, suc-mul k m, e, f, b, l, lt, c))
    by_place (inr a) (inr c) = let x : k ≡ d = omega (arith, a, c) in let y : k * m ≡ d * m = ap (λ (n : ℕ). n * m) x in omega (arith, x, y, e, f, b, l, lt)

pub row_number : (m q : ℕ) → 1 ≤ m → q < prover_jobs m → (q + 1) % (m + 1) ≢ 0 → q - q / (m + 1) < pair_count m
row_number m q l lt n =
    let d = div-add-mod' q (m + 1) in
    let b : q % (m + 1) < m + 1 = mod_below q (m + 1) (omega arith) in
    among m (q / (m + 1)) (q % (m + 1)) (pair_count m / m) (pair_count m % m) (pair_count m) q (div-add-mod' (pair_count m) m) (mod_below (pair_count m) m (omega (arith, l)))
    (let x : q / (m + 1) * (m + 1) ≡ q / (m + 1) * m + q / (m + 1) = opened (q / (m + 1)) m in omega (arith, x, d)) (omega (arith, b, not_last)) lt
  where
    opened : (a b : ℕ) → a * (b + 1) ≡ a * b + a
    opened a b = ap (λ (c : ℕ). a * c) (let e : b + 1 ≡ suc b = omega arith in e) ∙ mul-suc a b

    not_last : q % (m + 1) ≢ m
    not_last e = n (ap (λ (x : ℕ). x % (m + 1)) whole ∙ mod-mul-add (q / (m + 1) + 1) (m + 1) 0 (omega arith))
      where
        whole : q + 1 ≡ (q / (m + 1) + 1) * (m + 1) + 0
        whole = let x = div-add-mod' q (m + 1) in let y : (q / (m + 1) + 1) * (m + 1) ≡ q / (m + 1) * (m + 1) + (m + 1) = ap (λ (c : ℕ). c * (m + 1)) (let e1 : q / (m + 1) + 1 ≡ suc (q / (m + 1)) = omega arith in e1) ∙ suc-mul (q / (m + 1)) (m + 1) in omega (arith, x, y, e)

pub is_pair : (m i left place : ℕ) → i < m → left < m - 1 - i → slice_index_or (pairs_from m i (m - i)) left (0, 0) ≡ slice_index_or (pairs m) place (0, 0) → IsPairAt m place i (i + 1 + left)
is_pair m i left place lt l h = record { there = sym h ∙ found_in_row m i left lt l; ascends = omega arith; below = omega (arith, lt, l) }
