-- The turns that compare two inputs: each two have just one.
use Rattle.std.proofs.Common.{◌≡◌, ◌≢◌, ◌∙◌, ◌⊎◌, inl, inr, ℕ, zero, suc, ◌+◌, ◌-◌, ◌*◌, ◌/◌, ◌%◌, ◌==◌, min, ◌<◌, ◌≤◌, Bool, true, false, cond, List, length, slice_index_or, sym, ap, ap₂, arith, length-append, mul-suc, suc-mul, refl, lt-ltb, le-ltb}
use Rattle.std.specs.Prelude.{nat_lt}
use Rattle.std.proofs.lemmas.Bool.{cases_lt, eq-eqb, ne_eqb}
use Rattle.std.proofs.lemmas.List.{get_or-append-add, get_or_append_left}
use Rattle.std.proofs.lemmas.Nat.{div-add-mod', mod_below, mod-mul-add, div-mul-add, le-div}
use Rattle.plan_law.specs.Jobs.{Job, Walks, Descends, Packs, Compares, pairs, pair_count, prover_jobs, turn_count, improver_job, compared, prover_job, job}
use Rattle.worker_pool.proofs.Pairs.{row_from, pairs_from, with_first, length-row, row_at, count_pairs, row_number}

-- ---- the place of a pair
abbrev IsPlace : List (ℕ × ℕ) → ℕ → ℕ → Type 0
IsPlace ps i j = (place : ℕ) × (place < length ps) × (slice_index_or ps place (0, 0) ≡ with_first i j)

place_from : (m a n i j : ℕ) → a + n ≡ m → a ≤ i → i < j → j < m → IsPlace (pairs_from m a n) i j
place_from m a zero i j e from up below = absurd (omega (arith, e, from, up, below))
place_from m a (suc n) i j e from up below = by_row (cases_lt a i) (λ l. place_from m (a + 1) n i j (omega (arith, e)) (omega (arith, l)) up below)
  where
    size : length (pairs_from m a (suc n)) ≡ length (row_from m a) + length (pairs_from m (a + 1) n)
    size = length-append (row_from m a) (pairs_from m (a + 1) n)

    by_row : (a < i) ⊎ (i ≤ a) → (a < i → IsPlace (pairs_from m (a + 1) n) i j) → IsPlace (pairs_from m a (suc n)) i j
    by_row (inl l) later = past (later l)
      where
        past : IsPlace (pairs_from m (a + 1) n) i j → IsPlace (pairs_from m a (suc n)) i j
        past (place, w, h) = (length (row_from m a) + place, omega (arith, w, size), get_or-append-add (row_from m a) (pairs_from m (a + 1) n) place (0, 0) ∙ h)
    by_row (inr l) later = (
      j - (a + 1),
      omega (arith, size, length-row m a, from, l, up, below),
      get_or_append_left (row_from m a) (pairs_from m (a + 1) n) (0, 0) (j - (a + 1)) (omega (arith, length-row m a, from, l, up, below))
          ∙ (row_at a (a + 1) (m - (a + 1)) (j - (a + 1)) (omega (arith, from, l, up, below)) ∙ ap₂ with_first (let e : a ≡ i = omega (arith, from, l) in e) (let e : a + 1 + (j - (a + 1)) ≡ j = omega (arith, from, l, up) in e)),
    )

place_of : (m i j : ℕ) → i < j → j < m → IsPlace (pairs m) i j
place_of m i j up below = place_from m 0 m i j (omega arith) (omega arith) up below

-- and it has no other place
abbrev IsThere : ℕ → ℕ → ℕ → ℕ → ℕ → Type 0
IsThere m a place i j = (a ≤ i) × (place ≡ length (pairs_from m a (i - a)) + (j - (i + 1)))

place_is : (m a n place i j : ℕ) → a + n ≡ m → place < length (pairs_from m a n) → slice_index_or (pairs_from m a n) place (0, 0) ≡ with_first i j → IsThere m a place i j
place_is m a zero place i j e l h = absurd (let z : length (pairs_from m a zero) ≡ 0 = refl in omega (arith, l, z))
place_is m a (suc n) place i j e l h = by_row (cases_lt place (length (row_from m a))) (λ k w f. place_is m (a + 1) n k i j (omega (arith, e)) w f)
  where
    size : length (pairs_from m a (suc n)) ≡ length (row_from m a) + length (pairs_from m (a + 1) n)
    size = length-append (row_from m a) (pairs_from m (a + 1) n)

    in_row : with_first a (a + 1 + place) ≡ with_first i j → IsThere m a place i j
    in_row f =
        let x : a ≡ i = ap (λ (p : ℕ × ℕ). p.0) f in
        let y : a + 1 + place ≡ j = ap (λ (p : ℕ × ℕ). p.1) f in
        let z : length (pairs_from m a (i - a)) ≡ 0 = ap (λ (k : ℕ). length (pairs_from m a k)) (let k : i - a ≡ 0 = omega (arith, x) in k) in
        (omega (arith, x), omega (arith, x, y, z))

    past : (k : ℕ) → length (row_from m a) + k ≡ place → IsThere m (a + 1) k i j → IsThere m a place i j
    past k w (up, f) =
        let z : length (pairs_from m a (i - a)) ≡ length (row_from m a) + length (pairs_from m (a + 1) (i - (a + 1))) = ap (λ (k : ℕ). length (pairs_from m a k)) (let k : i - a ≡ suc (i - (a + 1)) = omega (arith, up) in k) ∙ length-append (row_from m a) (pairs_from m (a + 1) (i - (a + 1))) in
        (omega (arith, up), omega (arith, f, z, w))

    by_row : (place < length (row_from m a)) ⊎ (length (row_from m a) ≤ place) → ((k : ℕ) → k < length (pairs_from m (a + 1) n) → slice_index_or (pairs_from m (a + 1) n) k (0, 0) ≡ with_first i j → IsThere m (a + 1) k i j) → IsThere m a place i j
    by_row (inl w) later = in_row (sym (row_at a (a + 1) (m - (a + 1)) place (let r = length-row m a in omega (arith, w, r))) ∙ (sym (get_or_append_left (row_from m a) (pairs_from m (a + 1) n) (0, 0) place w) ∙ h))
    by_row (inr w) later =
        let k : length (row_from m a) + (place - length (row_from m a)) ≡ place = omega (arith, w) in
        past (place - length (row_from m a)) k
        (later (place - length (row_from m a)) (omega (arith, l, size, w))
        (sym (get_or-append-add (row_from m a) (pairs_from m (a + 1) n) (place - length (row_from m a)) (0, 0)) ∙ (ap (λ (k : ℕ). slice_index_or (pairs_from m a (suc n)) k (0, 0)) k ∙ h)))

one_place : (m place other i j : ℕ) → place < length (pairs m) → other < length (pairs m) → slice_index_or (pairs m) place (0, 0) ≡ with_first i j → slice_index_or (pairs m) other (0, 0) ≡ with_first i j → place ≡ other
one_place m place other i j l k h g = (place_is m 0 m place i j (omega arith) l h).1 ∙ sym (place_is m 0 m other i j (omega arith) k g).1

-- ---- the prover job of a place, where packs take one number after every m places
abbrev number_of : ℕ → ℕ → ℕ
number_of m place = place + place / m

module _ (m place : ℕ) (some : 1 ≤ m) where
  whole : number_of m place ≡ place / m * (m + 1) + place % m
  whole = let d = div-add-mod' place m in let o : place / m * (m + 1) ≡ place / m * m + place / m = ap (λ (c : ℕ). place / m * c) (let e : m + 1 ≡ suc m = omega arith in e) ∙ mul-suc (place / m) m in omega (arith, d, o)

  rest : place % m < m
  rest = mod_below place m (omega (arith, some))

  packs_before : number_of m place / (m + 1) ≡ place / m
  packs_before = ap (λ (n : ℕ). n / (m + 1)) whole ∙ div-mul-add (place / m) (m + 1) (place % m) (let r = rest in omega (arith, r))

  no_pack : (number_of m place + 1) % (m + 1) ≡ place % m + 1
  no_pack = ap (λ (n : ℕ). n % (m + 1)) (let w = whole in let e : number_of m place + 1 ≡ place / m * (m + 1) + (place % m + 1) = omega (arith, w) in e) ∙ mod-mul-add (place / m) (m + 1) (place % m + 1) (let r = rest in omega (arith, r))

  job_at_place : prover_job m (number_of m place) ≡ compared (slice_index_or (pairs m) place (0, 0))
  job_at_place =
      ap₂ (λ (a b : ℕ). cond (a == 0) Packs (compared (slice_index_or (pairs m) b (0, 0)))) no_pack (let p = packs_before in let e : number_of m place - number_of m place / (m + 1) ≡ place = omega (arith, p) in e) ∙ ap (λ (b : Bool). cond b Packs (compared (slice_index_or (pairs m) place (0, 0)))) (not_zero (place % m))
    where
      not_zero : (k : ℕ) → (k + 1 == 0) ≡ false
      not_zero k = ne_eqb (k + 1) 0 (λ e. omega (arith, e))

-- and back: the number of a prover job that isn't a pack is that of its place
number_is : (m q : ℕ) → 1 ≤ m → (q + 1) % (m + 1) ≢ 0 → q ≡ number_of m (q - q / (m + 1))
number_is m q some no_pack = let w = whole_place in let e = div_place in omega (arith, w, e, d, o)
  where
    d : q / (m + 1) * (m + 1) + q % (m + 1) ≡ q
    d = div-add-mod' q (m + 1)

    o : q / (m + 1) * (m + 1) ≡ q / (m + 1) * m + q / (m + 1)
    o = ap (λ (c : ℕ). q / (m + 1) * c) (let e : m + 1 ≡ suc m = omega arith in e) ∙ mul-suc (q / (m + 1)) m

    not_last : q % (m + 1) ≢ m
    not_last r = no_pack (ap (λ (n : ℕ). n % (m + 1)) (let e : q + 1 ≡ q / (m + 1) * (m + 1) + (m + 1) = omega (arith, d, r) in e) ∙ (ap (λ (n : ℕ). n % (m + 1)) (next (q / (m + 1))) ∙ mod-mul-add (q / (m + 1) + 1) (m + 1) 0 (omega arith)))
      where
        next : (k : ℕ) → k * (m + 1) + (m + 1) ≡ (k + 1) * (m + 1) + 0
        next k = let s : (k + 1) * (m + 1) ≡ k * (m + 1) + (m + 1) = ap (λ (c : ℕ). c * (m + 1)) (let e : k + 1 ≡ suc k = omega arith in e) ∙ suc-mul k (m + 1) in omega (arith, s)

    below : q % (m + 1) < m
    below = let b : q % (m + 1) < m + 1 = mod_below q (m + 1) (omega arith) in omega (arith, b, not_last)

    whole_place : q - q / (m + 1) ≡ q / (m + 1) * m + q % (m + 1)
    whole_place = omega (arith, d, o)

    div_place : (q - q / (m + 1)) / m ≡ q / (m + 1)
    div_place = ap (λ (n : ℕ). n / m) whole_place ∙ div-mul-add (q / (m + 1)) m (q % (m + 1)) below

-- two prover jobs that compare the same inputs are one
one_number : (m q other i j : ℕ) → q < prover_jobs m → other < prover_jobs m → prover_job m q ≡ Compares i j → prover_job m other ≡ Compares i j → q ≡ other
one_number m q other i j l k e f =
    number_is m q some (compares q e).0 ∙ (ap (number_of m) (one_place m (q - q / (m + 1)) (other - other / (m + 1)) i j (within q l e) (within other k f) (compares q e).1 (compares other f).1) ∙ sym (number_is m other some (compares other f).0))
  where
    none : (m : ℕ) → m ≡ 0 → prover_jobs m ≡ 0
    none m z = ap prover_jobs z

    some : 1 ≤ m
    some = by_place (cases_lt 0 m)
      where
        by_place : (0 < m) ⊎ (m ≤ 0) → 1 ≤ m
        by_place (inl a) = omega (arith, a)
        by_place (inr a) = absurd (let z = none m (let z : m ≡ 0 = omega (arith, a) in z) in omega (arith, l, z))

    compares : (q : ℕ) → prover_job m q ≡ Compares i j → ((q + 1) % (m + 1) ≢ 0) × (slice_index_or (pairs m) (q - q / (m + 1)) (0, 0) ≡ with_first i j)
    compares q e = by_test ((q + 1) % (m + 1) == 0) refl e
      where
        by_test : (b : Bool) → ((q + 1) % (m + 1) == 0) ≡ b → cond b Packs (compared (slice_index_or (pairs m) (q - q / (m + 1)) (0, 0))) ≡ Compares i j → ((q + 1) % (m + 1) ≢ 0) × (slice_index_or (pairs m) (q - q / (m + 1)) (0, 0) ≡ with_first i j)
        by_test true t h = absurd (cc)
        by_test false t h = (λ z. let s : true ≡ false = sym (eq-eqb ((q + 1) % (m + 1)) 0 z) ∙ t in cc, ap₂ with_first (cc) (cc))

    within : (q : ℕ) → q < prover_jobs m → prover_job m q ≡ Compares i j → q - q / (m + 1) < length (pairs m)
    within q l e = let r = row_number m q some l (compares q e).0 in let c = count_pairs m in omega (arith, r, c)

-- ---- the turn of a prover job
abbrev IsTurnOf : ℕ → ℕ → ℕ → Type 0
IsTurnOf improvers m q = (u : ℕ) × (u < turn_count improvers m) × (job improvers m u ≡ prover_job m q)

turn_of_prover : (improvers m q : ℕ) → q < prover_jobs m → IsTurnOf improvers m q
turn_of_prover improvers m q l = by_half (cases_lt q (min improvers (prover_jobs m)))
  where
    -- the job of a turn, by what the tests answer
    by_tests : (a b c : Bool) → ℕ → Job
    by_tests a b c u = cond a (cond b (improver_job m (u / 2)) (prover_job m ((u - 1) / 2))) (cond c (improver_job m (u - prover_jobs m)) (prover_job m (u - improvers)))

    among : q < min improvers (prover_jobs m) → job improvers m (2 * q + 1) ≡ prover_job m q
    among early =
        ap (λ (a : Bool). by_tests a ((2 * q + 1) % 2 == 0) (nat_lt (prover_jobs m) improvers) (2 * q + 1)) (lt-ltb (2 * q + 1) (2 * min improvers (prover_jobs m)) (omega (arith, early)))
        ∙ (ap (λ (b : Bool). by_tests true b (nat_lt (prover_jobs m) improvers) (2 * q + 1)) (ne_eqb ((2 * q + 1) % 2) 0 (λ e. omega (arith, e))) ∙ ap (prover_job m) (let e : (2 * q + 1 - 1) / 2 ≡ q = omega arith in e))

    behind : min improvers (prover_jobs m) ≤ q → job improvers m (q + improvers) ≡ prover_job m q
    behind late =
        ap (λ (a : Bool). by_tests a ((q + improvers) % 2 == 0) (nat_lt (prover_jobs m) improvers) (q + improvers)) (le-ltb (q + improvers) (2 * min improvers (prover_jobs m)) (omega (arith, late, l)))
        ∙ (ap (λ (c : Bool). by_tests false ((q + improvers) % 2 == 0) c (q + improvers)) (le-ltb (prover_jobs m) improvers (omega (arith, late, l))) ∙ ap (prover_job m) (let e : q + improvers - improvers ≡ q = omega arith in e))

    by_half : (q < min improvers (prover_jobs m)) ⊎ (min improvers (prover_jobs m) ≤ q) → IsTurnOf improvers m q
    by_half (inl early) = (2 * q + 1, omega (arith, l, early), among early)
    by_half (inr late) = (q + improvers, omega (arith, l), behind late)

pub turn_comparing : (improvers m i j : ℕ) → i < j → j < m → (u : ℕ) × (u < turn_count improvers m) × (job improvers m u ≡ Compares i j)
turn_comparing improvers m i j up below = by_place (place_of m i j up below)
  where
    some : 1 ≤ m
    some = omega (arith, below)

    early : (place : ℕ) → place < pair_count m → number_of m place < prover_jobs m
    early place l = let e = div-add-mod' place m in let d = le-div (place / m) (pair_count m) m (omega (arith, some)) (omega (arith, e, l)) in omega (arith, l, d)

    by_place : IsPlace (pairs m) i j → (u : ℕ) × (u < turn_count improvers m) × (job improvers m u ≡ Compares i j)
    by_place (place, l, h) = by_turn (turn_of_prover improvers m (number_of m place) (early place (let c = count_pairs m in omega (arith, l, c))))
      where
        by_turn : IsTurnOf improvers m (number_of m place) → (u : ℕ) × (u < turn_count improvers m) × (job improvers m u ≡ Compares i j)
        by_turn (u, w, e) = (u, w, e ∙ (job_at_place m place some ∙ ap compared h))

-- ---- and back: the number of a comparing turn among the prover jobs
pub record IsNumbered (improvers m i j u : ℕ) : Type 0 where
  pub number : ℕ
  pub there : number < prover_jobs m
  pub is : prover_job m number ≡ Compares i j
  pub turn : ((number < min improvers (prover_jobs m)) × (u ≡ 2 * number + 1)) ⊎ ((min improvers (prover_jobs m) ≤ number) × (u ≡ number + improvers))

not_improving : (m p i j : ℕ) → improver_job m p ≢ Compares i j
not_improving m p i j = by_test (p % 2 == 0)
  where
    by_test : (b : Bool) → cond b (Walks p) (Descends p (p / 2 % m)) ≢ Compares i j
    by_test true = λ e. absurd (cc)
    by_test false = λ e. absurd (cc)

numbered : (improvers m i j u : ℕ) → u < turn_count improvers m → job improvers m u ≡ Compares i j → IsNumbered improvers m i j u
numbered improvers m i j u l e = by_half (cases_lt u (2 * min improvers (prover_jobs m)))
  where
    by_tests : (a b c : Bool) → Job
    by_tests a b c = cond a (cond b (improver_job m (u / 2)) (prover_job m ((u - 1) / 2))) (cond c (improver_job m (u - prover_jobs m)) (prover_job m (u - improvers)))

    by_half : (u < 2 * min improvers (prover_jobs m)) ⊎ (2 * min improvers (prover_jobs m) ≤ u) → IsNumbered improvers m i j u
    by_half (inl early) = by_parity (u % 2 == 0) refl (sym (ap (λ (a : Bool). by_tests a (u % 2 == 0) (nat_lt (prover_jobs m) improvers)) (lt-ltb u (2 * min improvers (prover_jobs m)) early)) ∙ e)
      where
        by_parity : (b : Bool) → (u % 2 == 0) ≡ b → cond b (improver_job m (u / 2)) (prover_job m ((u - 1) / 2)) ≡ Compares i j → IsNumbered improvers m i j u
        by_parity true t h = absurd (not_improving m (u / 2) i j h)
        by_parity false t h =
            let odd : u % 2 ≢ 0 = (λ z. let s : true ≡ false = sym (eq-eqb (u % 2) 0 z) ∙ t in cc) in record {
              number = (u - 1) / 2;
              there = omega (arith, early, odd);
              is = h;
              turn = inl (omega (arith, early, odd), omega (arith, odd));
            }
    by_half (inr late) = by_side (cases_lt (prover_jobs m) improvers) (sym (ap (λ (a : Bool). by_tests a (u % 2 == 0) (nat_lt (prover_jobs m) improvers)) (le-ltb u (2 * min improvers (prover_jobs m)) late)) ∙ e)
      where
        by_side : (prover_jobs m < improvers) ⊎ (improvers ≤ prover_jobs m) → cond (nat_lt (prover_jobs m) improvers) (improver_job m (u - prover_jobs m)) (prover_job m (u - improvers)) ≡ Compares i j → IsNumbered improvers m i j u
        by_side (inl a) h = absurd (not_improving m (u - prover_jobs m) i j (sym (ap (λ (c : Bool). cond c (improver_job m (u - prover_jobs m)) (prover_job m (u - improvers))) (lt-ltb (prover_jobs m) improvers a)) ∙ h))
        by_side (inr a) h = record {
          number = u - improvers;
          there = omega (arith, a, late, l);
          is = sym (ap (λ (c : Bool). cond c (improver_job m (u - prover_jobs m)) (prover_job m (u - improvers))) (le-ltb (prover_jobs m) improvers a)) ∙ h;
          turn = inr (omega (arith, a, late), omega (arith, a, late));
        }

pub one_turn : (improvers m i j u v : ℕ) → u < turn_count improvers m → v < turn_count improvers m → job improvers m u ≡ Compares i j → job improvers m v ≡ Compares i j → u ≡ v
one_turn improvers m i j u v l k e f = by_numbers (numbered improvers m i j u l e) (numbered improvers m i j v k f)
  where
    by_numbers : IsNumbered improvers m i j u → IsNumbered improvers m i j v → u ≡ v
    by_numbers N O = by_sides (one_number m N.number O.number i j N.there O.there N.is O.is) N.turn O.turn
      where
        by_sides : N.number ≡ O.number → ((N.number < min improvers (prover_jobs m)) × (u ≡ 2 * N.number + 1)) ⊎ ((min improvers (prover_jobs m) ≤ N.number) × (u ≡ N.number + improvers))
            → ((O.number < min improvers (prover_jobs m)) × (v ≡ 2 * O.number + 1)) ⊎ ((min improvers (prover_jobs m) ≤ O.number) × (v ≡ O.number + improvers)) → u ≡ v
        by_sides n (inl (a, x)) (inl (b, y)) = omega (arith, n, x, y)
        by_sides n (inl (a, x)) (inr (b, y)) = absurd (omega (arith, n, a, b))
        by_sides n (inr (a, x)) (inl (b, y)) = absurd (omega (arith, n, a, b))
        by_sides n (inr (a, x)) (inr (b, y)) = omega (arith, n, x, y)
