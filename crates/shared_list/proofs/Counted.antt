-- How often numbers stand in a list that has each number below its length.
use Rattle.std.proofs.Common.{◌≡◌, ◌≢◌, ℕ, zero, suc, ◌+◌, ◌-◌, ◌<◌, ◌≤◌, List, [], ◌∷◌, length, get_or, refl, ap, arith, subst, All, ⊎_elim}
use Rattle.std.specs.Prelude.{cond, not, nat_lt, ◌==◌, Contains}
use Rattle.std.proofs.lemmas.Bool.{cases_lt}
use Rattle.std.proofs.lemmas.Bool.Decides.{nat_tests}
use Rattle.std.proofs.lemmas.List.Sums.{sum_by-cons, get_or-le-sum_by}
use mathlib.Core.Logic.{dite}
use native.Mathlib.Decide.{ℕ_discrete}
use Rattle.claims.specs.Draws.{times, late, once_below}

one_other : (y x : ℕ) → y ≢ x → ◌≡◌ {A = ℕ} (cond (y == x) 1 0) 0
one_other y x n = grind (arith, nat_tests)

one_same : (y x : ℕ) → y ≡ x → ◌≡◌ {A = ℕ} (cond (y == x) 1 0) 1
one_same y x e = grind (arith, nat_tests)

-- what holds of each number of a list holds of a number that stands there
pub all_times : (P : ℕ → Type 0) (xs : List ℕ) (x : ℕ) → All P xs → 0 < times x xs → P x
all_times P [] x h some = absurd (omega arith)
all_times P (y ∷ ys) x h some = dite (ℕ_discrete y x)
    (λ e. subst P e (h 0 y (omega arith)))
    (λ n. all_times P ys x (λ k d lt. h (suc k) d (omega arith)) (let s = sum_by-cons (λ z. cond (z == x) 1 0) y ys in let z = one_other y x n in omega arith))

-- a number that the list has stands there
pub contains_times : (xs : List ℕ) (x : ℕ) → Contains xs x → 1 ≤ times x xs
contains_times xs x c = let at = get_or-le-sum_by (λ z. cond (z == x) 1 0) xs c.0 x c.1 in let one = one_same (get_or xs c.0 x) x c.2 in omega arith

-- a number that isn't below the end of the turns is another than each turn
pub times_late : (x n : ℕ) → x < n → times x (n ∷ []) ≡ 0
times_late x n h = grind (arith, nat_tests)

pub late_one : (t n : ℕ) → t ≤ n → late t (n ∷ []) ≡ 1
late_one t n h = grind (arith, nat_tests)

one_step : (m y : ℕ) → ◌≡◌ {A = ℕ} (cond (not (nat_lt y m)) 1 0) (cond (not (nat_lt y (m + 1))) 1 0 + cond (y == m) 1 0)
one_step m y = grind (arith, nat_tests)

-- the numbers from m on are m and those from m + 1 on
late_step : (m : ℕ) (xs : List ℕ) → late m xs ≡ late (m + 1) xs + times m xs
late_step m [] = refl
late_step m (y ∷ ys) = let again = late_step m ys in let one = one_step m y in
    omega (arith, sum_by-cons (λ z. cond (not (nat_lt z m)) 1 0) y ys, sum_by-cons (λ z. cond (not (nat_lt z (m + 1))) 1 0) y ys, sum_by-cons (λ z. cond (z == m) 1 0) y ys)

late_zero : (y : ℕ) → ◌≡◌ {A = ℕ} (cond (not (nat_lt y 0)) 1 0) 1
late_zero y = grind (arith, nat_tests)

late_all : (xs : List ℕ) → late 0 xs ≡ length xs
late_all [] = refl
late_all (y ∷ ys) = let again = late_all ys in let one = late_zero y in omega (arith, sum_by-cons (λ z. cond (not (nat_lt z 0)) 1 0) y ys)

late_falls : (m j : ℕ) (xs : List ℕ) → late (m + j) xs ≤ late m xs
late_falls m zero xs = let e : late (m + zero) xs ≡ late m xs = ap (λ k. late k xs) (omega arith) in omega arith
late_falls m (suc j) xs = let again = late_falls m j xs in let s = late_step (m + j) xs in
    let e : late (m + suc j) xs ≡ late (m + j + 1) xs = ap (λ k. late k xs) (omega arith) in omega arith

-- where each number from m on, for j numbers, stands in the list
late_counts : (m j : ℕ) (xs : List ℕ) → ((x : ℕ) → m ≤ x → x < m + j → 1 ≤ times x xs) → late (m + j) xs + j ≤ late m xs
late_counts m zero xs has = let e : late (m + zero) xs ≡ late m xs = ap (λ k. late k xs) (omega arith) in omega arith
late_counts m (suc j) xs has = let again = late_counts m j xs (λ x l r. has x l (omega arith)) in let s = late_step (m + j) xs in let one = has (m + j) (omega arith) (omega arith) in
    let e : late (m + suc j) xs ≡ late (m + j + 1) xs = ap (λ k. late k xs) (omega arith) in omega arith

pub once_in : (x n : ℕ) → x < n → once_below n x ≡ 1
once_in x n h = grind (arith, nat_tests)

once_out : (x n : ℕ) → n ≤ x → once_below n x ≡ 0
once_out x n h = grind (arith, nat_tests)

-- a list that has each number below its length has each once, and no other
pub each_once : (xs : List ℕ) (n : ℕ) → length xs ≡ n → ((x : ℕ) → x < n → 1 ≤ times x xs) → (x : ℕ) → times x xs ≡ once_below n x
each_once xs n len has x = let all = late_all xs in let step = late_step x xs in ⊎_elim
    (λ (l : x < n). let rest : ℕ = n - (x + 1) in
    let before = late_counts 0 x xs (λ y _ r. has y (omega arith)) in let after = late_counts (x + 1) rest xs (λ y _ r. has y (omega arith)) in
    let from_zero : late (0 + x) xs ≡ late x xs = ap (λ k. late k xs) (omega arith) in let one = has x l in let e = once_in x n l in omega arith)
    (λ (l : n ≤ x). let none = late_counts 0 n xs (λ y _ r. has y (omega arith)) in let falls = late_falls n (x - n) xs in
    let from_zero : late (0 + n) xs ≡ late n xs = ap (λ k. late k xs) (omega arith) in let same : late (n + (x - n)) xs ≡ late x xs = ap (λ k. late k xs) (omega arith) in let e = once_out x n l in omega arith)
    (cases_lt x n)
