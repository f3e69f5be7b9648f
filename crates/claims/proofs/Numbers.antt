-- How often a number stands in a list, and how many numbers are late.
use Rattle.std.proofs.Common.{◌≡◌, ℕ, zero, suc, ◌+◌, ◌-◌, ◌<◌, ◌≤◌, List, [], ◌∷◌, ◌++◌, refl, arith, All}
use Rattle.std.specs.Prelude.{cond, not, nat_lt, ◌==◌}
use Rattle.std.proofs.lemmas.Bool.Decides.{nat_tests}
use Rattle.std.proofs.lemmas.List.Sums.{sum_by-cons, sum_by-append}
use mathlib.Core.Option.{some, some-injective, some-ne-none}
use lib.ListN.{get_elem?}
use Rattle.std.proofs.Common.{get_or, sym}
use Rattle.claims.specs.Draws.{times, late, once_below}

pub times-append : (x : ℕ) (xs ys : List ℕ) → times x (xs ++ ys) ≡ times x xs + times x ys
times-append x xs ys = sum_by-append (λ y. cond (y == x) 1 0) xs ys

pub late-append : (n : ℕ) (xs ys : List ℕ) → late n (xs ++ ys) ≡ late n xs + late n ys
late-append n xs ys = sum_by-append (λ y. cond (not (nat_lt y n)) 1 0) xs ys

-- a number below n isn't late
early : (n x : ℕ) → x < n → ◌≡◌ {A = ℕ} (cond (not (nat_lt x n)) 1 0) 0
early n x h = grind (arith, nat_tests)

pub late-none : (n : ℕ) (xs : List ℕ) → All (λ x. x < n) xs → late n xs ≡ 0
late-none n [] h = refl
late-none n (x ∷ xs) h = let rest = late-none n xs (λ j d lt. h (suc j) d (omega arith)) in let a = early n x (h zero x (omega arith)) in omega (arith, sum_by-cons (λ y. cond (not (nat_lt y n)) 1 0) x xs)

-- the number n joins those below n
pub once_more : (x n : ℕ) → once_below n x + times x (n ∷ []) ≡ once_below (n + 1) x
once_more x n = grind (arith, nat_tests)

pub late_lone : (t n : ℕ) → late t (n ∷ []) ≤ 1
late_lone t n = grind (arith, nat_tests)

pub late_more : (t n : ℕ) → (n - t) + late t (n ∷ []) ≡ (n + 1) - t
late_more t n = grind (arith, nat_tests)

-- the first word
pub at_zero : (xs : List ℕ) (a : ℕ) → get_elem? xs 0 ≡ some a → get_or xs 0 0 ≡ a
at_zero [] a e = absurd (some-ne-none a (sym e))
at_zero (x ∷ xs) a e = some-injective x a e
