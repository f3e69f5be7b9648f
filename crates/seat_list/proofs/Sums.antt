-- Sums over a list of views, where one of them changes.
use Rattle.std.proofs.Common.{◌≡◌, ◌≢◌, ℕ, zero, suc, ◌+◌, ◌≤◌, List, [], ◌∷◌, set, sym, refl, ap, arith}
use Rattle.std.specs.Prelude.{sum_by}
use Rattle.std.proofs.lemmas.List.Sums.{sum_by-cons}
use mathlib.Core.Option.{some, some-injective, some-ne-none}
use lib.ListN.{get_elem?}

module _ {A : Type 0} (f : A → ℕ) where
  -- one item gives place to another
  pub sum_by_exchange : (xs : List A) (i : ℕ) (v w : A) → get_elem? xs i ≡ some v → sum_by f (set xs i w) + f v ≡ sum_by f xs + f w
  sum_by_exchange [] i v w e = absurd (some-ne-none v (sym e))
  sum_by_exchange (x ∷ xs) zero v w e = let same : f x ≡ f v = ap f (some-injective x v e) in omega (arith, sum_by-cons f x xs, sum_by-cons f w xs)
  sum_by_exchange (x ∷ xs) (suc i) v w e = let h = sum_by_exchange xs i v w e in omega (arith, sum_by-cons f x xs, sum_by-cons f x (set xs i w))

  -- no item is above the sum
  pub sum_by_item : (xs : List A) (i : ℕ) (v : A) → get_elem? xs i ≡ some v → f v ≤ sum_by f xs
  sum_by_item [] i v e = absurd (some-ne-none v (sym e))
  sum_by_item (x ∷ xs) zero v e = let same : f x ≡ f v = ap f (some-injective x v e) in omega (arith, sum_by-cons f x xs)
  sum_by_item (x ∷ xs) (suc i) v e = let h = sum_by_item xs i v e in omega (arith, sum_by-cons f x xs)

  -- nor are two of them together
  pub sum_by_two : (xs : List A) (i j : ℕ) (v w : A) → get_elem? xs i ≡ some v → get_elem? xs j ≡ some w → i ≢ j → f v + f w ≤ sum_by f xs
  sum_by_two [] i j v w e e' n = absurd (some-ne-none v (sym e))
  sum_by_two (x ∷ xs) zero zero v w e e' n = absurd (n refl)
  sum_by_two (x ∷ xs) zero (suc j) v w e e' n = let same : f x ≡ f v = ap f (some-injective x v e) in let h = sum_by_item xs j w e' in omega (arith, sum_by-cons f x xs)
  sum_by_two (x ∷ xs) (suc i) zero v w e e' n = let same : f x ≡ f w = ap f (some-injective x w e') in let h = sum_by_item xs i v e in omega (arith, sum_by-cons f x xs)
  sum_by_two (x ∷ xs) (suc i) (suc j) v w e e' n = let h = sum_by_two xs i j v w e e' (λ z. n (ap suc z)) in omega (arith, sum_by-cons f x xs)

  sum_by_none : (xs : List A) → ((i : ℕ) (v : A) → get_elem? xs i ≡ some v → f v ≡ 0) → sum_by f xs ≡ 0
  sum_by_none [] h = refl
  sum_by_none (x ∷ xs) h = let a = h zero x refl in let b = sum_by_none xs (λ i. h (suc i)) in omega (arith, sum_by-cons f x xs)

  -- where all but one weigh nothing
  pub sum_by_lone : (xs : List A) (i : ℕ) (v : A) → get_elem? xs i ≡ some v → ((j : ℕ) (w : A) → j ≢ i → get_elem? xs j ≡ some w → f w ≡ 0) → sum_by f xs ≡ f v
  sum_by_lone [] i v e h = absurd (some-ne-none v (sym e))
  sum_by_lone (x ∷ xs) zero v e h =
      let same : f x ≡ f v = ap f (some-injective x v e) in let b = sum_by_none xs (λ j w. h (suc j) w (λ z. omega arith)) in omega (arith, sum_by-cons f x xs)
  sum_by_lone (x ∷ xs) (suc i) v e h =
      let a = h zero x (λ z. omega arith) refl in let b = sum_by_lone xs i v e (λ j w n. h (suc j) w (λ z. n (omega arith))) in omega (arith, sum_by-cons f x xs)

module _ {A : Type 0} (f g : A → ℕ) where
  -- where f is nowhere above g
  pub sum_by_below : (xs : List A) → ((i : ℕ) (v : A) → get_elem? xs i ≡ some v → f v ≤ g v) → sum_by f xs ≤ sum_by g xs
  sum_by_below [] h = omega arith
  sum_by_below (x ∷ xs) h = let a = h zero x refl in let b = sum_by_below xs (λ i. h (suc i)) in omega (arith, sum_by-cons f x xs, sum_by-cons g x xs)

  -- and then the whole gap is at least the gap at one place
  pub sum_by_gap : (xs : List A) (i : ℕ) (v : A) → get_elem? xs i ≡ some v → ((j : ℕ) (w : A) → get_elem? xs j ≡ some w → f w ≤ g w) → sum_by f xs + g v ≤ sum_by g xs + f v
  sum_by_gap [] i v e h = absurd (some-ne-none v (sym e))
  sum_by_gap (x ∷ xs) zero v e h =
      let same : f x ≡ f v = ap f (some-injective x v e) in let same' : g x ≡ g v = ap g (some-injective x v e) in let b = sum_by_below xs (λ j. h (suc j)) in
      omega (arith, sum_by-cons f x xs, sum_by-cons g x xs)
  sum_by_gap (x ∷ xs) (suc i) v e h = let a = h zero x refl in let b = sum_by_gap xs i v e (λ j. h (suc j)) in omega (arith, sum_by-cons f x xs, sum_by-cons g x xs)
