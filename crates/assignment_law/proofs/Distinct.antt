-- Sums over distinct numbers: over a permutation a sum is that over the numbers themselves.
use Rattle.std.proofs.Common.{◌≡◌, ◌≢◌, ◌⊎◌, inl, inr, ℕ, zero, suc, ◌+◌, ◌<◌, ◌≤◌, List, [], ◌∷◌, length, Contains, refl, sym, ap, ◌∙◌, subst, arith}
use native.Mathlib.Decide.{ℕ_discrete}
use Rattle.std.specs.Prelude.{AllPairs, sum_by}
use Rattle.std.proofs.lemmas.List.Sums.{sum_by-cons}
use Rattle.assignment_law.specs.Assignments.{IsAssignment}

has_here : (j i : ℕ) (is : List ℕ) → i ≡ j → Contains (i ∷ is) j
has_here j i is h = (0, omega arith, h)

has_later : (j i : ℕ) (is : List ℕ) → Contains is j → Contains (i ∷ is) j
has_later j i is (k, l, h) = (suc k, omega arith, h)

has_cases : (j i : ℕ) (is : List ℕ) → Contains (i ∷ is) j → (i ≡ j) ⊎ Contains is j
has_cases j i is (zero, l, h) = inl h
has_cases j i is (suc k, l, h) = inr (k, omega arith, h)

abbrev AreApart : List ℕ → Type 0
AreApart [] = Unit {0}
AreApart (i ∷ is) = (¬ Contains is i) × AreApart is

apart_of : (is : List ℕ) → AllPairs (λ i j. i ≢ j) is → AreApart is
apart_of [] d = tt
apart_of (i ∷ is) d = (λ h. first h, apart_of is (λ a b e h k. d (suc a) (suc b) e (omega arith) (omega arith)))
  where
    first : Contains is i → ⊥
    first (k, l, h) = d 0 (suc k) i (omega arith) (omega arith) (sym h)

module _ (f : ℕ → ℕ) where
  -- a list without one of its members
  abbrev Less : List ℕ → ℕ → Type 0
  Less is j = (js : List ℕ) × (length is ≡ suc (length js)) × (sum_by f is ≡ f j + sum_by f js) × ((k : ℕ) → Contains is k → k ≢ j → Contains js k)

  less : (is : List ℕ) (j : ℕ) → Contains is j → Less is j
  less [] j (k, l, h) = absurd (omega arith)
  less (i ∷ is) j h = by_cases (has_cases j i is h) (λ k. less is j k)
    where
      kept : i ≡ j → (k : ℕ) → k ≢ j → (i ≡ k) ⊎ Contains is k → Contains is k
      kept e k ne (inl g) = absurd (ne (sym g ∙ e))
      kept e k ne (inr g) = g

      deeper : Less is j → Less (i ∷ is) j
      deeper (js, l, e, m) = (i ∷ js, omega arith, omega (arith, e, sum_by-cons f i is, sum_by-cons f i js), λ k h ne. sort k ne (has_cases k i is h))
        where
          sort : (k : ℕ) → k ≢ j → (i ≡ k) ⊎ Contains is k → Contains (i ∷ js) k
          sort k ne (inl g) = has_here k i js g
          sort k ne (inr g) = has_later k i js (m k g ne)

      by_cases : (i ≡ j) ⊎ Contains is j → (Contains is j → Less is j) → Less (i ∷ is) j
      by_cases (inl e) _ = (is, refl, sum_by-cons f i is ∙ ap (λ z. f z + sum_by f is) e, λ k h ne. kept e k ne (has_cases k i is h))
      by_cases (inr k) again = deeper (again k)

  -- distinct members of a list, as many as it has, sum up to as much
  sum_whole : (js is : List ℕ) → AreApart js → ((k : ℕ) → Contains js k → Contains is k) → length is ≤ length js → sum_by f is ≡ sum_by f js
  sum_whole [] [] d m l = refl
  sum_whole [] (i ∷ is) d m l = absurd (omega arith)
  sum_whole (j ∷ js) is d m l = by_less (less is j (m j (has_here j j js refl))) (λ ks n k. sum_whole js ks d.1 n k)
    where
      by_less : Less is j → ((ks : List ℕ) → ((k : ℕ) → Contains js k → Contains ks k) → length ks ≤ length js → sum_by f ks ≡ sum_by f js) → sum_by f is ≡ sum_by f (j ∷ js)
      by_less (ks, k, e, n) again =
          let h = again ks (λ k g. n k (m k (has_later k j js g)) (λ i. d.0 (subst (Contains js) i g))) (omega arith) in
          omega (arith, e, h, sum_by-cons f j js)

-- the numbers below n
abbrev pub numbers : ℕ → List ℕ
numbers zero = []
numbers (suc n) = n ∷ numbers n

below_listed : (n j : ℕ) → j < n → Contains (numbers n) j
below_listed zero j h = absurd (omega arith)
below_listed (suc n) j h = by_test (ℕ_discrete n j) (λ l. below_listed n j l)
  where
    by_test : Dec (n ≡ j) → (j < n → Contains (numbers n) j) → Contains (numbers (suc n)) j
    by_test (yes e) _ = has_here j n (numbers n) e
    by_test (no ne) again = has_later j n (numbers n) (again (omega arith))

pub length-numbers : (n : ℕ) → length (numbers n) ≡ n
length-numbers zero = refl
length-numbers (suc n) = ap suc (length-numbers n)

assigned_listed : (n : ℕ) (assignment : List ℕ) → IsAssignment n assignment → (k : ℕ) → Contains assignment k → Contains (numbers n) k
assigned_listed n assignment A k (p, l, e) = below_listed n k (subst (λ z. z < n) e (A.below p k l))

-- over an assignment a sum is that over the numbers
pub assigned_sum : (f : ℕ → ℕ) (n : ℕ) (assignment : List ℕ) → IsAssignment n assignment → sum_by f (numbers n) ≡ sum_by f assignment
assigned_sum f n assignment A =
    sum_whole f assignment (numbers n) (apart_of assignment A.distinct) (assigned_listed n assignment A) (let l = A.long in omega (arith, length-numbers n, l))
