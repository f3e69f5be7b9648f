-- Sums over the numbers below a number, and how many items of a list pass a test.
use Rattle.std.proofs.Common.{◌≡◌, ◌⊎◌, inl, inr, ℕ, zero, suc, ◌+◌, ◌<◌, ◌≤◌, Bool, true, false, cond, eqb, eq-eqb, ne_eqb, Some, List, [], ◌∷◌, length, refl, sym, ap, arith}
use Rattle.std.specs.Prelude.{slice_get, sum_by, count_by}
use Rattle.std.proofs.lemmas.Bool.{cases_lt}
use Rattle.std.proofs.lemmas.List.Sums.{sum_by-cons}

-- the sum over the numbers below n
abbrev pub sum_below : (ℕ → ℕ) → ℕ → ℕ
sum_below g zero = 0
sum_below g (suc n) = sum_below g n + g n

pub below_same : (g h : ℕ → ℕ) (n : ℕ) → ((k : ℕ) → k < n → g k ≡ h k) → sum_below g n ≡ sum_below h n
below_same g h zero same = refl
below_same g h (suc n) same = let r = below_same g h n (λ k l. same k (omega (arith, l))) in let s = same n (omega arith) in omega (arith, r, s)

pub below_none : (g : ℕ → ℕ) (n : ℕ) → ((k : ℕ) → k < n → g k ≡ 0) → sum_below g n ≡ 0
below_none g zero none = refl
below_none g (suc n) none = let r = below_none g n (λ k l. none k (omega (arith, l))) in let s = none n (omega arith) in omega (arith, r, s)

below_add : (g h : ℕ → ℕ) (n : ℕ) → sum_below (λ k. g k + h k) n ≡ sum_below g n + sum_below h n
below_add g h zero = refl
below_add g h (suc n) = let r = below_add g h n in omega (arith, r)

below_first : (g : ℕ → ℕ) (n : ℕ) → sum_below g (suc n) ≡ g 0 + sum_below (λ k. g (suc k)) n
below_first g zero = omega arith
below_first g (suc n) = let r = below_first g n in omega (arith, r)

-- where one number alone counts
pub below_lone : (p : ℕ) (g : ℕ → ℕ) (n : ℕ) → p < n → sum_below (λ k. cond (eqb p k) (g k) 0) n ≡ g p
below_lone p g zero l = absurd (omega (arith, l))
below_lone p g (suc n) l = by_place (cases_lt p n) (λ m. below_lone p g n m)
  where
    by_place : (p < n) ⊎ (n ≤ p) → (p < n → sum_below (λ k. cond (eqb p k) (g k) 0) n ≡ g p) → sum_below (λ k. cond (eqb p k) (g k) 0) (suc n) ≡ g p
    by_place (inl m) again =
        let r = again m in
        let off : cond (eqb p n) (g n) 0 ≡ 0 = ap (λ (b : Bool). cond b (g n) 0) (ne_eqb p n (λ e. omega (arith, m, e))) in
        omega (arith, r, off)
    by_place (inr m) again =
        let e : p ≡ n = omega (arith, l, m) in
        let none = below_none (λ k. cond (eqb p k) (g k) 0) n (λ k d. ap (λ (b : Bool). cond b (g k) 0) (ne_eqb p k (λ i. omega (arith, m, d, i)))) in
        let on : cond (eqb p n) (g n) 0 ≡ g n = ap (λ (b : Bool). cond b (g n) 0) (eq-eqb p n e) in
        let i : g p ≡ g n = ap g e in
        omega (arith, none, on, i)

-- numbers of which none is above 1, and that add up to as many as there are
below_most : (g : ℕ → ℕ) (n : ℕ) → ((k : ℕ) → g k ≤ 1) → sum_below g n ≤ n
below_most g zero most = omega arith
below_most g (suc n) most = let r = below_most g n most in let s = most n in omega (arith, r, s)

pub all_ones : (g : ℕ → ℕ) (n : ℕ) → ((k : ℕ) → g k ≤ 1) → sum_below g n ≡ n → (k : ℕ) → k < n → g k ≡ 1
all_ones g zero most sum k l = absurd (omega (arith, l))
all_ones g (suc n) most sum k l = by_place (cases_lt k n) (λ s m. all_ones g n most s k m)
  where
    by_place : (k < n) ⊎ (n ≤ k) → (sum_below g n ≡ n → k < n → g k ≡ 1) → g k ≡ 1
    by_place (inl m) again = let r = below_most g n most in let s = most n in again (omega (arith, r, s, sum)) m
    by_place (inr m) again = let r = below_most g n most in let s = most n in let e : k ≡ n = omega (arith, l, m) in let i : g k ≡ g n = ap g e in omega (arith, r, s, sum, i)

-- what a sequence that never rises falls by
pub falls_by : (total fall : ℕ → ℕ) (n : ℕ) → ((k : ℕ) → k < n → total (k + 1) + fall k ≡ total k) → total n + sum_below fall n ≡ total 0
falls_by total fall zero each = omega arith
falls_by total fall (suc n) each =
    let r = falls_by total fall n (λ k l. each k (omega (arith, l))) in let s = each n (omega arith) in
    let e : total (n + 1) ≡ total (suc n) = ap total (omega arith) in
    omega (arith, r, s, e)

-- ---- sums over lists
module _ {X : Type 0} where
  pub sum_same : (f g : X → ℕ) (xs : List X) → ((u : ℕ) (x : X) → slice_get xs u ≡ Some x → f x ≡ g x) → sum_by f xs ≡ sum_by g xs
  sum_same f g [] same = refl
  sum_same f g (x ∷ xs) same = let r = sum_same f g xs (λ u y e. same (suc u) y e) in let s = same 0 x refl in omega (arith, r, s, sum_by-cons f x xs, sum_by-cons g x xs)

  pub sum_add : (f g h : X → ℕ) (xs : List X) → ((x : X) → h x ≡ f x + g x) → sum_by h xs ≡ sum_by f xs + sum_by g xs
  sum_add f g h [] add = refl
  sum_add f g h (x ∷ xs) add = let r = sum_add f g h xs add in let s = add x in omega (arith, r, s, sum_by-cons f x xs, sum_by-cons g x xs, sum_by-cons h x xs)

  pub exchange : (h : X → ℕ → ℕ) (xs : List X) (n : ℕ) → sum_by (λ x. sum_below (h x) n) xs ≡ sum_below (λ k. sum_by (λ x. h x k) xs) n
  exchange h [] n = sym (below_none (λ k. sum_by (λ x. h x k) []) n (λ k l. refl))
  exchange h (x ∷ xs) n =
      let r = exchange h xs n in
      let a = sum_by-cons (λ y. sum_below (h y) n) x xs in
      let b = below_same (λ k. sum_by (λ y. h y k) (x ∷ xs)) (λ k. h x k + sum_by (λ y. h y k) xs) n (λ k l. sum_by-cons (λ y. h y k) x xs) in
      let c = below_add (h x) (λ k. sum_by (λ y. h y k) xs) n in
      omega (arith, r, a, b, c)

  -- what an item at a place counts
  abbrev pub count_at : (X → ℕ) → List X → ℕ → ℕ
  count_at f [] n = 0
  count_at f (x ∷ xs) zero = f x
  count_at f (x ∷ xs) (suc n) = count_at f xs n

  pub count_there : (f : X → ℕ) (xs : List X) (n : ℕ) (x : X) → slice_get xs n ≡ Some x → count_at f xs n ≡ f x
  count_there f [] n x e = absurd (cc)
  count_there f (y ∷ xs) zero x e = let i : y ≡ x = cc in ap f i
  count_there f (y ∷ xs) (suc n) x e = count_there f xs n x e

  pub sum_places : (f : X → ℕ) (xs : List X) → sum_below (count_at f xs) (length xs) ≡ sum_by f xs
  sum_places f [] = refl
  sum_places f (x ∷ xs) = let r = sum_places f xs in let a = below_first (count_at f (x ∷ xs)) (length xs) in omega (arith, r, a, sum_by-cons f x xs)

-- ---- how many items pass a test
module _ {X : Type 0} (p : X → Bool) where
  pub none_pass : (xs : List X) → ((u : ℕ) (x : X) → slice_get xs u ≡ Some x → p x ≡ false) → count_by p xs ≡ 0
  none_pass [] none = refl
  none_pass (x ∷ xs) none =
      let r = none_pass xs (λ u y e. none (suc u) y e) in
      let off : ◌≡◌ {A = ℕ} (cond (p x) 1 0) 0 = ap (λ (b : Bool). cond b 1 0) (none 0 x refl) in
      omega (arith, r, off, sum_by-cons (λ y. cond (p y) 1 0) x xs)

  abbrev AtOnePlace : List X → Type 0
  AtOnePlace xs = (u v : ℕ) (x y : X) → slice_get xs u ≡ Some x → slice_get xs v ≡ Some y → p x ≡ true → p y ≡ true → u ≡ v

  pub one_passes : (xs : List X) → AtOnePlace xs → count_by p xs ≤ 1
  one_passes [] one = omega arith
  one_passes (x ∷ xs) one = by_test (p x) refl (one_passes xs (λ u v y z d e s t. let i = one (suc u) (suc v) y z d e s t in omega (arith, i)))
    where
      apart : p x ≡ true → (u : ℕ) (y : X) → slice_get xs u ≡ Some y → (b : Bool) → p y ≡ b → p y ≡ false
      apart t u y e true h = absurd (let i = one 0 (suc u) x y refl e t h in omega (arith, i))
      apart t u y e false h = h

      by_test : (b : Bool) → p x ≡ b → count_by p xs ≤ 1 → count_by p (x ∷ xs) ≤ 1
      by_test true t rest =
          let none = none_pass xs (λ u y e. apart t u y e (p y) refl) in
          let on : ◌≡◌ {A = ℕ} (cond (p x) 1 0) 1 = ap (λ (b : Bool). cond b 1 0) t in
          omega (arith, none, on, sum_by-cons (λ y. cond (p y) 1 0) x xs)
      by_test false t rest =
          let off : ◌≡◌ {A = ℕ} (cond (p x) 1 0) 0 = ap (λ (b : Bool). cond b 1 0) t in
          omega (arith, rest, off, sum_by-cons (λ y. cond (p y) 1 0) x xs)

  abbrev pub Passes : List X → Type 0
  Passes xs = (u : ℕ) × (x : X) × (slice_get xs u ≡ Some x) × (p x ≡ true)

  pub some_passes : (xs : List X) → 1 ≤ count_by p xs → Passes xs
  some_passes [] some = absurd (let z : count_by p [] ≡ 0 = refl in omega (arith, some, z))
  some_passes (x ∷ xs) some = by_test (p x) refl (λ l. some_passes xs l)
    where
      later : Passes xs → Passes (x ∷ xs)
      later (u, y, e, t) = (suc u, y, e, t)

      by_test : (b : Bool) → p x ≡ b → (1 ≤ count_by p xs → Passes xs) → Passes (x ∷ xs)
      by_test true t again = (0, x, refl, t)
      by_test false t again =
          let off : ◌≡◌ {A = ℕ} (cond (p x) 1 0) 0 = ap (λ (b : Bool). cond b 1 0) t in
          later (again (omega (arith, some, off, sum_by-cons (λ y. cond (p y) 1 0) x xs)))

  -- a number that counts once
  worth_none : (k : ℕ) (xs : List X) → count_by p xs ≡ 0 → sum_by (λ x. cond (p x) k 0) xs ≡ 0
  worth_none k [] none = refl
  worth_none k (x ∷ xs) none = by_test (p x) refl (λ e. worth_none k xs e)
    where
      by_test : (b : Bool) → p x ≡ b → (count_by p xs ≡ 0 → sum_by (λ x. cond (p x) k 0) xs ≡ 0) → sum_by (λ x. cond (p x) k 0) (x ∷ xs) ≡ 0
      by_test true t again =
          let on : ◌≡◌ {A = ℕ} (cond (p x) 1 0) 1 = ap (λ (b : Bool). cond b 1 0) t in
          absurd (omega (arith, none, on, sum_by-cons (λ y. cond (p y) 1 0) x xs))
      by_test false t again =
          let off : ◌≡◌ {A = ℕ} (cond (p x) 1 0) 0 = ap (λ (b : Bool). cond b 1 0) t in
          let low : cond (p x) k 0 ≡ 0 = ap (λ (b : Bool). cond b k 0) t in
          let r = again (omega (arith, none, off, sum_by-cons (λ y. cond (p y) 1 0) x xs)) in
          omega (arith, r, low, sum_by-cons (λ y. cond (p y) k 0) x xs)

  pub worth_once : (k : ℕ) (xs : List X) → count_by p xs ≡ 1 → sum_by (λ x. cond (p x) k 0) xs ≡ k
  worth_once k [] one = absurd (let z : count_by p [] ≡ 0 = refl in omega (arith, one, z))
  worth_once k (x ∷ xs) one = by_test (p x) refl (λ e. worth_once k xs e)
    where
      by_test : (b : Bool) → p x ≡ b → (count_by p xs ≡ 1 → sum_by (λ x. cond (p x) k 0) xs ≡ k) → sum_by (λ x. cond (p x) k 0) (x ∷ xs) ≡ k
      by_test true t again =
          let on : ◌≡◌ {A = ℕ} (cond (p x) 1 0) 1 = ap (λ (b : Bool). cond b 1 0) t in
          let high : cond (p x) k 0 ≡ k = ap (λ (b : Bool). cond b k 0) t in
          let r = worth_none k xs (omega (arith, one, on, sum_by-cons (λ y. cond (p y) 1 0) x xs)) in
          omega (arith, r, high, sum_by-cons (λ y. cond (p y) k 0) x xs)
      by_test false t again =
          let off : ◌≡◌ {A = ℕ} (cond (p x) 1 0) 0 = ap (λ (b : Bool). cond b 1 0) t in
          let low : cond (p x) k 0 ≡ 0 = ap (λ (b : Bool). cond b k 0) t in
          let r = again (omega (arith, one, off, sum_by-cons (λ y. cond (p y) 1 0) x xs)) in
          omega (arith, r, low, sum_by-cons (λ y. cond (p y) k 0) x xs)
