-- Lists in strictly ascending order.
use Rattle.std.proofs.Common.{◌≡◌, ◌⊎◌, inl, inr, ℕ, zero, suc, ◌<◌, min, Bool, true, false, cond, List, [], ◌∷◌, length, get_or, take, Contains, map, refl, sym, ap, ap₂, ◌∙◌, subst, subst₂, arith}
use Rattle.std.specs.List.{AllPairs, filter}
use Rattle.std.proofs.lemmas.Bool.{false≢true}
use Rattle.std.proofs.lemmas.List.{get_or-take, length-take, get_or_default}
use Rattle.std.proofs.lemmas.List.Elements.{Contains-get_or}

-- ---- members
module _ {X : Type 0} where
  pub in_front : (x y : X) (xs : List X) → y ≡ x → Contains (y ∷ xs) x
  in_front x y xs e = (0, omega arith, e)

  pub in_rest : (x y : X) (xs : List X) → Contains xs x → Contains (y ∷ xs) x
  in_rest x y xs (k, l, e) = (suc k, omega (arith, l), e)

  pub in_cases : (x y : X) (xs : List X) → Contains (y ∷ xs) x → (y ≡ x) ⊎ Contains xs x
  in_cases x y xs (zero, l, e) = inl e
  in_cases x y xs (suc k, l, e) = inr (k, omega (arith, l), e)

  pub in_none : (x : X) → Contains [] x → ⊥
  in_none x (k, l, e) = omega (arith, l)

  pub in_taken : (n : ℕ) (xs : List X) (x : X) → Contains (take n xs) x → Contains xs x
  in_taken n xs x (k, l, e) = (k, omega (arith, l, length-take n xs), sym (get_or-take n xs k x (omega (arith, l, length-take n xs))) ∙ e)

  pub at_place : (xs : List X) (d x : X) → Contains xs x → (k : ℕ) × (k < length xs) × (x ≡ get_or xs k d)
  at_place xs d x (k, l, e) = (k, l, sym e ∙ get_or_default xs k x d l)

  pub in_map : {Y : Type 0} (f : X → Y) (xs : List X) (x : X) → Contains xs x → Contains (map f xs) (f x)
  in_map f [] x h = absurd (in_none x h)
  in_map {Y} f (y ∷ xs) x h = by_cases (in_cases x y xs h) (λ k. in_map f xs x k)
    where
      by_cases : (y ≡ x) ⊎ Contains xs x → (Contains xs x → Contains (map f xs) (f x)) → Contains (map f (y ∷ xs)) (f x)
      by_cases (inl e) _ = (0, omega arith, ap f e)
      by_cases (inr k) again = later (again k)
        where
          later : Contains (map f xs) (f x) → Contains (map f (y ∷ xs)) (f x)
          later (i, l, e) = (suc i, omega (arith, l), e)

  pub from_map : {Y : Type 0} (f : X → Y) (xs : List X) (z : Y) → Contains (map f xs) z → (x : X) × Contains xs x × (f x ≡ z)
  from_map f [] z (k, l, e) = absurd (omega (arith, l))
  from_map f (y ∷ xs) z (zero, l, e) = (y, in_front y y xs refl, e)
  from_map {Y} f (y ∷ xs) z (suc k, l, e) = later (from_map f xs z (k, omega (arith, l), e))
    where
      later : (x : X) × Contains xs x × (f x ≡ z) → (x : X) × Contains (y ∷ xs) x × (f x ≡ z)
      later (x, h, g) = (x, in_rest x y xs h, g)

-- ---- pairs in order
module _ {X : Type 0} (R : X → X → Type 0) where
  pub pairs_head : (x : X) (xs : List X) → AllPairs R (x ∷ xs) → (z : X) → Contains xs z → R x z
  pairs_head x xs A z (k, l, e) = subst (λ t. R x t) e (A 0 (suc k) z (omega arith) (omega (arith, l)))

  pub pairs_tail : (x : X) (xs : List X) → AllPairs R (x ∷ xs) → AllPairs R xs
  pairs_tail x xs A i j d l k = A (suc i) (suc j) d (omega (arith, l)) (omega (arith, k))

  pub pairs_cons : (x : X) (xs : List X) → ((z : X) → Contains xs z → R x z) → AllPairs R xs → AllPairs R (x ∷ xs)
  pairs_cons x xs first A zero zero d l k = absurd (omega (arith, l))
  pairs_cons x xs first A zero (suc j) d l k = first (get_or xs j d) (Contains-get_or xs j d (omega (arith, k)))
  pairs_cons x xs first A (suc i) zero d l k = absurd (omega (arith, l))
  pairs_cons x xs first A (suc i) (suc j) d l k = A i j d (omega (arith, l)) (omega (arith, k))

  pub pairs_taken : (n : ℕ) (xs : List X) → AllPairs R xs → AllPairs R (take n xs)
  pairs_taken n xs A i j d l k = subst₂ R (sym (get_or-take n xs i d (omega (arith, l, k, s)))) (sym (get_or-take n xs j d (omega (arith, k, s)))) (A i j d l (omega (arith, k, s)))
    where
      s : length (take n xs) ≡ min n (length xs)
      s = length-take n xs

  -- two lists in order with the same members are equal
  pub one_order : ((x y : X) → R x y → R y x → ⊥) → (xs ys : List X) → AllPairs R xs → AllPairs R ys → ((z : X) → Contains xs z → Contains ys z) → ((z : X) → Contains ys z → Contains xs z) → xs ≡ ys
  one_order one_way [] [] A B to from = refl
  one_order one_way [] (y ∷ ys) A B to from = absurd (in_none y (from y (in_front y y ys refl)))
  one_order one_way (x ∷ xs) [] A B to from = absurd (in_none x (to x (in_front x x xs refl)))
  one_order one_way (x ∷ xs) (y ∷ ys) A B to from = ap₂ ◌∷◌ same (one_order one_way xs ys (pairs_tail x xs A) (pairs_tail y ys B) rest_to rest_from)
    where
      by_heads : (y ≡ x) ⊎ Contains ys x → (x ≡ y) ⊎ Contains xs y → x ≡ y
      by_heads (inl e) _ = sym e
      by_heads (inr h) (inl e) = e
      by_heads (inr h) (inr k) = absurd (one_way x y (pairs_head x xs A y k) (pairs_head y ys B x h))

      same : x ≡ y
      same = by_heads (in_cases x y ys (to x (in_front x x xs refl))) (in_cases y x xs (from y (in_front y y ys refl)))

      rest_to : (z : X) → Contains xs z → Contains ys z
      rest_to z h = by_case (in_cases z y ys (to z (in_rest z x xs h)))
        where
          by_case : (y ≡ z) ⊎ Contains ys z → Contains ys z
          by_case (inl e) = let r : R z z = subst (λ t. R t z) (same ∙ e) (pairs_head x xs A z h) in absurd (one_way z z r r)
          by_case (inr k) = k

      rest_from : (z : X) → Contains ys z → Contains xs z
      rest_from z h = by_case (in_cases z x xs (from z (in_rest z y ys h)))
        where
          by_case : (x ≡ z) ⊎ Contains xs z → Contains xs z
          by_case (inl e) = let r : R z z = subst (λ t. R t z) (sym same ∙ e) (pairs_head y ys B z h) in absurd (one_way z z r r)
          by_case (inr k) = k

-- ---- what a test keeps
module _ {X : Type 0} (test : X → Bool) where
  kept_cases : (x y : X) (xs : List X) (t : Bool) → test y ≡ t → Contains (cond t (y ∷ filter test xs) (filter test xs)) x → ((y ≡ x) × (test x ≡ true)) ⊎ Contains (filter test xs) x
  kept_cases x y xs true e h = by_case (in_cases x y (filter test xs) h)
    where
      by_case : (y ≡ x) ⊎ Contains (filter test xs) x → ((y ≡ x) × (test x ≡ true)) ⊎ Contains (filter test xs) x
      by_case (inl f) = inl (f, subst (λ z. test z ≡ true) f e)
      by_case (inr k) = inr k
  kept_cases x y xs false e h = inr h

  pub kept_sound : (xs : List X) (x : X) → Contains (filter test xs) x → Contains xs x × (test x ≡ true)
  kept_sound [] x h = absurd (in_none x h)
  kept_sound (y ∷ xs) x h = by_case (kept_cases x y xs (test y) refl h) (λ k. kept_sound xs x k)
    where
      by_case : ((y ≡ x) × (test x ≡ true)) ⊎ Contains (filter test xs) x → (Contains (filter test xs) x → Contains xs x × (test x ≡ true)) → Contains (y ∷ xs) x × (test x ≡ true)
      by_case (inl p) _ = (in_front x y xs p.0, p.1)
      by_case (inr k) again = let p = again k in (in_rest x y xs p.0, p.1)

  pub kept_all : (xs : List X) (x : X) → Contains xs x → test x ≡ true → Contains (filter test xs) x
  kept_all [] x h e = absurd (in_none x h)
  kept_all (y ∷ xs) x h e = by_case (in_cases x y xs h) (test y) refl (λ k. kept_all xs x k e)
    where
      by_case : (y ≡ x) ⊎ Contains xs x → (t : Bool) → test y ≡ t → (Contains xs x → Contains (filter test xs) x) → Contains (cond t (y ∷ filter test xs) (filter test xs)) x
      by_case (inl f) true g again = in_front x y (filter test xs) f
      by_case (inl f) false g again = absurd (false≢true (sym g ∙ ap test f ∙ e))
      by_case (inr k) true g again = in_rest x y (filter test xs) (again k)
      by_case (inr k) false g again = again k

  pub kept_pairs : (R : X → X → Type 0) (xs : List X) → AllPairs R xs → AllPairs R (filter test xs)
  kept_pairs R [] A = A
  kept_pairs R (y ∷ xs) A = by_case (test y) (kept_pairs R xs (pairs_tail R y xs A))
    where
      by_case : (t : Bool) → AllPairs R (filter test xs) → AllPairs R (cond t (y ∷ filter test xs) (filter test xs))
      by_case true B = pairs_cons R y (filter test xs) (λ z h. pairs_head R y xs A z (kept_sound xs z h).0) B
      by_case false B = B
