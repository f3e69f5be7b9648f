-- Sums over the numbers below n.
use Rattle.std.proofs.Common.{◌≡◌, ◌≢◌, ◌⊎◌, inl, inr, ℕ, zero, suc, ◌+◌, ◌*◌, ◌<◌, ◌≤◌, Bool, true, false, eqb, eqb→eq, T, refl, sym, ap, ap₂, ◌∙◌, subst, arith}
use lib.Dec.{eqb_refl}
use native.Mathlib.Decide.{ℕ_discrete}

abbrev pub total : ℕ → (ℕ → ℕ) → ℕ
total zero f = 0
total (suc n) f = f n + total n f

pub same : (n : ℕ) (f g : ℕ → ℕ) → ((k : ℕ) → k < n → f k ≡ g k) → total n f ≡ total n g
same zero f g h = refl
same (suc n) f g h = ap₂ ◌+◌ (h n (omega arith)) (same n f g (λ k l. h k (omega arith)))

pub at_most : (n : ℕ) (f g : ℕ → ℕ) → ((k : ℕ) → k < n → f k ≤ g k) → total n f ≤ total n g
at_most zero f g h = omega arith
at_most (suc n) f g h = let one = h n (omega arith) in let rest = at_most n f g (λ k l. h k (omega arith)) in omega (arith, one, rest)

pub added : (n : ℕ) (f g : ℕ → ℕ) → total n (λ k. f k + g k) ≡ total n f + total n g
added zero f g = refl
added (suc n) f g = let e = added n f g in omega (arith, e)

pub scaled : (n c : ℕ) (f : ℕ → ℕ) → total n (λ k. c * f k) ≡ c * total n f
scaled zero c f = omega arith
scaled (suc n) c f = let e = scaled n c f in spread (c * f n) (f n) (total n f) _ refl e
  where
    spread : (x u v w : ℕ) → x ≡ c * u → w ≡ c * v → x + w ≡ c * (u + v)
    spread x u v w e f = ap₂ ◌+◌ e f ∙ sym (Rattle.std.proofs.Common.mul-add c u v)

pub nothing : (n : ℕ) (f : ℕ → ℕ) → ((k : ℕ) → k < n → f k ≡ 0) → total n f ≡ 0
nothing zero f h = refl
nothing (suc n) f h = let one = h n (omega arith) in let rest = nothing n f (λ k l. h k (omega arith)) in omega (arith, one, rest)

pub swapped : (n m : ℕ) (f : ℕ → ℕ → ℕ) → total n (λ x. total m (λ y. f x y)) ≡ total m (λ y. total n (λ x. f x y))
swapped zero m f = sym (nothing m (λ y. 0) (λ k l. refl))
swapped (suc n) m f = ap (λ t. total m (λ y. f n y) + t) (swapped n m f) ∙ sym (added m (λ y. f n y) (λ y. total n (λ x. f x y)))

-- a sum that isn't 0 has a term that isn't
pub some_term : (n : ℕ) (f : ℕ → ℕ) → 0 < total n f → (k : ℕ) × (k < n) × (0 < f k)
some_term zero f h = absurd (omega (arith, h))
some_term (suc n) f h = by_test (ℕ_discrete (f n) 0) (λ l. some_term n f l)
  where
    by_test : Dec (f n ≡ 0) → (0 < total n f → (k : ℕ) × (k < n) × (0 < f k)) → (k : ℕ) × (k < suc n) × (0 < f k)
    by_test (no ne) _ = (n, omega arith, omega (arith, ne))
    by_test (yes e) again = let found = again (omega (arith, e, h)) in (found.0, earlier found.0 found.1, found.2)
      where
        earlier : (k : ℕ) → k < n → k < suc n
        earlier k l = omega arith

-- where at most one term isn't 0, and none is above 1, neither is the sum
pub at_most_one : (n : ℕ) (f : ℕ → ℕ) → ((k : ℕ) → k < n → f k ≤ 1) → ((k l : ℕ) → k < n → l < n → 0 < f k → 0 < f l → k ≡ l) → total n f ≤ 1
at_most_one zero f h one = omega arith
at_most_one (suc n) f h one = by_test (ℕ_discrete (f n) 0) (at_most_one n f (λ k l. h k (omega arith)) (λ k l hk hl. one k l (omega arith) (omega arith)))
  where
    by_test : Dec (f n ≡ 0) → total n f ≤ 1 → total (suc n) f ≤ 1
    by_test (yes e) rest = omega (arith, e, rest)
    by_test (no ne) rest = let e = nothing n f others in let l = h n (omega arith) in omega (arith, e, l)
      where
        others : (k : ℕ) → k < n → f k ≡ 0
        others k l = zero_by (ℕ_discrete (f k) 0)
          where
            zero_by : Dec (f k ≡ 0) → f k ≡ 0
            zero_by (yes z) = z
            zero_by (no nz) = absurd (let e = one k n (omega arith) (omega arith) (omega (arith, nz)) (omega (arith, ne)) in omega (arith, e, l))

-- ---- pairs and triples
abbrev pub total₂ : ℕ → (ℕ → ℕ → ℕ) → ℕ
total₂ n f = total n (λ x. total n (λ y. f x y))

abbrev pub total₃ : ℕ → (ℕ → ℕ → ℕ → ℕ) → ℕ
total₃ n f = total n (λ x. total n (λ y. total n (λ z. f x y z)))

pub same₂ : (n : ℕ) (f g : ℕ → ℕ → ℕ) → ((x y : ℕ) → x < n → y < n → f x y ≡ g x y) → total₂ n f ≡ total₂ n g
same₂ n f g h = same n _ _ (λ x hx. same n _ _ (λ y hy. h x y hx hy))

pub same₃ : (n : ℕ) (f g : ℕ → ℕ → ℕ → ℕ) → ((x y z : ℕ) → x < n → y < n → z < n → f x y z ≡ g x y z) → total₃ n f ≡ total₃ n g
same₃ n f g h = same n _ _ (λ x hx. same n _ _ (λ y hy. same n _ _ (λ z hz. h x y z hx hy hz)))

pub at_most₂ : (n : ℕ) (f g : ℕ → ℕ → ℕ) → ((x y : ℕ) → x < n → y < n → f x y ≤ g x y) → total₂ n f ≤ total₂ n g
at_most₂ n f g h = at_most n _ _ (λ x hx. at_most n _ _ (λ y hy. h x y hx hy))

pub at_most₃ : (n : ℕ) (f g : ℕ → ℕ → ℕ → ℕ) → ((x y z : ℕ) → x < n → y < n → z < n → f x y z ≤ g x y z) → total₃ n f ≤ total₃ n g
at_most₃ n f g h = at_most n _ _ (λ x hx. at_most n _ _ (λ y hy. at_most n _ _ (λ z hz. h x y z hx hy hz)))

pub added₂ : (n : ℕ) (f g : ℕ → ℕ → ℕ) → total₂ n (λ x y. f x y + g x y) ≡ total₂ n f + total₂ n g
added₂ n f g = same n _ _ (λ x hx. added n (f x) (g x)) ∙ added n (λ x. total n (f x)) (λ x. total n (g x))

pub added₃ : (n : ℕ) (f g : ℕ → ℕ → ℕ → ℕ) → total₃ n (λ x y z. f x y z + g x y z) ≡ total₃ n f + total₃ n g
added₃ n f g = same n _ _ (λ x hx. added₂ n (f x) (g x)) ∙ added n (λ x. total₂ n (f x)) (λ x. total₂ n (g x))

pub swapped₂ : (n : ℕ) (f : ℕ → ℕ → ℕ) → total₂ n f ≡ total₂ n (λ x y. f y x)
swapped₂ n f = swapped n n f

-- a sum over triples begins at any corner
pub turned₃ : (n : ℕ) (f : ℕ → ℕ → ℕ → ℕ) → total₃ n (λ x y z. f y z x) ≡ total₃ n f
turned₃ n f = swapped n n (λ x y. total n (λ z. f y z x)) ∙ same n _ _ (λ y hy. swapped n n (λ x z. f y z x))

pub one₂ : (n : ℕ) (f : ℕ → ℕ → ℕ) → ((x y : ℕ) → x < n → y < n → f x y ≤ 1) → ((x y u v : ℕ) → x < n → y < n → u < n → v < n → 0 < f x y → 0 < f u v → (x ≡ u) × (y ≡ v)) → total₂ n f ≤ 1
one₂ n f h one = at_most_one n (λ x. total n (f x)) row one_row
  where
    row : (x : ℕ) → x < n → total n (f x) ≤ 1
    row x hx = at_most_one n (f x) (λ y hy. h x y hx hy) (λ y v hy hv p q. (one x y x v hx hy hx hv p q).1)

    one_row : (x u : ℕ) → x < n → u < n → 0 < total n (f x) → 0 < total n (f u) → x ≡ u
    one_row x u hx hu p q =
        let a = some_term n (f x) p in let b = some_term n (f u) q in
        (one x a.0 u b.0 hx a.1 hu b.1 a.2 b.2).0

-- ---- one for a truth
abbrev pub one : Bool → ℕ
one true = 1
one false = 0

pub one_low : (b : Bool) → one b ≤ 1
one_low true = omega arith
one_low false = omega arith

pub one_means : (b : Bool) → 0 < one b → T b
one_means true h = tt
one_means false h = absurd (omega (arith, h))

pub one_shown : (b : Bool) → T b → one b ≡ 1
one_shown true t = refl
one_shown false t = absurd t

pub none_shown : (b : Bool) → ¬ T b → one b ≡ 0
none_shown true t = absurd (t tt)
none_shown false t = refl

-- ---- a single triple
abbrev pub here : ℕ → ℕ → ℕ
here a k = one (eqb a k)

pub here_once : (n a : ℕ) → a < n → total n (here a) ≡ 1
here_once zero a h = absurd (omega (arith, h))
here_once (suc n) a h = by_test (ℕ_discrete a n) (λ l. here_once n a l)
  where
    by_test : Dec (a ≡ n) → (a < n → total n (here a) ≡ 1) → total (suc n) (here a) ≡ 1
    by_test (yes e) _ = let first : here a n ≡ 1 = subst (λ t. here a t ≡ 1) e (one_shown (eqb a a) (eqb_refl a)) in let rest = nothing n (here a) (λ k l. none_shown (eqb a k) (λ t. differ (eqb→eq a k t) e l)) in omega (arith, first, rest)
      where
        differ : {k : ℕ} → a ≡ k → a ≡ n → k < n → ⊥
        differ {k} e f l = omega (arith, e, f, l)
    by_test (no ne) again = let first : here a n ≡ 0 = none_shown (eqb a n) (λ t. ne (eqb→eq a n t)) in let rest = again (omega (arith, h, ne)) in omega (arith, first, rest)

abbrev pub spot : ℕ → ℕ → ℕ → ℕ → ℕ → ℕ → ℕ
spot a b c x y z = here a x * (here b y * here c z)

pub spot_once : (n a b c : ℕ) → a < n → b < n → c < n → total₃ n (spot a b c) ≡ 1
spot_once n a b c ha hb hc =
    same n _ _ (λ x hx. same n _ _ (λ y hy. scaled n (here a x) (λ z. here b y * here c z) ∙ ap (λ t. here a x * t) (scaled n (here b y) (here c) ∙ ap (λ t. here b y * t) (here_once n c hc))) ∙ scaled n (here a x) (λ y. here b y * 1) ∙ ap (λ t. here a x * t) (same n _ _ (λ y hy. Rattle.std.proofs.Common.mul-one (here b y)) ∙ here_once n b hb))
    ∙ same n _ _ (λ x hx. Rattle.std.proofs.Common.mul-one (here a x)) ∙ here_once n a ha

-- the triple is there, or the value is 0
pub spot_cases : (a b c x y z : ℕ) → (spot a b c x y z ≡ 0) ⊎ ((spot a b c x y z ≡ 1) × (a ≡ x) × (b ≡ y) × (c ≡ z))
spot_cases a b c x y z = by_tests (ℕ_discrete a x) (ℕ_discrete b y) (ℕ_discrete c z)
  where
    zero_first : (u v : ℕ) → u ≡ 0 → u * v ≡ 0
    zero_first u v e = ap (λ t. t * v) e ∙ Rattle.std.proofs.Common.zero-mul v

    zero_last : (u v : ℕ) → v ≡ 0 → u * v ≡ 0
    zero_last u v e = ap (λ t. u * t) e ∙ Rattle.std.proofs.Common.mul-zero u

    off : (i k : ℕ) → i ≢ k → here i k ≡ 0
    off i k ne = none_shown (eqb i k) (λ t. ne (eqb→eq i k t))

    on : (i k : ℕ) → i ≡ k → here i k ≡ 1
    on i k e = subst (λ t. here i t ≡ 1) e (one_shown (eqb i i) (eqb_refl i))

    by_tests : Dec (a ≡ x) → Dec (b ≡ y) → Dec (c ≡ z) → (spot a b c x y z ≡ 0) ⊎ ((spot a b c x y z ≡ 1) × (a ≡ x) × (b ≡ y) × (c ≡ z))
    by_tests (no n) _ _ = inl (zero_first (here a x) (here b y * here c z) (off a x n))
    by_tests (yes e) (no n) _ = inl (zero_last (here a x) (here b y * here c z) (zero_first (here b y) (here c z) (off b y n)))
    by_tests (yes e) (yes f) (no n) = inl (zero_last (here a x) (here b y * here c z) (zero_last (here b y) (here c z) (off c z n)))
    by_tests (yes e) (yes f) (yes g) = inr (ap₂ ◌*◌ (on a x e) (ap₂ ◌*◌ (on b y f) (on c z g)), e, f, g)
