-- Places in the plane that need not be points of the list: how each lies to the ways between the points.
use Rattle.std.proofs.Common.{◌≡◌, ◌≢◌, ℕ, zero, suc, ◌<◌, ℤ, pos, negsuc, ◌+ℤ◌, ◌*ℤ◌, ◌≤ℤ◌, neg_ℤ, [], ◌∷◌, sym, ap, ap₂, ◌∙◌, subst, arith}
use Rattle.std.proofs.lemmas.Int.{ints}
use native.Mathlib.Decide.{ℕ_discrete}
use Rattle.geo_orient.proofs.Ring.{solve}
use Rattle.geo_orient.proofs.Ring.Term.{var, plus, times, minus, num}
use Rattle.geo_orient.proofs.IntSigns.{IsPos, mul_pos, mul_at_least}
use Rattle.tri_theory.proofs.Plane.{Plane, mirror, negs}

-- `turn a b` is positive where the place is left of the way from a to b. `size` is how much larger the numbers are than those of points
pub record Spot (S : Plane) : Type 0 where
  pub size : ℤ
  pub large : IsPos size
  pub turn : ℕ → ℕ → ℤ
  pub swap : (a b : ℕ) → turn b a ≡ neg_ℤ (turn a b)
  pub summed : (a b c : ℕ) → turn a b +ℤ turn b c +ℤ turn c a ≡ size *ℤ S.o a b c
  pub exchange : (r a b c : ℕ) → S.o r a c *ℤ turn r b ≡ S.o r a b *ℤ turn r c +ℤ S.o r b c *ℤ turn r a

-- the place lies on no line of two points
abbrev pub IsFree : (S : Plane) → Spot S → Type 0
IsFree S C = (x y : ℕ) → x < S.n → y < S.n → x ≢ y → C.turn x y ≢ pos 0

-- it lies inside the triangle a, b, c
pub record IsInside (S : Plane) (C : Spot S) (a b c : ℕ) : Type 0 where
  pub ab : IsPos (C.turn a b)
  pub bc : IsPos (C.turn b c)
  pub ca : IsPos (C.turn c a)

pub once : (z : ℤ) → z ≡ pos 1 *ℤ z
once z = solve (z ∷ []) (var 0) (times (num (pos 1)) (var 0)) tt

-- a point
abbrev pub corner : (S : Plane) → ℕ → Spot S
corner S p = record {
  size = pos 1;
  large = omega (arith, ints);
  turn = λ a b. S.o a b p;
  swap = λ a b. S.swap a b p;
  summed = λ a b c. S.summed a b c p ∙ once (S.o a b c);
  exchange = λ r a b c. S.exchange r a b c p;
}

-- ---- a place between two places
pub mixed_swap : (l m a b a' b' : ℤ) → a' ≡ neg_ℤ a → b' ≡ neg_ℤ b → l *ℤ a' +ℤ m *ℤ b' ≡ neg_ℤ (l *ℤ a +ℤ m *ℤ b)
mixed_swap l m a b a' b' e f =
    ap₂ (λ s t. l *ℤ s +ℤ m *ℤ t) e f
    ∙ solve (l ∷ m ∷ a ∷ b ∷ []) (plus (times (var 0) (minus (var 2))) (times (var 1) (minus (var 3)))) (minus (plus (times (var 0) (var 2)) (times (var 1) (var 3)))) tt

pub mixed_sum : (l m a b c a' b' c' k k' w : ℤ) → a +ℤ b +ℤ c ≡ k *ℤ w → a' +ℤ b' +ℤ c' ≡ k' *ℤ w → (l *ℤ a +ℤ m *ℤ a') +ℤ (l *ℤ b +ℤ m *ℤ b') +ℤ (l *ℤ c +ℤ m *ℤ c') ≡ (l *ℤ k +ℤ m *ℤ k') *ℤ w
mixed_sum l m a b c a' b' c' k k' w e f =
    solve (l ∷ m ∷ a ∷ b ∷ c ∷ a' ∷ b' ∷ c' ∷ [])
    (plus (plus (plus (times (var 0) (var 2)) (times (var 1) (var 5))) (plus (times (var 0) (var 3)) (times (var 1) (var 6)))) (plus (times (var 0) (var 4)) (times (var 1) (var 7))))
    (plus (times (var 0) (plus (plus (var 2) (var 3)) (var 4))) (times (var 1) (plus (plus (var 5) (var 6)) (var 7)))) tt
    ∙ ap₂ (λ s t. l *ℤ s +ℤ m *ℤ t) e f
    ∙ solve (l ∷ m ∷ k ∷ k' ∷ w ∷ []) (plus (times (var 0) (times (var 2) (var 4))) (times (var 1) (times (var 3) (var 4)))) (times (plus (times (var 0) (var 2)) (times (var 1) (var 3))) (var 4)) tt

pub mixed_exchange : (l m u s v b c a b' c' a' : ℤ) → u *ℤ b ≡ s *ℤ c +ℤ v *ℤ a → u *ℤ b' ≡ s *ℤ c' +ℤ v *ℤ a' → u *ℤ (l *ℤ b +ℤ m *ℤ b') ≡ s *ℤ (l *ℤ c +ℤ m *ℤ c') +ℤ v *ℤ (l *ℤ a +ℤ m *ℤ a')
mixed_exchange l m u s v b c a b' c' a' e f =
    solve (l ∷ m ∷ u ∷ b ∷ b' ∷ []) (times (var 2) (plus (times (var 0) (var 3)) (times (var 1) (var 4)))) (plus (times (var 0) (times (var 2) (var 3))) (times (var 1) (times (var 2) (var 4)))) tt
    ∙ ap₂ (λ s t. l *ℤ s +ℤ m *ℤ t) e f
    ∙ solve (l ∷ m ∷ s ∷ v ∷ c ∷ a ∷ c' ∷ a' ∷ [])
    (plus (times (var 0) (plus (times (var 2) (var 4)) (times (var 3) (var 5)))) (times (var 1) (plus (times (var 2) (var 6)) (times (var 3) (var 7)))))
    (plus (times (var 2) (plus (times (var 0) (var 4)) (times (var 1) (var 6)))) (times (var 3) (plus (times (var 0) (var 5)) (times (var 1) (var 7))))) tt

pub both_large : (x y : ℤ) → IsPos x → IsPos y → IsPos (x +ℤ y)
both_large x y h k = omega (arith, ints)

abbrev pub mix : (S : Plane) → Spot S → Spot S → (l m : ℤ) → IsPos l → IsPos m → Spot S
mix S A B l m hl hm = record {
  size = l *ℤ A.size +ℤ m *ℤ B.size;
  large = both_large (l *ℤ A.size) (m *ℤ B.size) (mul_pos l A.size hl A.large) (mul_pos m B.size hm B.large);
  turn = λ a b. l *ℤ A.turn a b +ℤ m *ℤ B.turn a b;
  swap = λ a b. mixed_swap l m (A.turn a b) (B.turn a b) (A.turn b a) (B.turn b a) (A.swap a b) (B.swap a b);
  summed = λ a b c. mixed_sum l m (A.turn a b) (A.turn b c) (A.turn c a) (B.turn a b) (B.turn b c) (B.turn c a) A.size B.size (S.o a b c) (A.summed a b c) (B.summed a b c);
  exchange = λ r a b c. mixed_exchange l m (S.o r a c) (S.o r a b) (S.o r b c) (A.turn r b) (A.turn r c) (A.turn r a) (B.turn r b) (B.turn r c) (B.turn r a) (A.exchange r a b c) (B.exchange r a b c);
}

-- ---- a number that outweighs some numbers
abbrev up : ℤ → ℤ
up (pos n) = pos 1
up (negsuc n) = pos (suc (suc n))

up_pos : (z : ℤ) → IsPos (up z)
up_pos (pos n) = omega (arith, ints)
up_pos (negsuc n) = omega (arith, ints)

up_over : (z : ℤ) → IsPos (up z +ℤ z)
up_over (pos n) = omega (arith, ints)
up_over (negsuc n) = omega (arith, ints)

outweigh : (n : ℕ) (f : ℕ → ℤ) → (w : ℤ) × IsPos w × ((k : ℕ) → k < n → IsPos (w +ℤ f k))
outweigh zero f = (pos 1, omega (arith, ints), λ k l. absurd (omega (arith, l)))
outweigh (suc n) f = step (outweigh n f)
  where
    step : (w : ℤ) × IsPos w × ((k : ℕ) → k < n → IsPos (w +ℤ f k)) → (w : ℤ) × IsPos w × ((k : ℕ) → k < suc n → IsPos (w +ℤ f k))
    step (w, h, g) = (w +ℤ up (f n), both_large w (up (f n)) h (up_pos (f n)), λ k l. by_test k l (ℕ_discrete k n))
      where
        longer : (x y z : ℤ) → IsPos (x +ℤ z) → IsPos y → IsPos ((x +ℤ y) +ℤ z)
        longer x y z p q = omega (arith, ints)

        last : (x y z : ℤ) → IsPos x → IsPos (y +ℤ z) → IsPos ((x +ℤ y) +ℤ z)
        last x y z p q = omega (arith, ints)

        by_test : (k : ℕ) → k < suc n → Dec (k ≡ n) → IsPos ((w +ℤ up (f n)) +ℤ f k)
        by_test k l (yes e) = subst (λ t. IsPos ((w +ℤ up (f n)) +ℤ f t)) (sym e) (last w (up (f n)) (f n) h (up_over (f n)))
        by_test k l (no ne) = longer w (up (f n)) (f k) (g k (omega (arith, l, ne))) (up_pos (f n))

outweigh₂ : (n : ℕ) (f : ℕ → ℕ → ℤ) → (w : ℤ) × IsPos w × ((x y : ℕ) → x < n → y < n → IsPos (w +ℤ f x y))
outweigh₂ n f = step (outweigh n (λ x. neg_ℤ (rows x).0))
  where
    rows : (x : ℕ) → (w : ℤ) × IsPos w × ((k : ℕ) → k < n → IsPos (w +ℤ f x k))
    rows x = outweigh n (f x)

    over : (w r z : ℤ) → IsPos (w +ℤ neg_ℤ r) → IsPos (r +ℤ z) → IsPos (w +ℤ z)
    over w r z p q = omega (arith, ints)

    step : (w : ℤ) × IsPos w × ((k : ℕ) → k < n → IsPos (w +ℤ neg_ℤ (rows k).0)) → (w : ℤ) × IsPos w × ((x y : ℕ) → x < n → y < n → IsPos (w +ℤ f x y))
    step (w, h, g) = (w, h, λ x y hx hy. over w (rows x).0 (f x y) (g x hx) ((rows x).2 y hy))

-- ---- a place so near to one, in the direction of another, that it is on the same side of each way that the one isn't on
pub record IsNear (S : Plane) (A B C : Spot S) : Type 0 where
  pub kept : (x y : ℕ) → x < S.n → y < S.n → IsPos (A.turn x y) → IsPos (C.turn x y)
  pub moved : (x y : ℕ) → A.turn x y ≡ pos 0 → C.turn x y ≡ B.turn x y

pub near : (S : Plane) (A B : Spot S) → (C : Spot S) × IsNear S A B C
near S A B = step (outweigh₂ S.n B.turn)
  where
    step : (w : ℤ) × IsPos w × ((x y : ℕ) → x < S.n → y < S.n → IsPos (w +ℤ B.turn x y)) → (C : Spot S) × IsNear S A B C
    step (w, h, g) = (
      mix S A B w (pos 1) h (omega (arith, ints)),
      record {
        kept = λ x y hx hy p. heavy (A.turn x y) (B.turn x y) p (g x y hx hy);
        moved = λ x y e. light (A.turn x y) (B.turn x y) e;
      },
    )
      where
        heavier : (u v t z : ℤ) → u ≡ v +ℤ t → pos 0 ≤ℤ t → IsPos (v +ℤ z) → IsPos (u +ℤ pos 1 *ℤ z)
        heavier u v t z e k p = let f = once z in omega (arith, ints, e, f, k, p)

        less_one : (a : ℤ) → IsPos a → pos 0 ≤ℤ (a +ℤ negsuc 0)
        less_one a p = omega (arith, ints)

        weak : (a : ℤ) → IsPos a → pos 0 ≤ℤ a
        weak a p = omega (arith, ints)

        parted : (a : ℤ) → w *ℤ a ≡ w +ℤ w *ℤ (a +ℤ negsuc 0)
        parted a = solve (w ∷ a ∷ []) (times (var 0) (var 1)) (plus (var 0) (times (var 0) (plus (var 1) (num (negsuc 0))))) tt

        heavy : (a b : ℤ) → IsPos a → IsPos (w +ℤ b) → IsPos (w *ℤ a +ℤ pos 1 *ℤ b)
        heavy a b p q = heavier (w *ℤ a) w (w *ℤ (a +ℤ negsuc 0)) b (parted a) (mul_at_least w (a +ℤ negsuc 0) (weak w h) (less_one a p)) q

        light : (a b : ℤ) → a ≡ pos 0 → w *ℤ a +ℤ pos 1 *ℤ b ≡ b
        light a b e = ap (λ t. w *ℤ t +ℤ pos 1 *ℤ b) e ∙ solve (w ∷ b ∷ []) (plus (times (var 0) (num (pos 0))) (times (num (pos 1)) (var 1))) (var 1) tt

-- ---- in the mirror
pub mirrored_sum : (x y z w : ℤ) → x +ℤ z +ℤ y ≡ w → x +ℤ y +ℤ z ≡ w
mirrored_sum x y z w e = omega (arith, ints, e)

abbrev pub mirror_spot : (S : Plane) → Spot S → Spot (mirror S)
mirror_spot S C = record {
  size = C.size;
  large = C.large;
  turn = λ a b. C.turn b a;
  swap = λ a b. C.swap b a;
  summed = λ a b c. mirrored_sum (C.turn b a) (C.turn c b) (C.turn a c) (C.size *ℤ S.o b a c) (C.summed b a c);
  exchange = λ r a b c.
      negs (S.o r a c) (C.turn r b) _ _ (S.swap r a c) (C.swap r b) ∙ C.exchange r a b c
      ∙ sym (ap₂ ◌+ℤ◌ (negs (S.o r a b) (C.turn r c) _ _ (S.swap r a b) (C.swap r c)) (negs (S.o r b c) (C.turn r a) _ _ (S.swap r b c) (C.swap r a)));
}
