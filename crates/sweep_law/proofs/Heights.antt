-- How points lie to each other, by their heights.
use Rattle.std.proofs.Common.{◌≡◌, ℕ, ◌<◌, ℤ, pos, ◌+ℤ◌, ◌*ℤ◌, neg_ℤ, ◌<ℤ◌, ◌≤ℤ◌, [], ◌∷◌, ap, ◌∙◌, arith}
use Rattle.std.proofs.lemmas.Int.{ints}
use Rattle.geo_orient.proofs.Ring.{solve}
use Rattle.geo_orient.proofs.Ring.Term.{var, plus, times, minus}
use Rattle.geo_orient.proofs.IntSigns.{IsPos, mul_at_least, factor_zero, first_pos, none_neg}
use Rattle.tri_theory.proofs.Plane.{Plane, mirror, left, turned, back_turned}
use Rattle.planar_law.proofs.Slopes.{Slope}

pub negated : (x y : ℤ) → neg_ℤ x ≡ neg_ℤ y → x ≡ y
negated x y e = omega (arith, ints, e)

pub turned_over : (a b c p u v w : ℤ) → a *ℤ (w +ℤ neg_ℤ p) +ℤ b *ℤ (u +ℤ neg_ℤ p) +ℤ c *ℤ (v +ℤ neg_ℤ p) ≡ pos 0
    → a *ℤ (neg_ℤ w +ℤ neg_ℤ (neg_ℤ p)) +ℤ b *ℤ (neg_ℤ u +ℤ neg_ℤ (neg_ℤ p)) +ℤ c *ℤ (neg_ℤ v +ℤ neg_ℤ (neg_ℤ p)) ≡ pos 0
turned_over a b c p u v w e =
    solve (a ∷ b ∷ c ∷ p ∷ u ∷ v ∷ w ∷ [])
    (plus (plus (times (var 0) (plus (minus (var 6)) (minus (minus (var 3))))) (times (var 1) (plus (minus (var 4)) (minus (minus (var 3)))))) (times (var 2) (plus (minus (var 5)) (minus (minus (var 3))))))
    (minus (plus (plus (times (var 0) (plus (var 6) (minus (var 3)))) (times (var 1) (plus (var 4) (minus (var 3))))) (times (var 2) (plus (var 5) (minus (var 3)))))) tt
    ∙ ap neg_ℤ e

pub neg_product : (a b u : ℤ) → a ≡ neg_ℤ b → a *ℤ u ≡ neg_ℤ (b *ℤ u)
neg_product a b u e = ap (λ t. t *ℤ u) e ∙ solve (b ∷ u ∷ []) (times (minus (var 0)) (var 1)) (minus (times (var 0) (var 1))) tt

neg_second : (a u v : ℤ) → a *ℤ (u +ℤ neg_ℤ v) ≡ neg_ℤ (a *ℤ (v +ℤ neg_ℤ u))
neg_second a u v = solve (a ∷ u ∷ v ∷ []) (times (var 0) (plus (var 1) (minus (var 2)))) (minus (times (var 0) (plus (var 2) (minus (var 1))))) tt

pub all_turned : (a b c a' b' c' u v w : ℤ) → a' ≡ neg_ℤ a → b' ≡ neg_ℤ b → c' ≡ neg_ℤ c → a *ℤ u +ℤ b *ℤ v +ℤ c *ℤ w ≡ pos 0 → a' *ℤ u +ℤ b' *ℤ v +ℤ c' *ℤ w ≡ pos 0
all_turned a b c a' b' c' u v w e f g z =
    let i = neg_product a' a u e in let j = neg_product b' b v f in let k = neg_product c' c w g in
    omega (arith, ints, i, j, k, z)

-- the heights from above
abbrev pub fallen : (S : Plane) → Slope S → Slope S
fallen S H = record {
  h = λ i. neg_ℤ (H.h i);
  balance = λ p u v w hp hu hv hw. turned_over (S.o p u v) (S.o p v w) (S.o p w u) (H.h p) (H.h u) (H.h v) (H.h w) (H.balance p u v w hp hu hv hw);
  distinct = λ a b ha hb e. H.distinct a b ha hb (negated (H.h a) (H.h b) e);
}

-- and in the mirror
abbrev pub reflected : (S : Plane) → Slope S → Slope (mirror S)
reflected S H = record {
  h = H.h;
  balance = λ p u v w hp hu hv hw.
      all_turned (S.o p u v) (S.o p v w) (S.o p w u) (S.o u p v) (S.o v p w) (S.o w p u) (H.h w +ℤ neg_ℤ (H.h p)) (H.h u +ℤ neg_ℤ (H.h p)) (H.h v +ℤ neg_ℤ (H.h p))
      (S.swap p u v) (S.swap p v w) (S.swap p w u) (H.balance p u v w hp hu hv hw);
  distinct = H.distinct;
}

-- ---- heights and their differences
rise_pos : (x y : ℤ) → x <ℤ y → IsPos (y +ℤ neg_ℤ x)
rise_pos x y h = omega (arith, ints)

rise_low : (x y : ℤ) → x <ℤ y → pos 0 ≤ℤ (y +ℤ neg_ℤ x)
rise_low x y h = omega (arith, ints)

rise : (x y : ℤ) → x ≤ℤ y → pos 0 ≤ℤ (y +ℤ neg_ℤ x)
rise x y h = omega (arith, ints)

pub over : (x y : ℤ) → x <ℤ y → neg_ℤ y <ℤ neg_ℤ x
over x y h = omega (arith, ints)

pub over_weak : (x y : ℤ) → x ≤ℤ y → neg_ℤ y ≤ℤ neg_ℤ x
over_weak x y h = omega (arith, ints)

pub weak : (z : ℤ) → IsPos z → pos 0 ≤ℤ z
weak z h = omega (arith, ints)

pub lt_le : (x y : ℤ) → x <ℤ y → x ≤ℤ y
lt_le x y h = omega (arith, ints)

pub lt_join : (x y z : ℤ) → x <ℤ y → y <ℤ z → x <ℤ z
lt_join x y z h k = omega (arith, ints)

-- ---- sums of two products
moved : (a b c c' u v w : ℤ) → a *ℤ u +ℤ b *ℤ v +ℤ c *ℤ w ≡ pos 0 → c ≡ neg_ℤ c' → c' *ℤ w ≡ a *ℤ u +ℤ b *ℤ v
moved a b c c' u v w e f = let g = neg_product c c' w f in omega (arith, ints, e, g)

moved_two : (a b b' c c' u x y w : ℤ) → a *ℤ u +ℤ b *ℤ (x +ℤ neg_ℤ y) +ℤ c *ℤ w ≡ pos 0 → b ≡ neg_ℤ b' → c ≡ neg_ℤ c' → c' *ℤ w ≡ a *ℤ u +ℤ b' *ℤ (y +ℤ neg_ℤ x)
moved_two a b b' c c' u x y w e f g =
    let i = neg_product b b' (x +ℤ neg_ℤ y) f in let j = neg_second b' x y in let k = neg_product c c' w g in
    omega (arith, ints, e, i, j, k)

second_zero : (u v s t w r : ℤ) → u *ℤ v ≡ s *ℤ t +ℤ w *ℤ r → u ≡ pos 0 → pos 0 ≤ℤ s → pos 0 ≤ℤ t → pos 0 ≤ℤ w → IsPos r → w ≡ pos 0
second_zero u v s t w r e z hs ht hw hr = factor_zero w r (none (u *ℤ v) (s *ℤ t) (w *ℤ r) e (ap (λ k. k *ℤ v) z) (mul_at_least s t hs ht) (mul_at_least w r hw (weak r hr))) hr
  where
    none : (x y z : ℤ) → x ≡ y +ℤ z → x ≡ pos 0 *ℤ v → pos 0 ≤ℤ y → pos 0 ≤ℤ z → z ≡ pos 0
    none x y z e f h k = omega (arith, ints, e, f, h, k)

module _ (S : Plane) (H : Slope S) where
  open S use {n, o}
  open H use {h}

  pub last_swap : (p b t : ℕ) → o p t b ≡ neg_ℤ (o p b t)
  last_swap p b t = S.cycle p t b ∙ S.cycle t b p ∙ S.swap p b t

  pub around : (p u v w : ℕ) → p < n → u < n → v < n → w < n → o p u w *ℤ (h v +ℤ neg_ℤ (h p)) ≡ o p u v *ℤ (h w +ℤ neg_ℤ (h p)) +ℤ o p v w *ℤ (h u +ℤ neg_ℤ (h p))
  around p u v w hp hu hv hw =
      moved (o p u v) (o p v w) (o p w u) (o p u w) (h w +ℤ neg_ℤ (h p)) (h u +ℤ neg_ℤ (h p)) (h v +ℤ neg_ℤ (h p)) (H.balance p u v w hp hu hv hw) (last_swap p u w)

  through : (r u v p : ℕ) → r < n → u < n → v < n → p < n → o p r u *ℤ (h v +ℤ neg_ℤ (h r)) ≡ o r u v *ℤ (h p +ℤ neg_ℤ (h r)) +ℤ o r p v *ℤ (h r +ℤ neg_ℤ (h u))
  through r u v p hr hu hv hp =
      moved_two (o r u v) (o r v p) (o r p v) (o r p u) (o p r u) (h p +ℤ neg_ℤ (h r)) (h u) (h r) (h v +ℤ neg_ℤ (h r)) (H.balance r u v p hr hu hv hp) (last_swap r p v) (S.swap p r u)

  -- x, y and z are above p: there the order "left of, as seen from p" is transitive
  pub joins : (p x y z : ℕ) → p < n → x < n → y < n → z < n → h p <ℤ h x → h p <ℤ h y → h p <ℤ h z → left S p x y → pos 0 ≤ℤ o p y z → left S p x z
  joins p x y z hp hx hy hz px py pz k l =
      first_pos (o p x z) (h y +ℤ neg_ℤ (h p)) (o p x y) (h z +ℤ neg_ℤ (h p)) (o p y z) (h x +ℤ neg_ℤ (h p)) (around p x y z hp hx hy hz)
      k (rise_pos (h p) (h z) pz) l (rise_low (h p) (h x) px) (rise_pos (h p) (h y) py)

  pub joins_flat : (p x y z : ℕ) → p < n → x < n → y < n → z < n → h p <ℤ h x → h p <ℤ h z → pos 0 ≤ℤ o p x y → pos 0 ≤ℤ o p y z → o p x z ≡ pos 0 → o p y z ≡ pos 0
  joins_flat p x y z hp hx hy hz px pz k l e =
      second_zero (o p x z) (h y +ℤ neg_ℤ (h p)) (o p x y) (h z +ℤ neg_ℤ (h p)) (o p y z) (h x +ℤ neg_ℤ (h p)) (around p x y z hp hx hy hz)
      e k (rise_low (h p) (h z) pz) l (rise_pos (h p) (h x) px)

  -- u is below r, v and p are above it
  pub past : (r u v p : ℕ) → r < n → u < n → v < n → p < n → h u <ℤ h r → h r <ℤ h v → h r <ℤ h p → left S r u v → pos 0 ≤ℤ o r p v → left S p r u
  past r u v p hr hu hv hp ur rv rp k l =
      first_pos (o p r u) (h v +ℤ neg_ℤ (h r)) (o r u v) (h p +ℤ neg_ℤ (h r)) (o r p v) (h r +ℤ neg_ℤ (h u)) (through r u v p hr hu hv hp)
      k (rise_pos (h r) (h p) rp) l (rise_low (h u) (h r) ur) (rise_pos (h r) (h v) rv)

  pub past_weak : (r u v p : ℕ) → r < n → u < n → v < n → p < n → h u <ℤ h r → h r <ℤ h v → h r <ℤ h p → pos 0 ≤ℤ o r u v → pos 0 ≤ℤ o r p v → pos 0 ≤ℤ o p r u
  past_weak r u v p hr hu hv hp ur rv rp k l =
      none_neg (o p r u) (h v +ℤ neg_ℤ (h r)) (o r u v) (h p +ℤ neg_ℤ (h r)) (o r p v) (h r +ℤ neg_ℤ (h u)) (through r u v p hr hu hv hp)
      k (rise_low (h r) (h p) rp) l (rise_low (h u) (h r) ur) (rise_pos (h r) (h v) rv)

  pub past_flat : (r u v p : ℕ) → r < n → u < n → v < n → p < n → h u <ℤ h r → h r <ℤ h p → pos 0 ≤ℤ o r u v → pos 0 ≤ℤ o r p v → o p r u ≡ pos 0 → o r p v ≡ pos 0
  past_flat r u v p hr hu hv hp ur rp k l e =
      second_zero (o p r u) (h v +ℤ neg_ℤ (h r)) (o r u v) (h p +ℤ neg_ℤ (h r)) (o r p v) (h r +ℤ neg_ℤ (h u)) (through r u v p hr hu hv hp)
      e k (rise_low (h r) (h p) rp) l (rise_pos (h u) (h r) ur)

  -- s and t aren't above q, and p is
  pub under_two : (q s t p : ℕ) → q < n → s < n → t < n → p < n → h s ≤ℤ h q → h t ≤ℤ h q → h q <ℤ h p → pos 0 ≤ℤ o q p s → pos 0 ≤ℤ o q t p → pos 0 ≤ℤ o q s t
  under_two q s t p hq hs ht hp sq tq qp k l =
      none_neg (o q s t) (h p +ℤ neg_ℤ (h q)) (o q p s) (h q +ℤ neg_ℤ (h t)) (o q t p) (h q +ℤ neg_ℤ (h s)) equation
      k (rise (h t) (h q) tq) l (rise (h s) (h q) sq) (rise_pos (h q) (h p) qp)
    where
      turned_both : (x a a' b b' c d e : ℤ) → x ≡ a *ℤ (c +ℤ neg_ℤ e) +ℤ b *ℤ (d +ℤ neg_ℤ e) → a ≡ neg_ℤ a' → b ≡ neg_ℤ b' → x ≡ a' *ℤ (e +ℤ neg_ℤ c) +ℤ b' *ℤ (e +ℤ neg_ℤ d)
      turned_both x a a' b b' c d e f g i =
          let j = neg_product a a' (c +ℤ neg_ℤ e) g in let k = neg_second a' c e in let l = neg_product b b' (d +ℤ neg_ℤ e) i in let m = neg_second b' d e in
          omega (arith, ints, f, j, k, l, m)

      equation : o q s t *ℤ (h p +ℤ neg_ℤ (h q)) ≡ o q p s *ℤ (h q +ℤ neg_ℤ (h t)) +ℤ o q t p *ℤ (h q +ℤ neg_ℤ (h s))
      equation = turned_both (o q s t *ℤ (h p +ℤ neg_ℤ (h q))) (o q s p) (o q p s) (o q p t) (o q t p) (h t) (h s) (h q) (around q s p t hq hs hp ht) (last_swap q p s) (last_swap q t p)

-- r is left of the way from u to v, and v of that from r to p, in this order of heights: the two ways cross
pub four : (S : Plane) (H : Slope S) (u r v p : ℕ) → u < S.n → r < S.n → v < S.n → p < S.n → H.h u <ℤ H.h r → H.h r <ℤ H.h v → H.h v <ℤ H.h p → left S u v r → left S r p v → left S v u p × left S p r u
four S H u r v p hu hr hv hp ur rv vp k l = (
  past (mirror S) (fallen (mirror S) (reflected S H)) v p r u hv hp hr hu (over (H.h v) (H.h p) vp) (over (H.h r) (H.h v) rv) (over (H.h u) (H.h v) (lt_join (H.h u) (H.h r) (H.h v) ur rv)) (turned S l) (weak (S.o u v r) k),
  past S H r u v p hr hu hv hp ur rv (lt_join (H.h r) (H.h v) (H.h p) rv vp) (back_turned S k) (weak (S.o r p v) l),
)

-- a is below d and left of the way from c to d or on it, p is above d and left of the way from d to a: p is right of the way from c to d
pub bends : (S : Plane) (H : Slope S) (a c d p : ℕ) → a < S.n → c < S.n → d < S.n → p < S.n → H.h a <ℤ H.h d → H.h c <ℤ H.h d → H.h d <ℤ H.h p → left S p d a → pos 0 ≤ℤ S.o c d a → left S d c p
bends S H a c d p ha hc hd hp ad cd dp k l =
    past (mirror S) (fallen (mirror S) (reflected S H)) d p a c hd hp ha hc (over (H.h d) (H.h p) dp) (over (H.h a) (H.h d) ad) (over (H.h c) (H.h d) cd) k l
