-- Of the outer sides of a set of points, the ray from a place away from a point crosses only one.
use Rattle.std.proofs.Common.{◌≡◌, ◌≢◌, ◌⊎◌, inl, inr, ℕ, ◌<◌, ℤ, pos, ◌+ℤ◌, ◌*ℤ◌, ◌≤ℤ◌, neg_ℤ, sym, ap, ◌∙◌, subst, arith}
use Rattle.std.proofs.lemmas.Int.{ints}
use native.Mathlib.Decide.{ℕ_discrete}
use Rattle.geo_orient.proofs.Ring.{mul_comm, mul-neg}
use Rattle.geo_orient.proofs.IntSigns.{IsPos, signs, not_pos, mul_pos, mul_at_least, factor_pos, factor_zero}
use Rattle.tri_theory.proofs.Plane.{Plane, mirror, left, negs, turned, back_turned, sides_of, flat_swap, flat_turn}
use Rattle.planar_law.proofs.Spots.{Spot, IsFree, IsInside, mirror_spot}

neg_first : (u v : ℤ) → neg_ℤ u *ℤ v ≡ neg_ℤ (u *ℤ v)
neg_first u v = mul_comm (neg_ℤ u) v ∙ mul-neg v u ∙ ap neg_ℤ (mul_comm v u)

-- no point lies right of the way from a to b, and none between the two
pub record IsOuter (S : Plane) (a b : ℕ) : Type 0 where
  pub closed : (p : ℕ) → p < S.n → ¬ left S b a p
  pub clear : (p : ℕ) → p < S.n → ¬ S.between a b p

module _ (S : Plane) (C : Spot S) where
  open S use {n, o, between}

  -- where the place is inside a triangle, its corners turn left
  pub turns_left : (a b c : ℕ) → IsInside S C a b c → left S a b c
  turns_left a b c i = factor_pos (o a b c) C.size (subst IsPos (mul_comm C.size (o a b c)) (three _ _ _ _ (C.summed a b c) i.ab i.bc i.ca)) C.large
    where
      three : (x y z w : ℤ) → x +ℤ y +ℤ z ≡ w → IsPos x → IsPos y → IsPos z → IsPos w
      three x y z w e h k l = omega (arith, ints, e, h, k, l)

  neg_of : (x y : ℤ) → x ≡ neg_ℤ y → IsPos y → IsPos (neg_ℤ x)
  neg_of x y e h = omega (arith, ints, e, h)

  neg_low : (x y : ℤ) → x ≡ neg_ℤ y → ¬ IsPos x → pos 0 ≤ℤ y
  neg_low x y e h = let k = not_pos x h in omega (arith, ints, e, k)

  weak : {z : ℤ} → IsPos z → pos 0 ≤ℤ z
  weak {z} h = omega (arith, ints)

  -- u v = s t + w q, where v, s, t, w, q are the negatives of numbers
  none_left : (u v s t w q v' s' t' w' q' : ℤ) → u *ℤ v ≡ s *ℤ t +ℤ w *ℤ q → v ≡ neg_ℤ v' → s ≡ neg_ℤ s' → t ≡ neg_ℤ t' → w ≡ neg_ℤ w' → q ≡ neg_ℤ q'
      → pos 0 ≤ℤ u → IsPos v' → pos 0 ≤ℤ s' → pos 0 ≤ℤ t' → pos 0 ≤ℤ w' → pos 0 ≤ℤ q' → u ≡ pos 0
  none_left u v s t w q v' s' t' w' q' e ev es et ew eq hu hv hs ht hw hq =
      let f : u *ℤ v ≡ neg_ℤ (u *ℤ v') = ap (λ z. u *ℤ z) ev ∙ mul-neg u v' in
      let g : s *ℤ t ≡ s' *ℤ t' = negs s' t' s t es et in
      let h : w *ℤ q ≡ w' *ℤ q' = negs w' q' w q ew eq in
      factor_zero u v' (zero e f g h (mul_at_least u v' hu (weak hv)) (mul_at_least s' t' hs ht) (mul_at_least w' q' hw hq)) hv
    where
      zero : {x x' y y' z z' : ℤ} → x ≡ y +ℤ z → x ≡ neg_ℤ x' → y ≡ y' → z ≡ z' → pos 0 ≤ℤ x' → pos 0 ≤ℤ y' → pos 0 ≤ℤ z' → x' ≡ pos 0
      zero {x} {x'} {y} {y'} {z} {z'} e f g h i j k = omega (arith, ints, e, f, g, h, i, j, k)

  -- u v = s t + w q, u and s t positive, v and q of opposite signs
  falls : (u v s t w q v' : ℤ) → u *ℤ v ≡ s *ℤ t +ℤ w *ℤ q → v ≡ neg_ℤ v' → IsPos u → IsPos v' → IsPos s → IsPos t → IsPos q → IsPos (neg_ℤ w)
  falls u v s t w q v' e ev hu hv hs ht hq =
      let f : u *ℤ v ≡ neg_ℤ (u *ℤ v') = ap (λ z. u *ℤ z) ev ∙ mul-neg u v' in
      factor_pos (neg_ℤ w) q (subst IsPos (sym (neg_first w q)) (below (u *ℤ v) (u *ℤ v') (s *ℤ t) (w *ℤ q) e f (mul_pos u v' hu hv) (mul_pos s t hs ht))) hq
    where
      below : (x x' y z : ℤ) → x ≡ y +ℤ z → x ≡ neg_ℤ x' → IsPos x' → IsPos y → IsPos (neg_ℤ z)
      below x x' y z e f i j = omega (arith, ints, e, f, i, j)

  -- two outer sides that the ray crosses: the end of one doesn't lie beyond that of the other, as seen from r
  beyond : (r a b c d : ℕ) → r < n → a < n → b < n → c < n → IsOuter S a b → IsOuter S c d → IsInside S C r a b → IsInside S C r c d → ¬ left S r a c
  beyond r a b c d hr ha hb hc A D i j h = A.clear c hc (S.inside a b c r flat (back_turned S h) before)
    where
      rab : left S r a b
      rab = turns_left r a b i

      rcd : left S r c d
      rcd = turns_left r c d j

      -- the end c lies before b
      before : left S r c b
      before = subst IsPos (sym (S.cycle r c b ∙ S.cycle c b r ∙ S.swap r b c)) (falls (o r a c) (C.turn r b) (o r a b) (C.turn r c) (o r b c) (C.turn r a) (C.turn b r) (C.exchange r a b c) (C.swap b r) h i.ca rab j.ab i.ab)

      flat : o a b c ≡ pos 0
      flat = S.cycle a b c ∙ S.cycle b c a ∙
          none_left (o c a b) (o c r d) (o c a r) (o c b d) (o c r b) (o c a d) (o r c d) (o a c r) (o b c d) (o r c b) (o a c d)
          (S.exchange c a r b d) (S.swap r c d) (S.swap a c r) (S.swap b c d) (S.swap r c b) (S.swap a c d)
          at_least rcd (weak (turned S h)) (low b hb) (weak before) (low a ha)
        where
          at_least : pos 0 ≤ℤ o c a b
          at_least = subst (λ t. pos 0 ≤ℤ t) (S.cycle a b c ∙ S.cycle b c a) (neg_low (o b a c) (o a b c) (S.swap a b c) (A.closed c hc))

          low : (p : ℕ) → p < n → pos 0 ≤ℤ o p c d
          low p hp = subst (λ t. pos 0 ≤ℤ t) (sym (S.cycle p c d)) (neg_low (o d c p) (o c d p) (S.swap c d p) (D.closed p hp))

  -- nor do the two lie on one ray from r
  one_ray : (r a b c d : ℕ) → r < n → a < n → b < n → c < n → IsFree S C → IsOuter S a b → IsOuter S c d → IsInside S C r a b → IsInside S C r c d → a ≢ c → o r a c ≢ pos 0
  one_ray r a b c d hr ha hb hc free A D i j ne flat = by_sign (signs (C.turn a c))
    where
      -- the further of the two would lie right of the side of the nearer
      further : (a b c : ℕ) → c < n → IsOuter S a b → IsInside S C r a b → o a r c ≡ pos 0 → IsPos (C.turn a c) → ⊥
      further a b c hc A i z h =
          high (o a b c) (C.turn a r) (o a b r) (C.turn a c) (o a r c) (C.turn a b) (C.turn r a) (C.exchange a b r c) z (C.swap r a)
          (neg_low (o b a c) (o a b c) (S.swap a b c) (A.closed c hc)) i.ab (turned S (turns_left r a b i)) h
        where
          high : (u v s t w q v' : ℤ) → u *ℤ v ≡ s *ℤ t +ℤ w *ℤ q → w ≡ pos 0 → v ≡ neg_ℤ v' → pos 0 ≤ℤ u → IsPos v' → IsPos s → IsPos t → ⊥
          high u v s t w q v' e ew ev hu hv hs ht =
              let f : u *ℤ v ≡ neg_ℤ (u *ℤ v') = ap (λ z. u *ℤ z) ev ∙ mul-neg u v' in
              let g : w *ℤ q ≡ pos 0 *ℤ q = ap (λ z. z *ℤ q) ew in
              let k = mul_at_least u v' hu (weak hv) in let l = mul_pos s t hs ht in
              omega (arith, ints, e, f, g, k, l)

      by_sign : IsPos (C.turn a c) ⊎ (IsPos (neg_ℤ (C.turn a c)) ⊎ (C.turn a c ≡ pos 0)) → ⊥
      by_sign (inl h) = further a b c hc A i (flat_swap S r a c flat) h
      by_sign (inr (inl h)) = further c d a ha D j (flat_turn S a c r (flat_turn S r a c flat)) (subst IsPos (sym (C.swap a c)) h)
      by_sign (inr (inr e)) = free a c ha hc ne e

  first_end : (r a b c d : ℕ) → r < n → a < n → b < n → c < n → d < n → IsFree S C → IsOuter S a b → IsOuter S c d → IsInside S C r a b → IsInside S C r c d → a ≡ c
  first_end r a b c d hr ha hb hc hd free A D i j = by_test (ℕ_discrete a c)
    where
      by_sides : a ≢ c → left S r a c ⊎ (left S a r c ⊎ (o r a c ≡ pos 0)) → ⊥
      by_sides ne (inl h) = beyond r a b c d hr ha hb hc A D i j h
      by_sides ne (inr (inl h)) = beyond r c d a b hr hc hd ha D A j i (turned S h)
      by_sides ne (inr (inr e)) = one_ray r a b c d hr ha hb hc free A D i j ne e

      by_test : Dec (a ≡ c) → a ≡ c
      by_test (yes e) = e
      by_test (no ne) = absurd (by_sides ne (sides_of S r a c))

mirror_outer : (S : Plane) (a b : ℕ) → IsOuter S a b → IsOuter (mirror S) b a
mirror_outer S a b A = record { closed = λ p hp h. A.closed p hp h; clear = λ p hp m. A.clear p hp (S.between_swap b a p m) }

mirror_inside : (S : Plane) (C : Spot S) (r a b : ℕ) → IsInside S C r a b → IsInside (mirror S) (mirror_spot S C) r b a
mirror_inside S C r a b i = record { ab = i.ca; bc = i.bc; ca = i.ab }

pub one_outer : (S : Plane) (C : Spot S) (r a b c d : ℕ) → r < S.n → a < S.n → b < S.n → c < S.n → d < S.n → IsFree S C → IsOuter S a b → IsOuter S c d → IsInside S C r a b → IsInside S C r c d → (a ≡ c) × (b ≡ d)
one_outer S C r a b c d hr ha hb hc hd free A D i j = (
  first_end S C r a b c d hr ha hb hc hd free A D i j,
  first_end (mirror S) (mirror_spot S C) r b a d c hr hb ha hd hc (λ x y hx hy ne. free y x hy hx (λ e. ne (sym e))) (mirror_outer S a b A) (mirror_outer S c d D) (mirror_inside S C r a b i) (mirror_inside S C r c d j),
)
