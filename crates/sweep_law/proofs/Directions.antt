-- The order of points along a direction as their order by a height.
use Rattle.std.proofs.Common.{◌≡◌, ◌⊎◌, inl, inr, ℕ, ◌<◌, ℤ, pos, negsuc, ◌+ℤ◌, ◌*ℤ◌, neg_ℤ, ◌<ℤ◌, ◌≤ℤ◌, List, [], ◌∷◌, length, sym, ap, ap₂, ◌∙◌, subst, arith}
use Rattle.std.proofs.lemmas.Int.{ints}
use native.Mathlib.Decide.{ℕ_discrete}
use Rattle.geo_orient.specs.declared.Point.{Point}
use Rattle.geo_orient.specs.Predicates.{orient}
use Rattle.geo_orient.specs.Reach.{IsInReach}
use Rattle.geo_orient.proofs.Ring.{Term, solve}
use Rattle.geo_orient.proofs.Ring.Term.{var, plus, times, minus, num}
use Rattle.geo_orient.proofs.IntSigns.{IsPos, signs, mul_pos, mul_at_least, factor_zero}
use Rattle.tri_theory.specs.Points.{point}
use Rattle.tri_theory.proofs.Plane.{Plane}
use Rattle.tri_theory.proofs.Placed.{apart_points}
use Rattle.tri_theory.proofs.Lists.{plane}
use Rattle.planar_law.proofs.Slopes.{Slope}
use Rattle.sweep_law.specs.Sweeps.{along, aside, ComesBefore}
use Rattle.sweep_law.specs.Boundaries.{IsDirection, CanBeSwept}

-- one number for how far a point lies along and aside
abbrev pub level : ℤ → ℤ → Point → ℤ
level a b p = along a b p *ℤ pos 2199023255552 +ℤ aside a b p

abbrev less : Term → Term → Term
less s t = plus s (minus t)

abbrev turn : Term × Term → Term × Term → Term × Term → Term
turn a b c = less (times (less b.0 a.0) (less c.1 a.1)) (times (less b.1 a.1) (less c.0 a.0))

abbrev tall : Term × Term → Term
tall p = plus (times (plus (times (var 0) p.0) (times (var 1) p.1)) (num (pos 2199023255552))) (less (times (var 1) p.0) (times (var 0) p.1))

abbrev P : Term × Term
P = (var 2, var 3)

abbrev U : Term × Term
U = (var 4, var 5)

abbrev V : Term × Term
V = (var 6, var 7)

abbrev W : Term × Term
W = (var 8, var 9)

balanced : (a b : ℤ) (p u v w : Point) → orient p u v *ℤ (level a b w +ℤ neg_ℤ (level a b p)) +ℤ orient p v w *ℤ (level a b u +ℤ neg_ℤ (level a b p)) +ℤ orient p w u *ℤ (level a b v +ℤ neg_ℤ (level a b p)) ≡ pos 0
balanced a b p u v w =
    solve (a ∷ b ∷ p.x ∷ p.y ∷ u.x ∷ u.y ∷ v.x ∷ v.y ∷ w.x ∷ w.y ∷ [])
    (plus (plus (times (turn P U V) (less (tall W) (tall P))) (times (turn P V W) (less (tall U) (tall P)))) (times (turn P W U) (less (tall V) (tall P)))) (num (pos 0)) tt

-- ---- products of a direction with a coordinate
expanded : (m k a x : ℤ) → (m +ℤ a) *ℤ (k +ℤ x) ≡ m *ℤ k +ℤ m *ℤ x +ℤ a *ℤ k +ℤ a *ℤ x
expanded m k a x = solve (m ∷ k ∷ a ∷ x ∷ []) (times (plus (var 0) (var 2)) (plus (var 1) (var 3))) (plus (plus (plus (times (var 0) (var 1)) (times (var 0) (var 3))) (times (var 2) (var 1))) (times (var 2) (var 3))) tt

product_low : (a x : ℤ) → negsuc 499 ≤ℤ a → a ≤ℤ pos 500 → negsuc 536870911 ≤ℤ x → x ≤ℤ pos 536870912 → negsuc 268435455999 ≤ℤ (a *ℤ x)
product_low a x al ah xl xh =
    let e = expanded (pos 500) (pos 536870912) a x in let f = mul_at_least (pos 500 +ℤ a) (pos 536870912 +ℤ x) (omega (arith, ints, al)) (omega (arith, ints, xl)) in
    let g = expanded (pos 500) (pos 536870912) (neg_ℤ a) (neg_ℤ x) in let k = mul_at_least (pos 500 +ℤ neg_ℤ a) (pos 536870912 +ℤ neg_ℤ x) (omega (arith, ints, ah)) (omega (arith, ints, xh)) in
    low (a *ℤ x) (neg_ℤ a *ℤ neg_ℤ x) e f g k (solve (a ∷ x ∷ []) (times (minus (var 0)) (minus (var 1))) (times (var 0) (var 1)) tt)
  where
    low : (z w : ℤ) → (pos 500 +ℤ a) *ℤ (pos 536870912 +ℤ x) ≡ pos 500 *ℤ pos 536870912 +ℤ pos 500 *ℤ x +ℤ a *ℤ pos 536870912 +ℤ z → pos 0 ≤ℤ ((pos 500 +ℤ a) *ℤ (pos 536870912 +ℤ x))
        → (pos 500 +ℤ neg_ℤ a) *ℤ (pos 536870912 +ℤ neg_ℤ x) ≡ pos 500 *ℤ pos 536870912 +ℤ pos 500 *ℤ neg_ℤ x +ℤ neg_ℤ a *ℤ pos 536870912 +ℤ w → pos 0 ≤ℤ ((pos 500 +ℤ neg_ℤ a) *ℤ (pos 536870912 +ℤ neg_ℤ x)) → w ≡ z → negsuc 268435455999 ≤ℤ z
    low z w e f g k i = ends ((pos 500 +ℤ a) *ℤ (pos 536870912 +ℤ x)) ((pos 500 +ℤ neg_ℤ a) *ℤ (pos 536870912 +ℤ neg_ℤ x)) a x z w e f g k i
      where
        ends : (u v a x z w : ℤ) → u ≡ pos 500 *ℤ pos 536870912 +ℤ pos 500 *ℤ x +ℤ a *ℤ pos 536870912 +ℤ z → pos 0 ≤ℤ u → v ≡ pos 500 *ℤ pos 536870912 +ℤ pos 500 *ℤ neg_ℤ x +ℤ neg_ℤ a *ℤ pos 536870912 +ℤ w → pos 0 ≤ℤ v → w ≡ z → negsuc 268435455999 ≤ℤ z
        ends u v a x z w e f g k i = omega (arith, ints, e, f, g, k, i)

product_high : (a x : ℤ) → negsuc 499 ≤ℤ a → a ≤ℤ pos 500 → negsuc 536870911 ≤ℤ x → x ≤ℤ pos 536870912 → (a *ℤ x) ≤ℤ pos 268435456000
product_high a x al ah xl xh = turned (neg_ℤ a *ℤ x) (a *ℤ x) (product_low (neg_ℤ a) x (omega (arith, ints, ah)) (omega (arith, ints, al)) xl xh) (solve (a ∷ x ∷ []) (times (minus (var 0)) (var 1)) (minus (times (var 0) (var 1))) tt)
  where
    turned : (u v : ℤ) → negsuc 268435455999 ≤ℤ u → u ≡ neg_ℤ v → v ≤ℤ pos 268435456000
    turned u v h e = omega (arith, ints, h, e)

-- ---- two sums with small second parts
less_first : (u v s t : ℤ) → u <ℤ v → s ≤ℤ pos 536870912000 → negsuc 536870911999 ≤ℤ t → (u *ℤ pos 2199023255552 +ℤ s) <ℤ (v *ℤ pos 2199023255552 +ℤ t)
less_first u v s t l h k = omega (arith, ints, l, h, k)

less_second : (u v s t : ℤ) → u ≡ v → s <ℤ t → (u *ℤ pos 2199023255552 +ℤ s) <ℤ (v *ℤ pos 2199023255552 +ℤ t)
less_second u v s t e l = let f = ap (λ z. z *ℤ pos 2199023255552) e in omega (arith, ints, f, l)

same_first : (u v s t : ℤ) → negsuc 536870911999 ≤ℤ s → s ≤ℤ pos 536870912000 → negsuc 536870911999 ≤ℤ t → t ≤ℤ pos 536870912000 → u *ℤ pos 2199023255552 +ℤ s ≡ v *ℤ pos 2199023255552 +ℤ t → u ≡ v
same_first u v s t a b c d e = omega (arith, ints, a, b, c, d, e)

same_second : (u v s t : ℤ) → u ≡ v → u *ℤ pos 2199023255552 +ℤ s ≡ v *ℤ pos 2199023255552 +ℤ t → s ≡ t
same_second u v s t f e = let g = ap (λ z. z *ℤ pos 2199023255552) f in omega (arith, ints, e, g)

-- ---- a direction isn't 0
square : (a : ℤ) → IsPos (a *ℤ a) ⊎ (a ≡ pos 0)
square a = by_sign (signs a)
  where
    by_sign : IsPos a ⊎ (IsPos (neg_ℤ a) ⊎ (a ≡ pos 0)) → IsPos (a *ℤ a) ⊎ (a ≡ pos 0)
    by_sign (inl p) = inl (mul_pos a a p p)
    by_sign (inr (inl p)) = inl (subst IsPos (solve (a ∷ []) (times (minus (var 0)) (minus (var 0))) (times (var 0) (var 0)) tt) (mul_pos (neg_ℤ a) (neg_ℤ a) p p))
    by_sign (inr (inr e)) = inr e

large : (a b : ℤ) → (a ≡ pos 0 → b ≡ pos 0 → ⊥) → IsPos (a *ℤ a +ℤ b *ℤ b)
large a b some = by_squares (square a) (square b)
  where
    both : (x y : ℤ) → IsPos x → pos 0 ≤ℤ y → IsPos (x +ℤ y)
    both x y h k = omega (arith, ints, h, k)

    other : (x y : ℤ) → pos 0 ≤ℤ x → IsPos y → IsPos (x +ℤ y)
    other x y h k = omega (arith, ints, h, k)

    weak : (x : ℤ) → IsPos x → pos 0 ≤ℤ x
    weak x h = omega (arith, ints, h)

    zero_square : (x : ℤ) → x ≡ pos 0 → pos 0 ≤ℤ (x *ℤ x)
    zero_square x e = subst (λ z. pos 0 ≤ℤ (z *ℤ z)) (sym e) (omega (arith, ints))

    by_squares : IsPos (a *ℤ a) ⊎ (a ≡ pos 0) → IsPos (b *ℤ b) ⊎ (b ≡ pos 0) → IsPos (a *ℤ a +ℤ b *ℤ b)
    by_squares (inl h) (inl k) = both (a *ℤ a) (b *ℤ b) h (weak (b *ℤ b) k)
    by_squares (inl h) (inr e) = both (a *ℤ a) (b *ℤ b) h (zero_square b e)
    by_squares (inr e) (inl k) = other (a *ℤ a) (b *ℤ b) (zero_square a e) k
    by_squares (inr e) (inr f) = absurd (some e f)

same_by : (n x y : ℤ) → IsPos n → n *ℤ x ≡ n *ℤ y → x ≡ y
same_by n x y h e = equal (factor_zero (x +ℤ neg_ℤ y) n (solve (n ∷ x ∷ y ∷ []) (times (plus (var 1) (minus (var 2))) (var 0)) (plus (times (var 0) (var 1)) (minus (times (var 0) (var 2)))) tt ∙ none (n *ℤ x) (n *ℤ y) e) h)
  where
    none : (u v : ℤ) → u ≡ v → u +ℤ neg_ℤ v ≡ pos 0
    none u v e = omega (arith, ints, e)

    equal : x +ℤ neg_ℤ y ≡ pos 0 → x ≡ y
    equal e = omega (arith, ints, e)

pub same_point : (a b : ℤ) (p q : Point) → (a ≡ pos 0 → b ≡ pos 0 → ⊥) → along a b p ≡ along a b q → aside a b p ≡ aside a b q → p ≡ q
same_point a b p q some e f =
    ap₂ (λ x y. let r : Point = record { x = x; y = y } in r)
    (same_by (a *ℤ a +ℤ b *ℤ b) p.x q.x (large a b some) (wide p ∙ ap₂ (λ u v. a *ℤ u +ℤ b *ℤ v) e f ∙ sym (wide q)))
    (same_by (a *ℤ a +ℤ b *ℤ b) p.y q.y (large a b some) (high p ∙ ap₂ (λ u v. b *ℤ u +ℤ neg_ℤ (a *ℤ v)) e f ∙ sym (high q)))
  where
    wide : (p : Point) → (a *ℤ a +ℤ b *ℤ b) *ℤ p.x ≡ a *ℤ along a b p +ℤ b *ℤ aside a b p
    wide p =
        solve (a ∷ b ∷ p.x ∷ p.y ∷ []) (times (plus (times (var 0) (var 0)) (times (var 1) (var 1))) (var 2))
        (plus (times (var 0) (plus (times (var 0) (var 2)) (times (var 1) (var 3)))) (times (var 1) (less (times (var 1) (var 2)) (times (var 0) (var 3))))) tt

    high : (p : Point) → (a *ℤ a +ℤ b *ℤ b) *ℤ p.y ≡ b *ℤ along a b p +ℤ neg_ℤ (a *ℤ aside a b p)
    high p =
        solve (a ∷ b ∷ p.x ∷ p.y ∷ []) (times (plus (times (var 0) (var 0)) (times (var 1) (var 1))) (var 3))
        (less (times (var 1) (plus (times (var 0) (var 2)) (times (var 1) (var 3)))) (times (var 0) (less (times (var 1) (var 2)) (times (var 0) (var 3))))) tt

-- points come before each other in one order
pub not_both_before : (a b : ℤ) (p q : Point) → ComesBefore a b p q → ComesBefore a b q p → ⊥
not_both_before a b p q h k = none (along a b p) (along a b q) (aside a b p) (aside a b q) h k
  where
    none : (u v s t : ℤ) → (u <ℤ v) ⊎ ((u ≡ v) × (s <ℤ t)) → (v <ℤ u) ⊎ ((v ≡ u) × (t <ℤ s)) → ⊥
    none u v s t (inl h) (inl k) = omega (arith, ints, h, k)
    none u v s t (inl h) (inr k) = omega (arith, ints, h, k.0)
    none u v s t (inr h) (inl k) = omega (arith, ints, h.0, k)
    none u v s t (inr h) (inr k) = omega (arith, ints, h.1, k.1)

module _ (points : List Point) (a b : ℤ) (can : CanBeSwept points) (D : IsDirection a b) where
  abbrev pub S : Plane
  S = plane points can.placed

  aside_low : (p : Point) → IsInReach p → negsuc 536870911999 ≤ℤ aside a b p
  aside_low p r = low (b *ℤ p.x) (a *ℤ p.y) (product_low b p.x D.b_low D.b_high r.x_low r.x_high) (product_high a p.y D.a_low D.a_high r.y_low r.y_high)
    where
      low : (u v : ℤ) → negsuc 268435455999 ≤ℤ u → v ≤ℤ pos 268435456000 → negsuc 536870911999 ≤ℤ (u +ℤ neg_ℤ v)
      low u v h k = omega (arith, ints, h, k)

  aside_high : (p : Point) → IsInReach p → aside a b p ≤ℤ pos 536870912000
  aside_high p r = high (b *ℤ p.x) (a *ℤ p.y) (product_high b p.x D.b_low D.b_high r.x_low r.x_high) (product_low a p.y D.a_low D.a_high r.y_low r.y_high)
    where
      high : (u v : ℤ) → u ≤ℤ pos 268435456000 → negsuc 268435455999 ≤ℤ v → (u +ℤ neg_ℤ v) ≤ℤ pos 536870912000
      high u v h k = omega (arith, ints, h, k)

  abbrev pub height : ℕ → ℤ
  height i = level a b (point points i)

  pub higher : (i j : ℕ) → i < length points → j < length points → ComesBefore a b (point points i) (point points j) → height i <ℤ height j
  higher i j hi hj (inl l) = less_first (along a b (point points i)) (along a b (point points j)) (aside a b (point points i)) (aside a b (point points j)) l (aside_high (point points i) (can.reachable i hi)) (aside_low (point points j) (can.reachable j hj))
  higher i j hi hj (inr e) = less_second (along a b (point points i)) (along a b (point points j)) (aside a b (point points i)) (aside a b (point points j)) e.0 e.1

  pub distinct : (i j : ℕ) → i < S.n → j < S.n → height i ≡ height j → i ≡ j
  distinct i j hi hj e = by_test (ℕ_discrete i j)
    where
      p : Point
      p = point points i

      q : Point
      q = point points j

      as_far : along a b p ≡ along a b q
      as_far =
          same_first (along a b p) (along a b q) (aside a b p) (aside a b q)
          (aside_low p (can.reachable i hi)) (aside_high p (can.reachable i hi)) (aside_low q (can.reachable j hj)) (aside_high q (can.reachable j hj)) e

      by_test : Dec (i ≡ j) → i ≡ j
      by_test (yes f) = f
      by_test (no nf) = absurd (apart_points points can.placed i j hi hj nf (same_point a b p q D.some as_far (same_second (along a b p) (along a b q) (aside a b p) (aside a b q) as_far e)))

  pub balance : (p u v w : ℕ) → p < S.n → u < S.n → v < S.n → w < S.n → S.o p u v *ℤ (height w +ℤ neg_ℤ (height p)) +ℤ S.o p v w *ℤ (height u +ℤ neg_ℤ (height p)) +ℤ S.o p w u *ℤ (height v +ℤ neg_ℤ (height p)) ≡ pos 0
  balance p u v w hp hu hv hw = balanced a b (point points p) (point points u) (point points v) (point points w)

  abbrev pub slope : Slope S
  slope = record { h = height; balance = balance; distinct = distinct }
