-- What the code computes along and aside of a direction on 64 bits is the integer, where points are in reach.
use Rattle.std.proofs.Common.{◌≡◌, ◌≤◌, ◌^◌, ℤ, pos, negsuc, ◌+ℤ◌, ◌-ℤ◌, ◌*ℤ◌, ◌≤ℤ◌, unsigned_abs, FitsSigned, arith}
use Rattle.std.proofs.lemmas.Int.{ints, to_z-of_z, fits_signed_from_abs}
use mir.Syntax.{w64}
use mir.Val.{to_z, of_z}
use Rattle.geo_orient.specs.declared.Point.{Point}
use Rattle.geo_orient.specs.Reach.{IsInReach}
use Rattle.geo_orient.proofs.Bits.{abs_product, abs_sum, abs_difference}
use Rattle.sweep_law.specs.Boundaries.{IsDirection}

abbrev passed : ℤ → ℤ
passed z = to_z w64 (of_z w64 z)

back : (z : ℤ) → unsigned_abs z ≤ 2 ^ 62 → passed z ≡ z
back z h = to_z-of_z w64 z (fits_signed_from_abs w64 z (omega arith))

-- a coordinate of a direction, and one of a point
record AreSmall (a x : ℤ) : Type 0 where
  part : unsigned_abs a ≤ 2 ^ 9
  place : unsigned_abs x ≤ 2 ^ 29

small_product : (a x : ℤ) → AreSmall a x → unsigned_abs (a *ℤ x) ≤ 2 ^ 38
small_product a x h = let m = abs_product a x (2 ^ 9) (2 ^ 29) h.part h.place in omega (arith, m)

product_back : (a x : ℤ) → AreSmall a x → passed (passed a *ℤ passed x) ≡ a *ℤ x
product_back a x h = let m = small_product a x h in rw (back a (let n = h.part in omega (arith, n)), back x (let n = h.place in omega (arith, n))) (back (a *ℤ x) (omega (arith, m)))

module _ (a x b y : ℤ) (first : AreSmall a x) (second : AreSmall b y) where
  sum_fits : FitsSigned w64 (passed (passed a *ℤ passed x) +ℤ passed (passed b *ℤ passed y))
  sum_fits =
      let m = small_product a x first in let n = small_product b y second in let s = abs_sum (a *ℤ x) (b *ℤ y) in
      rw (product_back a x first, product_back b y second) (fits_signed_from_abs w64 (a *ℤ x +ℤ b *ℤ y) (omega (arith, m, n, s)))

  sum_is : passed (passed (passed a *ℤ passed x) +ℤ passed (passed b *ℤ passed y)) ≡ a *ℤ x +ℤ b *ℤ y
  sum_is =
      let m = small_product a x first in let n = small_product b y second in let s = abs_sum (a *ℤ x) (b *ℤ y) in
      rw (product_back a x first, product_back b y second) (back (a *ℤ x +ℤ b *ℤ y) (omega (arith, m, n, s)))

  difference_fits : FitsSigned w64 (passed (passed a *ℤ passed x) -ℤ passed (passed b *ℤ passed y))
  difference_fits =
      let m = small_product a x first in let n = small_product b y second in let s = abs_difference (a *ℤ x) (b *ℤ y) in
      rw (product_back a x first, product_back b y second) (fits_signed_from_abs w64 (a *ℤ x -ℤ b *ℤ y) (omega (arith, m, n, s)))

  difference_is : passed (passed (passed a *ℤ passed x) -ℤ passed (passed b *ℤ passed y)) ≡ a *ℤ x -ℤ b *ℤ y
  difference_is =
      let m = small_product a x first in let n = small_product b y second in let s = abs_difference (a *ℤ x) (b *ℤ y) in
      rw (product_back a x first, product_back b y second) (back (a *ℤ x -ℤ b *ℤ y) (omega (arith, m, n, s)))

part_small : (a : ℤ) → negsuc 499 ≤ℤ a → a ≤ℤ pos 500 → unsigned_abs a ≤ 2 ^ 9
part_small a l h = omega (arith, ints)

place_small : (x : ℤ) → negsuc 536870911 ≤ℤ x → x ≤ℤ pos 536870912 → unsigned_abs x ≤ 2 ^ 29
place_small x l h = omega (arith, ints)

module _ (a b : ℤ) (p : Point) (D : IsDirection a b) (R : IsInReach p) where
  ax : AreSmall a p.x
  ax = record { part = part_small a D.a_low D.a_high; place = place_small p.x R.x_low R.x_high }

  by : AreSmall b p.y
  by = record { part = part_small b D.b_low D.b_high; place = place_small p.y R.y_low R.y_high }

  bx : AreSmall b p.x
  bx = record { part = part_small b D.b_low D.b_high; place = place_small p.x R.x_low R.x_high }

  ay : AreSmall a p.y
  ay = record { part = part_small a D.a_low D.a_high; place = place_small p.y R.y_low R.y_high }

  pub along_fits : FitsSigned w64 (passed (passed a *ℤ passed p.x) +ℤ passed (passed b *ℤ passed p.y))
  along_fits = sum_fits a p.x b p.y ax by

  pub along_is : passed (passed (passed a *ℤ passed p.x) +ℤ passed (passed b *ℤ passed p.y)) ≡ a *ℤ p.x +ℤ b *ℤ p.y
  along_is = sum_is a p.x b p.y ax by

  pub aside_fits : FitsSigned w64 (passed (passed b *ℤ passed p.x) -ℤ passed (passed a *ℤ passed p.y))
  aside_fits = difference_fits b p.x a p.y bx ay

  pub aside_is : passed (passed (passed b *ℤ passed p.x) -ℤ passed (passed a *ℤ passed p.y)) ≡ b *ℤ p.x -ℤ a *ℤ p.y
  aside_is = difference_is b p.x a p.y bx ay
