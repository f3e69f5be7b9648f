-- Points on one line.
use Rattle.std.proofs.Common.{◌≡◌, ◌⊎◌, inl, inr, ℕ, ◌<◌, ◌≤◌, ℤ, pos, ◌+ℤ◌, neg_ℤ, List, length, sym, ◌∙◌, subst, arith}
use Rattle.std.proofs.lemmas.Int.{ints}
use Rattle.geo_orient.specs.declared.Point.{Point}
use Rattle.geo_orient.proofs.IntSigns.{IsPos, signs}
use Rattle.geo_orient.proofs.Signs.{orient-cycle, orient-swap, orient-sum, on_line}
use Rattle.tri_theory.specs.Points.{point, turn, IsLeft}
use Rattle.tri_check.specs.Stages.{AreDistinct, AreCollinear}

module _ (points : List Point) (distinct : AreDistinct points) (some : 3 ≤ length points) (none : (k : ℕ) → k < length points → ¬ IsLeft points 0 1 k × ¬ IsLeft points 1 0 k) where
  level : (k : ℕ) → k < length points → turn points 0 1 k ≡ pos 0
  level k h = by_sign (signs (turn points 0 1 k))
    where
      by_sign : IsPos (turn points 0 1 k) ⊎ (IsPos (neg_ℤ (turn points 0 1 k)) ⊎ (turn points 0 1 k ≡ pos 0)) → turn points 0 1 k ≡ pos 0
      by_sign (inl p) = absurd ((none k h).0 p)
      by_sign (inr (inl p)) = absurd ((none k h).1 (subst IsPos (sym (orient-swap (point points 0) (point points 1) (point points k))) p))
      by_sign (inr (inr e)) = e

  line : (s t : ℕ) → s < length points → t < length points → turn points 0 s t ≡ pos 0
  line s t hs ht = on_line (point points 0) (point points 1) (point points s) (point points t) (distinct 0 1 (omega arith) (omega arith)) (level s hs) (level t ht)

  turned : (s t : ℕ) → turn points s t 0 ≡ turn points 0 s t
  turned s t = sym (orient-cycle (point points 0) (point points s) (point points t))

  total : (x y z w : ℤ) → x +ℤ y +ℤ z ≡ w → x ≡ pos 0 → y ≡ pos 0 → z ≡ pos 0 → w ≡ pos 0
  total x y z w e f g h = omega (arith, ints)

  pub collinear : AreCollinear points
  collinear a b c ha hb hc =
      total (turn points a b 0) (turn points b c 0) (turn points c a 0) (turn points a b c) (orient-sum (point points a) (point points b) (point points c) (point points 0)) (turned a b ∙ line a b ha hb) (turned b c ∙ line b c hb hc) (turned c a ∙ line c a hc ha)
