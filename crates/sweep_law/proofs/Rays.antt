-- Points on one line, by their heights.
use Rattle.std.proofs.Common.{◌≡◌, ◌≢◌, ◌⊎◌, inl, inr, ℕ, ◌<◌, ℤ, pos, ◌+ℤ◌, ◌*ℤ◌, neg_ℤ, ◌<ℤ◌, sym, ap, ◌∙◌, subst, arith}
use Rattle.std.proofs.lemmas.Int.{ints}
use Rattle.geo_orient.proofs.Ring.{mul_comm}
use Rattle.geo_orient.proofs.IntSigns.{IsPos, signs, mul_pos, factor_pos}
use Rattle.tri_theory.proofs.Plane.{Plane, mirror, left, turned, back_turned, flat_swap}
use Rattle.planar_law.proofs.Slopes.{Slope}
use Rattle.sweep_law.proofs.Heights.{fallen, reflected, over, around}

pub order : (x y : ℤ) → (x <ℤ y) ⊎ ((y <ℤ x) ⊎ (x ≡ y))
order x y = by_sign (signs (y +ℤ neg_ℤ x))
  where
    by_sign : IsPos (y +ℤ neg_ℤ x) ⊎ (IsPos (neg_ℤ (y +ℤ neg_ℤ x)) ⊎ (y +ℤ neg_ℤ x ≡ pos 0)) → (x <ℤ y) ⊎ ((y <ℤ x) ⊎ (x ≡ y))
    by_sign (inl p) = inl (omega (arith, ints, p))
    by_sign (inr (inl p)) = inr (inl (omega (arith, ints, p)))
    by_sign (inr (inr e)) = inr (inr (omega (arith, ints, e)))

rise_pos : (x y : ℤ) → x <ℤ y → IsPos (y +ℤ neg_ℤ x)
rise_pos x y h = omega (arith, ints)

rise_back : (x y : ℤ) → IsPos (y +ℤ neg_ℤ x) → x <ℤ y
rise_back x y h = omega (arith, ints)

one_product : (x y w r : ℤ) → x ≡ y +ℤ w *ℤ r → w ≡ pos 0 → x ≡ y
one_product x y w r e f = let g : w *ℤ r ≡ pos 0 *ℤ r = ap (λ t. t *ℤ r) f in omega (arith, ints, e, g)

module _ (S : Plane) (H : Slope S) where
  open S use {n, o, between}
  open H use {h}

  -- e, f and k are on one line, b is off it
  scaled : (e f k b : ℕ) → e < n → f < n → k < n → b < n → o e f k ≡ pos 0 → o e b k *ℤ (h f +ℤ neg_ℤ (h e)) ≡ o e b f *ℤ (h k +ℤ neg_ℤ (h e))
  scaled e f k b he hf hk hb flat = one_product (o e b k *ℤ (h f +ℤ neg_ℤ (h e))) (o e b f *ℤ (h k +ℤ neg_ℤ (h e))) (o e f k) (h b +ℤ neg_ℤ (h e)) (around S H e b f k he hb hf hk) flat

  ray : (e f k b : ℕ) → e < n → f < n → k < n → b < n → o e f k ≡ pos 0 → h e <ℤ h f → h e <ℤ h k → left S e b f → left S e b k
  ray e f k b he hf hk hb flat ef ek l =
      factor_pos (o e b k) (h f +ℤ neg_ℤ (h e)) (subst IsPos (sym (scaled e f k b he hf hk hb flat)) (mul_pos (o e b f) (h k +ℤ neg_ℤ (h e)) l (rise_pos (h e) (h k) ek))) (rise_pos (h e) (h f) ef)

  ray_rises : (e f k b : ℕ) → e < n → f < n → k < n → b < n → o e f k ≡ pos 0 → h e <ℤ h f → left S e b f → left S e b k → h e <ℤ h k
  ray_rises e f k b he hf hk hb flat ef l m =
      rise_back (h e) (h k) (factor_pos (h k +ℤ neg_ℤ (h e)) (o e b f) (subst IsPos (scaled e f k b he hf hk hb flat ∙ mul_comm (o e b f) (h k +ℤ neg_ℤ (h e))) (mul_pos (o e b k) (h f +ℤ neg_ℤ (h e)) m (rise_pos (h e) (h f) ef))) l)

  pub apart : (e f : ℕ) → h e <ℤ h f → e ≢ f
  apart e f l i = below (h f) (subst (λ k. h k <ℤ h f) i l)
    where
      below : (x : ℤ) → x <ℤ x → ⊥
      below x k = omega (arith, ints, k)

-- a point on a line with a height between those of two is between them
middle : (S : Plane) (H : Slope S) (e f k b : ℕ) → e < S.n → f < S.n → k < S.n → b < S.n → S.o e f k ≡ pos 0 → H.h e <ℤ H.h k → H.h k <ℤ H.h f → H.h e <ℤ H.h f → left S f e b → S.between e f k
middle S H e f k b he hf hk hb flat ek kf ef l = S.between_swap f e k (S.inside f e k b (flat_swap S e f k flat) (back_turned S far) (turned S near))
  where
    near : left S e b k
    near = ray S H e f k b he hf hk hb flat ef ek (turned S l)

    far : left S b f k
    far = ray (mirror S) (fallen (mirror S) (reflected S H)) f e k b hf he hk hb flat (over (H.h e) (H.h f) ef) (over (H.h k) (H.h f) kf) (back_turned S l)

pub lies_between : (S : Plane) (H : Slope S) (e f k : ℕ) → e < S.n → f < S.n → k < S.n → S.o e f k ≡ pos 0 → H.h e <ℤ H.h k → H.h k <ℤ H.h f → S.between e f k
lies_between S H e f k he hf hk flat ek kf = by_side (S.off_line e f he hf (apart S H e f ef))
  where
    join : (x y z : ℤ) → x <ℤ y → y <ℤ z → x <ℤ z
    join x y z p q = omega (arith, ints)

    ef : H.h e <ℤ H.h f
    ef = join (H.h e) (H.h k) (H.h f) ek kf

    by_side : (b : ℕ) × (b < S.n) × (left S e f b ⊎ left S f e b) → S.between e f k
    by_side (b, hb, inr l) = middle S H e f k b he hf hk hb flat ek kf ef l
    by_side (b, hb, inl l) = middle (mirror S) (reflected S H) e f k b he hf hk hb (flat_swap S e f k flat) ek kf ef l

-- a point between two is above the lower one
pub rises_between : (S : Plane) (H : Slope S) (e f k : ℕ) → e < S.n → f < S.n → k < S.n → H.h e <ℤ H.h f → S.between e f k → H.h e <ℤ H.h k
rises_between S H e f k he hf hk ef m = by_side (S.off_line e f he hf (apart S H e f ef))
  where
    flat : S.o e f k ≡ pos 0
    flat = S.between_flat e f k m

    by_side : (b : ℕ) × (b < S.n) × (left S e f b ⊎ left S f e b) → H.h e <ℤ H.h k
    by_side (b, hb, inl l) = ray_rises (mirror S) (reflected S H) e f k b he hf hk hb (flat_swap S e f k flat) ef (back_turned S l) (S.between_left b e f k (back_turned S l) m).0
    by_side (b, hb, inr l) = ray_rises S H e f k b he hf hk hb flat ef (turned S l) (mirrored.between_left b e f k (turned S l) m).0
      where
        mirrored : Plane
        mirrored = mirror S
