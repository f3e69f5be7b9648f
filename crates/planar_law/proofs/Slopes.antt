-- Chains that rise in a direction.
use Rattle.std.proofs.Common.{◌≡◌, ◌≢◌, ◌⊎◌, inl, inr, ℕ, zero, suc, ◌<◌, ◌≤◌, ℤ, pos, ◌+ℤ◌, ◌*ℤ◌, neg_ℤ, ◌<ℤ◌, ◌≤ℤ◌, [], ◌∷◌, sym, ap, ◌∙◌, subst, arith}
use Rattle.std.proofs.lemmas.Int.{ints}
use native.Mathlib.Decide.{ℕ_discrete, dec_lt}
use Rattle.geo_orient.proofs.Ring.{solve, mul_comm, mul-neg}
use Rattle.geo_orient.proofs.Ring.Term.{var, plus, times, minus}
use Rattle.geo_orient.proofs.IntSigns.{IsPos, signs, not_pos, mul_pos, mul_at_least, factor_pos, factor_at_least}
use Rattle.tri_theory.proofs.Plane.{Plane, left, back_turned, flat_swap}
use Rattle.tri_theory.proofs.Net.{not_flat}
use Rattle.planar_law.proofs.Patches.{flat_last, flat_ends}

-- a height above a line of the plane
pub record Slope (S : Plane) : Type 0 where
  pub h : ℕ → ℤ
  pub balance : (p u v w : ℕ) → p < S.n → u < S.n → v < S.n → w < S.n → S.o p u v *ℤ (h w +ℤ neg_ℤ (h p)) +ℤ S.o p v w *ℤ (h u +ℤ neg_ℤ (h p)) +ℤ S.o p w u *ℤ (h v +ℤ neg_ℤ (h p)) ≡ pos 0
  pub distinct : (a b : ℕ) → a < S.n → b < S.n → h a ≡ h b → a ≡ b

-- ---- signs
rest_pos : (x y z : ℤ) → x +ℤ y +ℤ z ≡ pos 0 → x ≤ℤ pos 0 → z ≤ℤ pos 0 → pos 0 ≤ℤ y
rest_pos x y z e h k = omega (arith, ints, e, h, k)

low_product : (u v : ℤ) → pos 0 ≤ℤ u → v ≤ℤ pos 0 → (u *ℤ v) ≤ℤ pos 0
low_product u v h k = by (mul_at_least u (neg_ℤ v) h (up v k)) (mul-neg u v)
  where
    up : (v : ℤ) → v ≤ℤ pos 0 → pos 0 ≤ℤ neg_ℤ v
    up v k = omega (arith, ints)

    by : pos 0 ≤ℤ (u *ℤ neg_ℤ v) → u *ℤ neg_ℤ v ≡ neg_ℤ (u *ℤ v) → (u *ℤ v) ≤ℤ pos 0
    by m e = omega (arith, ints, m, e)

low_swap : (u v : ℤ) → u ≤ℤ pos 0 → pos 0 ≤ℤ v → (u *ℤ v) ≤ℤ pos 0
low_swap u v h k = subst (λ t. t ≤ℤ pos 0) (mul_comm v u) (low_product v u k h)

neg_low : (x y : ℤ) → x ≡ neg_ℤ y → ¬ IsPos x → pos 0 ≤ℤ y
neg_low x y e h = let k = not_pos x h in omega (arith, ints, e, k)

low_neg : (x y : ℤ) → x ≡ neg_ℤ y → pos 0 ≤ℤ y → x ≤ℤ pos 0
low_neg x y e h = omega (arith, ints, e, h)

at_least_neg : (x y : ℤ) → x ≡ neg_ℤ y → x ≤ℤ pos 0 → pos 0 ≤ℤ y
at_least_neg x y e h = omega (arith, ints, e, h)

rise : (x y : ℤ) → x ≤ℤ y → pos 0 ≤ℤ (y +ℤ neg_ℤ x)
rise x y h = omega (arith, ints)

rise_pos : (x y : ℤ) → x <ℤ y → IsPos (y +ℤ neg_ℤ x)
rise_pos x y h = omega (arith, ints)

fall : (x y : ℤ) → y ≤ℤ x → (y +ℤ neg_ℤ x) ≤ℤ pos 0
fall x y h = omega (arith, ints)

weak : (z : ℤ) → IsPos z → pos 0 ≤ℤ z
weak z h = omega (arith, ints)

zero_weak : (z : ℤ) → z ≡ pos 0 → pos 0 ≤ℤ z
zero_weak z e = omega (arith, ints, e)

lt_le : (x y : ℤ) → x <ℤ y → x ≤ℤ y
lt_le x y h = omega (arith, ints)

le_join : (x y z : ℤ) → x ≤ℤ y → y ≤ℤ z → x ≤ℤ z
le_join x y z h k = omega (arith, ints)

not_back : (x y : ℤ) → x <ℤ y → y ≤ℤ x → ⊥
not_back x y h k = omega (arith, ints, h, k)

-- what is left of a product
other : (s a b he hk hf : ℤ) → a +ℤ b ≡ s → s *ℤ (hk +ℤ neg_ℤ he) ≡ a *ℤ (hf +ℤ neg_ℤ he) → s *ℤ (hf +ℤ neg_ℤ hk) ≡ b *ℤ (hf +ℤ neg_ℤ he)
other s a b he hk hf e f =
    cut (s *ℤ (hf +ℤ neg_ℤ hk)) (s *ℤ (hk +ℤ neg_ℤ he)) (s *ℤ (hf +ℤ neg_ℤ he)) (a *ℤ (hf +ℤ neg_ℤ he)) (b *ℤ (hf +ℤ neg_ℤ he))
    (solve (s ∷ he ∷ hk ∷ hf ∷ []) (plus (times (var 0) (plus (var 3) (minus (var 2)))) (times (var 0) (plus (var 2) (minus (var 1))))) (times (var 0) (plus (var 3) (minus (var 1)))) tt)
    f
    (ap (λ t. t *ℤ (hf +ℤ neg_ℤ he)) (sym e) ∙ solve (a ∷ b ∷ he ∷ hf ∷ []) (times (plus (var 0) (var 1)) (plus (var 3) (minus (var 2)))) (plus (times (var 0) (plus (var 3) (minus (var 2)))) (times (var 1) (plus (var 3) (minus (var 2))))) tt)
  where
    cut : (x y w p q : ℤ) → x +ℤ y ≡ w → y ≡ p → w ≡ p +ℤ q → x ≡ q
    cut x y w p q e f g = omega (arith, ints, e, f, g)

module _ (S : Plane) (H : Slope S) where
  open S use {n, o, between}
  open H use {h}

  -- not right of the way
  abbrev AtLeft : ℕ → ℕ → ℕ → Type 0
  AtLeft a b c = pos 0 ≤ℤ o a b c

  at_left : (a b c : ℕ) → ¬ left S b a c → AtLeft a b c
  at_left a b c nl = neg_low (o b a c) (o a b c) (S.swap a b c) nl

  not_right : (a b c : ℕ) → AtLeft a b c → ¬ left S b a c
  not_right a b c k l = both (o a b c) (o b a c) (S.swap a b c) k l
    where
      both : (x y : ℤ) → y ≡ neg_ℤ x → pos 0 ≤ℤ x → IsPos y → ⊥
      both x y e k l = omega (arith, ints, e, k, l)

  turn_at : (a b c : ℕ) → AtLeft a b c → AtLeft b c a
  turn_at a b c k = subst (λ z. pos 0 ≤ℤ z) (S.cycle a b c) k

  -- over a chain a, p, b that turns left, what is left of one side on its own half is left of the other
  back_over : (a p b t : ℕ) → a < n → p < n → b < n → t < n → h a <ℤ h p → h p <ℤ h b → AtLeft a p b → AtLeft p b t → h p ≤ℤ h t → AtLeft a p t
  back_over a p b t ha hp hb ht rises pb turns k up =
      turn_at t a p (turn_at p t a (factor_at_least (o p t a) (h b +ℤ neg_ℤ (h p))
      (rest_pos (o p b t *ℤ (h a +ℤ neg_ℤ (h p))) (o p t a *ℤ (h b +ℤ neg_ℤ (h p))) (o p a b *ℤ (h t +ℤ neg_ℤ (h p))) (H.balance p b t a hp hb ht ha)
      (low_product (o p b t) (h a +ℤ neg_ℤ (h p)) k (fall (h p) (h a) (lt_le (h a) (h p) rises)))
      (low_swap (o p a b) (h t +ℤ neg_ℤ (h p)) (low_neg (o p a b) (o a p b) (S.swap a p b) turns) (rise (h p) (h t) up)))
      (rise_pos (h p) (h b) pb)))

  forth_over : (a p b t : ℕ) → a < n → p < n → b < n → t < n → h a <ℤ h p → h p <ℤ h b → AtLeft a p b → AtLeft a p t → h t ≤ℤ h p → AtLeft p b t
  forth_over a p b t ha hp hb ht up pb turns k down =
      factor_at_least (o p b t) (h p +ℤ neg_ℤ (h a)) (turned_about (o p t b) (o p b t) (h a) (h p) (last_swap p b t)
      (rest_pos (o p a t *ℤ (h b +ℤ neg_ℤ (h p))) (o p t b *ℤ (h a +ℤ neg_ℤ (h p))) (o p b a *ℤ (h t +ℤ neg_ℤ (h p))) (H.balance p a t b hp ha ht hb)
      (low_swap (o p a t) (h b +ℤ neg_ℤ (h p)) (low_neg (o p a t) (o a p t) (S.swap a p t) k) (rise (h p) (h b) (lt_le (h p) (h b) pb)))
      (low_product (o p b a) (h t +ℤ neg_ℤ (h p)) (turn_at a p b turns) (fall (h p) (h t) down))))
      (rise_pos (h a) (h p) up)
    where
      last_swap : (p b t : ℕ) → o p t b ≡ neg_ℤ (o p b t)
      last_swap p b t = S.cycle p t b ∙ S.cycle t b p ∙ S.swap p b t

      turned_about : (x y u v : ℤ) → x ≡ neg_ℤ y → pos 0 ≤ℤ (x *ℤ (u +ℤ neg_ℤ v)) → pos 0 ≤ℤ (y *ℤ (v +ℤ neg_ℤ u))
      turned_about x y u v e m = subst (λ z. pos 0 ≤ℤ z) (ap (λ t. t *ℤ (u +ℤ neg_ℤ v)) e ∙ solve (y ∷ u ∷ v ∷ []) (times (minus (var 0)) (plus (var 1) (minus (var 2)))) (times (var 0) (plus (var 2) (minus (var 1)))) tt) m

  -- a point over a side isn't the start of a rising way that has both ends of the side on its left
  not_over : (u v a b : ℕ) → u < n → v < n → a < n → b < n → left S u v a → h u ≤ℤ h a → h a ≤ℤ h v → h a <ℤ h b → AtLeft a b u → AtLeft a b v → ⊥
  not_over u v a b hu hv ha hb l ua av ab ku kv =
      none (o a u v *ℤ (h b +ℤ neg_ℤ (h a))) (o a v b *ℤ (h u +ℤ neg_ℤ (h a))) (o a b u *ℤ (h v +ℤ neg_ℤ (h a))) (H.balance a u v b ha hu hv hb)
      (mul_pos (o a u v) (h b +ℤ neg_ℤ (h a)) (back_turned S l) (rise_pos (h a) (h b) ab))
      (both_low (o a v b) (o a b v) (h u +ℤ neg_ℤ (h a)) (last_swap a b v) kv (fall (h a) (h u) ua))
      (mul_at_least (o a b u) (h v +ℤ neg_ℤ (h a)) ku (rise (h a) (h v) av))
    where
      last_swap : (p b t : ℕ) → o p t b ≡ neg_ℤ (o p b t)
      last_swap p b t = S.cycle p t b ∙ S.cycle t b p ∙ S.swap p b t

      none : (x y z : ℤ) → x +ℤ y +ℤ z ≡ pos 0 → IsPos x → pos 0 ≤ℤ y → pos 0 ≤ℤ z → ⊥
      none x y z e i j k = omega (arith, ints, e, i, j, k)

      both_low : (x y v : ℤ) → x ≡ neg_ℤ y → pos 0 ≤ℤ y → v ≤ℤ pos 0 → pos 0 ≤ℤ (x *ℤ v)
      both_low x y v e i k = let m = low_product y v i k in let f : x *ℤ v ≡ neg_ℤ (y *ℤ v) = ap (λ t. t *ℤ v) e ∙ solve (y ∷ v ∷ []) (times (minus (var 0)) (var 1)) (minus (times (var 0) (var 1))) tt in omega (arith, ints, m, f)

  -- ---- heights on a line: z off the line, k on it
  parts : (z e f k : ℕ) → o e f k ≡ pos 0 → o z e k +ℤ o z k f ≡ o z e f
  parts z e f k flat = sum (o z e k) (o e f k) (o f z k) (o z e f) (o z k f) (S.summed z e f k) flat (S.cycle z k f ∙ S.cycle k f z)
    where
      sum : (x y w s v : ℤ) → x +ℤ y +ℤ w ≡ s → y ≡ pos 0 → v ≡ w → x +ℤ v ≡ s
      sum x y w s v e f g = omega (arith, ints, e, f, g)

  -- the height on a line lies between those of its ends as the point does
  weighed : (z e f k : ℕ) → z < n → e < n → f < n → k < n → o e f k ≡ pos 0 → o z e f *ℤ (h k +ℤ neg_ℤ (h e)) ≡ o z e k *ℤ (h f +ℤ neg_ℤ (h e))
  weighed z e f k hz he hf hk flat =
      level (o e z f) (o z e f) (h k +ℤ neg_ℤ (h e)) (o e f k) (h z +ℤ neg_ℤ (h e)) (o e k z) (o z e k) (h f +ℤ neg_ℤ (h e)) (H.balance e z f k he hz hf hk) (S.swap z e f) flat (S.cycle e k z ∙ S.cycle k z e)
    where
      level : (a a' x b y c c' w : ℤ) → a *ℤ x +ℤ b *ℤ y +ℤ c *ℤ w ≡ pos 0 → a ≡ neg_ℤ a' → b ≡ pos 0 → c ≡ c' → a' *ℤ x ≡ c' *ℤ w
      level a a' x b y c c' w e f g i =
          let p : a *ℤ x ≡ neg_ℤ (a' *ℤ x) = ap (λ t. t *ℤ x) f ∙ solve (a' ∷ x ∷ []) (times (minus (var 0)) (var 1)) (minus (times (var 0) (var 1))) tt in
          let q : b *ℤ y ≡ pos 0 *ℤ y = ap (λ t. t *ℤ y) g in
          let r : c *ℤ w ≡ c' *ℤ w = ap (λ t. t *ℤ w) i in
          omega (arith, ints, e, p, q, r)

  -- a point on the line with a height between those of two is between them
  middle : (z e f k : ℕ) → z < n → e < n → f < n → k < n → left S z e f → o e f k ≡ pos 0 → h e <ℤ h k → h k <ℤ h f → between e f k
  middle z e f k hz he hf hk l flat ek kf = S.inside e f k z flat (back_turned S first) second
    where
      ef : IsPos (h f +ℤ neg_ℤ (h e))
      ef = rise_pos (h e) (h f) (join (h e) (h k) (h f) ek kf)
        where
          join : (x y z : ℤ) → x <ℤ y → y <ℤ z → x <ℤ z
          join x y z p q = omega (arith, ints)

      first : left S z e k
      first = factor_pos (o z e k) (h f +ℤ neg_ℤ (h e)) (subst IsPos (weighed z e f k hz he hf hk flat) (mul_pos (o z e f) (h k +ℤ neg_ℤ (h e)) l (rise_pos (h e) (h k) ek))) ef

      -- z f k against z f e
      second : left S z k f
      second = factor_pos (o z k f) (h f +ℤ neg_ℤ (h e)) (subst IsPos (other (o z e f) (o z e k) (o z k f) (h e) (h k) (h f) (parts z e f k flat) (weighed z e f k hz he hf hk flat)) (mul_pos (o z e f) (h f +ℤ neg_ℤ (h k)) l (rise_pos (h k) (h f) kf))) ef

  -- a point between two has a height between theirs
  within : (z e f k : ℕ) → z < n → e < n → f < n → k < n → left S z e f → between e f k → h e <ℤ h f → (h e <ℤ h k) × (h k <ℤ h f)
  within z e f k hz he hf hk l m ef = (over (h e) (h k) first, over (h k) (h f) second)
    where
      flat : o e f k ≡ pos 0
      flat = S.between_flat e f k m

      sides : left S z e k × left S z k f
      sides = S.between_left z e f k l m

      over : (x y : ℤ) → IsPos (y +ℤ neg_ℤ x) → x <ℤ y
      over x y p = omega (arith, ints, p)

      first : IsPos (h k +ℤ neg_ℤ (h e))
      first = factor_pos (h k +ℤ neg_ℤ (h e)) (o z e f) (subst IsPos (sym (weighed z e f k hz he hf hk flat) ∙ mul_comm (o z e f) (h k +ℤ neg_ℤ (h e))) (mul_pos (o z e k) (h f +ℤ neg_ℤ (h e)) sides.0 (rise_pos (h e) (h f) ef))) l

      second : IsPos (h f +ℤ neg_ℤ (h k))
      second = factor_pos (h f +ℤ neg_ℤ (h k)) (o z e f) (subst IsPos (sym (other (o z e f) (o z e k) (o z k f) (h e) (h k) (h f) (parts z e f k flat) (weighed z e f k hz he hf hk flat)) ∙ mul_comm (o z e f) (h f +ℤ neg_ℤ (h k))) (mul_pos (o z k f) (h f +ℤ neg_ℤ (h e)) sides.1 (rise_pos (h e) (h f) ef))) l

-- the same line from the other side
under : (S : Plane) → Slope S → Slope S
under S H = record {
  h = λ i. neg_ℤ (H.h i);
  balance = λ p u v w hp hu hv hw. turned_over (S.o p u v) (S.o p v w) (S.o p w u) (H.h p) (H.h u) (H.h v) (H.h w) (H.balance p u v w hp hu hv hw);
  distinct = λ a b ha hb e. H.distinct a b ha hb (negated (H.h a) (H.h b) e);
}
  where
    negated : (x y : ℤ) → neg_ℤ x ≡ neg_ℤ y → x ≡ y
    negated x y e = omega (arith, ints, e)

    turned_over : (a b c p u v w : ℤ) → a *ℤ (w +ℤ neg_ℤ p) +ℤ b *ℤ (u +ℤ neg_ℤ p) +ℤ c *ℤ (v +ℤ neg_ℤ p) ≡ pos 0
        → a *ℤ (neg_ℤ w +ℤ neg_ℤ (neg_ℤ p)) +ℤ b *ℤ (neg_ℤ u +ℤ neg_ℤ (neg_ℤ p)) +ℤ c *ℤ (neg_ℤ v +ℤ neg_ℤ (neg_ℤ p)) ≡ pos 0
    turned_over a b c p u v w e =
        solve (a ∷ b ∷ c ∷ p ∷ u ∷ v ∷ w ∷ [])
        (plus (plus (times (var 0) (plus (minus (var 6)) (minus (minus (var 3))))) (times (var 1) (plus (minus (var 4)) (minus (minus (var 3)))))) (times (var 2) (plus (minus (var 5)) (minus (minus (var 3))))))
        (minus (plus (plus (times (var 0) (plus (var 6) (minus (var 3)))) (times (var 1) (plus (var 4) (minus (var 3))))) (times (var 2) (plus (var 5) (minus (var 3)))))) tt
        ∙ ap neg_ℤ e

-- ---- chains
-- the point t is over the side from c j on
pub record Over (S : Plane) (H : Slope S) (c : ℕ → ℕ) (m t j : ℕ) : Type 0 where
  pub within : suc j < m
  pub from : H.h (c j) ≤ℤ H.h t
  pub to : H.h t ≤ℤ H.h (c (suc j))
  pub at_left : (t ≡ c j) ⊎ ((t ≡ c (suc j)) ⊎ left S (c j) (c (suc j)) t)

pub record Chain (S : Plane) (H : Slope S) (c : ℕ → ℕ) (m : ℕ) : Type 0 where
  pub named : (j : ℕ) → j < m → c j < S.n
  pub rises : (j : ℕ) → suc j < m → H.h (c j) <ℤ H.h (c (suc j))
  pub turns : (j : ℕ) → suc (suc j) < m → ¬ left S (c (suc j)) (c j) (c (suc (suc j)))
  pub over : (t : ℕ) → t < S.n → (j : ℕ) × Over S H c m t j

module _ (S : Plane) (H : Slope S) (c : ℕ → ℕ) (m : ℕ) (C : Chain S H c m) where
  open S use {n, o, between}
  open H use {h}

  earlier : {j : ℕ} → suc j < m → j < m
  earlier l = omega (arith, l)

  higher : (i j : ℕ) → i ≤ j → j < m → h (c i) ≤ℤ h (c j)
  higher i zero le l = same i (omega (arith, le))
    where
      same : (i : ℕ) → i ≡ 0 → h (c i) ≤ℤ h (c 0)
      same i e = subst (λ k. h (c k) ≤ℤ h (c 0)) (sym e) (omega (arith, ints))
  higher i (suc j) le l = by_test (ℕ_discrete i (suc j)) (λ k. higher i j k (earlier l))
    where
      by_test : Dec (i ≡ suc j) → (i ≤ j → h (c i) ≤ℤ h (c j)) → h (c i) ≤ℤ h (c (suc j))
      by_test (yes e) _ = subst (λ k. h (c k) ≤ℤ h (c (suc j))) (sym e) (omega (arith, ints))
      by_test (no ne) again = le_join (h (c i)) (h (c j)) (h (c (suc j))) (again (omega (arith, le, ne))) (lt_le (h (c j)) (h (c (suc j))) (C.rises j l))

  abbrev Left : ℕ → ℕ → Type 0
  Left i t = AtLeft S H (c i) (c (suc i)) t

  at_over : (t j : ℕ) → Over S H c m t j → Left j t
  at_over t j O = by_case O.at_left
    where
      by_case : (t ≡ c j) ⊎ ((t ≡ c (suc j)) ⊎ left S (c j) (c (suc j)) t) → Left j t
      by_case (inl e) = subst (λ k. AtLeft S H (c j) (c (suc j)) k) (sym e) (zero_weak _ (flat_ends S (c j) (c (suc j))))
      by_case (inr (inl e)) = subst (λ k. AtLeft S H (c j) (c (suc j)) k) (sym e) (zero_weak _ (flat_last S (c j) (c (suc j))))
      by_case (inr (inr l)) = weak _ l

  turn_left : (i : ℕ) → suc (suc i) < m → AtLeft S H (c i) (c (suc i)) (c (suc (suc i)))
  turn_left i l = at_left S H (c i) (c (suc i)) (c (suc (suc i))) (C.turns i l)

  before : (i t : ℕ) → suc (suc i) < m → t < n → Left (suc i) t → h (c (suc i)) ≤ℤ h t → Left i t
  before i t l ht k up = back_over S H (c i) (c (suc i)) (c (suc (suc i))) t (C.named i (earlier (earlier l))) (C.named (suc i) (earlier l)) (C.named (suc (suc i)) l) ht (C.rises i (earlier l)) (C.rises (suc i) l) (turn_left i l) k up

  after : (i t : ℕ) → suc (suc i) < m → t < n → Left i t → h t ≤ℤ h (c (suc i)) → Left (suc i) t
  after i t l ht k down = forth_over S H (c i) (c (suc i)) (c (suc (suc i))) t (C.named i (earlier (earlier l))) (C.named (suc i) (earlier l)) (C.named (suc (suc i)) l) ht (C.rises i (earlier l)) (C.rises (suc i) l) (turn_left i l) k down

  down_from : (t j : ℕ) → t < n → suc j < m → Left j t → h (c j) ≤ℤ h t → (i : ℕ) → i ≤ j → Left i t
  down_from t zero ht l k up i le = subst (λ q. Left q t) (none i le) k
    where
      none : (i : ℕ) → i ≤ 0 → 0 ≡ i
      none i le = omega (arith, le)
  down_from t (suc j) ht l k up i le = by_test (ℕ_discrete i (suc j)) (λ p. down_from t j ht (earlier l) (before j t l ht k up) (le_join (h (c j)) (h (c (suc j))) (h t) (lt_le (h (c j)) (h (c (suc j))) (C.rises j (earlier l))) up) i p)
    where
      by_test : Dec (i ≡ suc j) → (i ≤ j → Left i t) → Left i t
      by_test (yes e) _ = subst (λ q. Left q t) (sym e) k
      by_test (no ne) again = again (omega (arith, le, ne))

  up_from : (t j : ℕ) → t < n → Left j t → h t ≤ℤ h (c (suc j)) → (i : ℕ) → j ≤ i → suc i < m → Left i t
  up_from t j ht k down zero le l = subst (λ q. Left q t) (none j le) k
    where
      none : (j : ℕ) → j ≤ 0 → j ≡ 0
      none j le = omega (arith, le)
  up_from t j ht k down (suc i) le l = by_test (ℕ_discrete j (suc i)) (λ p. up_from t j ht k down i p (earlier l))
    where
      by_test : Dec (j ≡ suc i) → (j ≤ i → Left i t) → Left (suc i) t
      by_test (yes e) _ = subst (λ q. Left q t) e k
      by_test (no ne) again = let p : j ≤ i = omega (arith, le, ne) in after i t l ht (again p) (le_join (h t) (h (c (suc j))) (h (c (suc i))) down (higher (suc j) (suc i) (omega (arith, p)) (earlier l)))

  -- all points are on the left of each side
  on_left : (i t : ℕ) → suc i < m → t < n → Left i t
  on_left i t l ht = by_over (C.over t ht)
    where
      by_over : (j : ℕ) × Over S H c m t j → Left i t
      by_over (j, O) = by_test (dec_lt j i)
        where
          by_test : Dec (j < i) → Left i t
          by_test (yes k) = up_from t j ht (at_over t j O) O.to i (omega (arith, k)) l
          by_test (no nk) = down_from t j ht O.within (at_over t j O) O.from i (omega (arith, nk))

  pub closed : (i t : ℕ) → suc i < m → t < n → ¬ left S (c (suc i)) (c i) t
  closed i t l ht = not_right S H (c i) (c (suc i)) t (on_left i t l ht)

  -- a point off the line of two points, seen from which the way turns left, or the way back does
  seen : (a b : ℕ) → a < n → b < n → a ≢ b → (z : ℕ) × (z < n) × (left S z a b ⊎ left S z b a)
  seen a b ha hb ne = by_side (S.off_line a b ha hb ne)
    where
      by_side : (k : ℕ) × (k < n) × (left S a b k ⊎ left S b a k) → (z : ℕ) × (z < n) × (left S z a b ⊎ left S z b a)
      by_side (k, hk, inl l) = (k, hk, inl (back_turned S l))
      by_side (k, hk, inr l) = (k, hk, inr (back_turned S l))

  neg_lt : (x y : ℤ) → x <ℤ y → neg_ℤ y <ℤ neg_ℤ x
  neg_lt x y l = omega (arith, ints)

  neg_back : (x y : ℤ) → neg_ℤ y <ℤ neg_ℤ x → x <ℤ y
  neg_back x y l = omega (arith, ints)

  apart_by : (a b : ℕ) → h a <ℤ h b → a ≢ b
  apart_by a b l e = not_back (h a) (h b) l (subst (λ k. h k ≤ℤ h a) e (omega (arith, ints)))

  -- heights of points between two, either way round
  heights : (a b k : ℕ) → a < n → b < n → k < n → h a <ℤ h b → between a b k → (h a <ℤ h k) × (h k <ℤ h b)
  unfolding under
  heights a b k ha hb hk l m = by_side (seen a b ha hb (apart_by a b l))
    where
      by_side : (z : ℕ) × (z < n) × (left S z a b ⊎ left S z b a) → (h a <ℤ h k) × (h k <ℤ h b)
      by_side (z, hz, inl t) = within S H z a b k hz ha hb hk t m l
      by_side (z, hz, inr t) =
          let w = within S (under S H) z b a k hz hb ha hk t (S.between_swap a b k m) (neg_lt (h a) (h b) l) in
          (neg_back (h a) (h k) w.1, neg_back (h k) (h b) w.0)

  lies_between : (a b k : ℕ) → a < n → b < n → k < n → o a b k ≡ pos 0 → h a <ℤ h k → h k <ℤ h b → between a b k
  unfolding under
  lies_between a b k ha hb hk flat ak kb = by_side (seen a b ha hb (apart_by a b (join (h a) (h k) (h b) ak kb)))
    where
      join : (x y z : ℤ) → x <ℤ y → y <ℤ z → x <ℤ z
      join x y z p q = omega (arith, ints)

      by_side : (z : ℕ) × (z < n) × (left S z a b ⊎ left S z b a) → between a b k
      by_side (z, hz, inl t) = middle S H z a b k hz ha hb hk t flat ak kb
      by_side (z, hz, inr t) = S.between_swap b a k (middle S (under S H) z b a k hz hb ha hk t (flat_swap S a b k flat) (neg_lt (h k) (h b) kb) (neg_lt (h a) (h k) ak))

  -- no point is between the ends of a side
  pub clear : (i t : ℕ) → suc i < m → t < n → ¬ between (c i) (c (suc i)) t
  clear i t l ht mid = by_over (C.over t ht) (heights (c i) (c (suc i)) t (C.named i (earlier l)) (C.named (suc i) l) ht (C.rises i l) mid)
    where
      by_over : (j : ℕ) × Over S H c m t j → (h (c i) <ℤ h t) × (h t <ℤ h (c (suc i))) → ⊥
      by_over (j, O) (low, high) = by_tests (dec_lt j i) (dec_lt i j)
        where
          same_place : i ≡ j → (t ≡ c j) ⊎ ((t ≡ c (suc j)) ⊎ left S (c j) (c (suc j)) t) → ⊥
          same_place e (inl f) = not_back (h (c i)) (h t) low (subst (λ k. h t ≤ℤ h (c k)) (sym e) (subst (λ k. h k ≤ℤ h (c j)) (sym f) (omega (arith, ints))))
          same_place e (inr (inl f)) = not_back (h t) (h (c (suc i))) high (subst (λ k. h (c (suc k)) ≤ℤ h t) (sym e) (subst (λ k. h (c (suc j)) ≤ℤ h k) (sym f) (omega (arith, ints))))
          same_place e (inr (inr k)) = not_flat k (subst (λ q. o (c q) (c (suc q)) t ≡ pos 0) e (S.between_flat (c i) (c (suc i)) t mid))

          by_tests : Dec (j < i) → Dec (i < j) → ⊥
          by_tests (yes k) _ = not_back (h (c i)) (h t) low (le_join (h t) (h (c (suc j))) (h (c i)) O.to (higher (suc j) i (omega (arith, k)) (earlier l)))
          by_tests (no nk) (yes k) = not_back (h t) (h (c (suc i))) high (le_join (h (c (suc i))) (h (c j)) (h t) (higher (suc i) j (omega (arith, k)) (earlier O.within)) O.from)
          by_tests (no nk) (no nl) = same_place (omega (arith, nk, nl)) O.at_left

  -- ---- each rising way with all points on its left, and none between its ends, is a side
  pub linked : (a b : ℕ) → a < n → b < n → h a <ℤ h b → ((p : ℕ) → p < n → ¬ left S b a p) → ((p : ℕ) → p < n → ¬ between a b p) → (j : ℕ) × (suc j < m) × (a ≡ c j) × (b ≡ c (suc j))
  linked a b ha hb ab sides free = by_over (C.over a ha)
    where
      on : (p : ℕ) → p < n → AtLeft S H a b p
      on p hp = at_left S H a b p (sides p hp)

      both_flat : (x y : ℤ) → x ≡ neg_ℤ y → pos 0 ≤ℤ x → pos 0 ≤ℤ y → y ≡ pos 0
      both_flat x y e p q = omega (arith, ints, e, p, q)

      last_swap : (p b t : ℕ) → o p t b ≡ neg_ℤ (o p b t)
      last_swap p b t = S.cycle p t b ∙ S.cycle t b p ∙ S.swap p b t

      -- a is the start of the side
      from_start : (j : ℕ) → suc j < m → a ≡ c j → (j : ℕ) × (suc j < m) × (a ≡ c j) × (b ≡ c (suc j))
      from_start j l e = (j, l, e, by_test (ℕ_discrete b (c (suc j))))
        where
          w : ℕ
          w = c (suc j)

          hw : w < n
          hw = C.named (suc j) l

          rises : h a <ℤ h w
          rises = subst (λ k. h k <ℤ h w) (sym e) (C.rises j l)

          flat : o a b w ≡ pos 0
          flat = both_flat (o a w b) (o a b w) (last_swap a b w) (subst (λ k. AtLeft S H k w b) (sym e) (on_left j b l hb)) (on w hw)

          by_order : b ≢ w → Dec (h b ≡ h w) → (h b <ℤ h w) ⊎ (h w ≤ℤ h b) → ⊥
          by_order ne (yes same) _ = ne (H.distinct b w hb hw same)
          by_order ne (no differ) (inl less) = clear j b l hb (subst (λ k. between k w b) e (lies_between a w b ha hw hb (zero_of (o a w b) (o a b w) (last_swap a b w) flat) ab less))
            where
              zero_of : (x y : ℤ) → x ≡ neg_ℤ y → y ≡ pos 0 → x ≡ pos 0
              zero_of x y e f = omega (arith, ints, e, f)
          by_order ne (no differ) (inr more) = free w hw (lies_between a b w ha hb hw flat rises (strict (h w) (h b) more (λ s. differ (sym s))))
            where
              strict : (x y : ℤ) → x ≤ℤ y → (x ≢ y) → x <ℤ y
              strict x y p q = omega (arith, ints, p, q)

          by_test : Dec (b ≡ w) → b ≡ w
          by_test (yes s) = s
          by_test (no ne) = absurd (by_order ne (same_int (h b) (h w)) (order (h b) (h w)))
            where
              same_int : (x y : ℤ) → Dec (x ≡ y)
              same_int x y = by_sign (signs (x +ℤ neg_ℤ y))
                where
                  by_sign : IsPos (x +ℤ neg_ℤ y) ⊎ (IsPos (neg_ℤ (x +ℤ neg_ℤ y)) ⊎ (x +ℤ neg_ℤ y ≡ pos 0)) → Dec (x ≡ y)
                  by_sign (inl p) = no (λ e. omega (arith, ints, e, p))
                  by_sign (inr (inl p)) = no (λ e. omega (arith, ints, e, p))
                  by_sign (inr (inr p)) = yes (omega (arith, ints, p))

              order : (x y : ℤ) → (x <ℤ y) ⊎ (y ≤ℤ x)
              order x y = by_sign (signs (y +ℤ neg_ℤ x))
                where
                  by_sign : IsPos (y +ℤ neg_ℤ x) ⊎ (IsPos (neg_ℤ (y +ℤ neg_ℤ x)) ⊎ (y +ℤ neg_ℤ x ≡ pos 0)) → (x <ℤ y) ⊎ (y ≤ℤ x)
                  by_sign (inl p) = inl (omega (arith, ints, p))
                  by_sign (inr (inl p)) = inr (omega (arith, ints, p))
                  by_sign (inr (inr p)) = inr (omega (arith, ints, p))

      -- it isn't the end of the last side
      from_end : (j : ℕ) → suc j < m → a ≡ c (suc j) → (j : ℕ) × (suc j < m) × (a ≡ c j) × (b ≡ c (suc j))
      from_end j l e = by_test (dec_lt (suc (suc j)) m)
        where
          top : (i : ℕ) → Over S H c m b i → ¬ (suc (suc j) < m) → ⊥
          top i O nl = not_back (h a) (h b) ab (le_join (h b) (h (c (suc i))) (h a) O.to (subst (λ k. h (c (suc i)) ≤ℤ h k) (sym e) (higher (suc i) (suc j) (let w = O.within in omega (arith, w, nl)) l)))

          by_test : Dec (suc (suc j) < m) → (j : ℕ) × (suc j < m) × (a ≡ c j) × (b ≡ c (suc j))
          by_test (yes k) = from_start (suc j) k e
          by_test (no nk) = let t = C.over b hb in absurd (top t.0 t.1 nk)

      by_over : (j : ℕ) × Over S H c m a j → (j : ℕ) × (suc j < m) × (a ≡ c j) × (b ≡ c (suc j))
      by_over (j, O) = by_case O.at_left
        where
          by_case : (a ≡ c j) ⊎ ((a ≡ c (suc j)) ⊎ left S (c j) (c (suc j)) a) → (j : ℕ) × (suc j < m) × (a ≡ c j) × (b ≡ c (suc j))
          by_case (inl e) = from_start j O.within e
          by_case (inr (inl e)) = from_end j O.within e
          by_case (inr (inr l)) = let hu = C.named j (earlier O.within) in let hv = C.named (suc j) O.within in absurd (not_over S H (c j) (c (suc j)) a b hu hv ha hb l O.from O.to ab (on (c j) hu) (on (c (suc j)) hv))
