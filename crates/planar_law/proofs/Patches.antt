-- A set of triangles that fit together at their sides is a triangulation.
use Rattle.std.proofs.Common.{◌≡◌, ◌≢◌, ◌⊎◌, inl, inr, ℕ, zero, suc, ◌<◌, ℤ, pos, ◌+ℤ◌, ◌*ℤ◌, neg_ℤ, sym, ap, ◌∙◌, subst, arith}
use Rattle.std.proofs.lemmas.Int.{ints}
use native.Mathlib.Decide.{ℕ_discrete}
use Rattle.geo_orient.proofs.Ring.{mul_comm, mul-neg}
use Rattle.geo_orient.proofs.IntSigns.{IsPos, signs, mul_pos, factor_zero}
use Rattle.tri_theory.proofs.Plane.{Plane, left, negs, turned, back_turned, not_both, sides_of, flat_swap, flat_turn}
use Rattle.tri_theory.proofs.Net.{Tri, Net, not_flat}
use Rattle.planar_law.proofs.Spots.{Spot, IsFree, corner, mix, near, IsNear}
use Rattle.planar_law.proofs.Once.{Patch, IsTurned, one_over}

neg_first : (u v : ℤ) → neg_ℤ u *ℤ v ≡ neg_ℤ (u *ℤ v)
neg_first u v = mul_comm (neg_ℤ u) v ∙ mul-neg v u ∙ ap neg_ℤ (mul_comm v u)

-- a place near A in the direction of u, and very near that way on the side of v
pub record IsBeside (S : Plane) (A : Spot S) (u v : ℕ) (C : Spot S) : Type 0 where
  pub first : (x y : ℕ) → x < S.n → y < S.n → IsPos (A.turn x y) → IsPos (C.turn x y)
  pub second : (x y : ℕ) → x < S.n → y < S.n → A.turn x y ≡ pos 0 → IsPos (S.o x y u) → IsPos (C.turn x y)
  pub third : (x y : ℕ) → x < S.n → y < S.n → A.turn x y ≡ pos 0 → S.o x y u ≡ pos 0 → IsPos (S.o x y v) → IsPos (C.turn x y)

beside : (S : Plane) (A : Spot S) (u v : ℕ) → (C : Spot S) × IsBeside S A u v C
beside S A u v = by_places (near S (corner S u) (corner S v)) (λ D. near S A D)
  where
    by_places : (D : Spot S) × IsNear S (corner S u) (corner S v) D → ((D : Spot S) → (C : Spot S) × IsNear S A D C) → (C : Spot S) × IsBeside S A u v C
    by_places (D, d) nearer = by_place (nearer D)
      where
        by_place : (C : Spot S) × IsNear S A D C → (C : Spot S) × IsBeside S A u v C
        by_place (C, c) = (
          C,
          record {
            first = c.kept;
            second = λ x y hx hy e h. subst IsPos (sym (c.moved x y e)) (d.kept x y hx hy h);
            third = λ x y hx hy e f h. subst IsPos (sym (c.moved x y e ∙ d.moved x y f)) h;
          },
        )

zero_neg : {z w : ℤ} → w ≡ neg_ℤ z → z ≡ pos 0 → w ≡ pos 0
zero_neg {z} {w} e f = omega (arith, ints, e, f)

module _ (S : Plane) where
  open S use {n, o, between}

  pub flat_first : (a b : ℕ) → o a a b ≡ pos 0
  flat_first a b = own (o a a b) (S.swap a a b)
    where
      own : (z : ℤ) → z ≡ neg_ℤ z → z ≡ pos 0
      own z e = omega (arith, ints, e)

  pub flat_last : (a b : ℕ) → o a b b ≡ pos 0
  flat_last a b = S.cycle a b b ∙ flat_first b a

  pub flat_ends : (a b : ℕ) → o a b a ≡ pos 0
  flat_ends a b = S.cycle a b a ∙ flat_last b a

  -- three points on one line
  one_line : (x y a b c : ℕ) → x < n → y < n → x ≢ y → o x y a ≡ pos 0 → o x y b ≡ pos 0 → o x y c ≡ pos 0 → o a b c ≡ pos 0
  one_line x y a b c hx hy ne ea eb ec =
      sum (o a b x) (o b c x) (o c a x) (o a b c) (S.summed a b c x) (sym (S.cycle x a b) ∙ S.same_line x y a b hx hy ne ea eb) (sym (S.cycle x b c) ∙ S.same_line x y b c hx hy ne eb ec) (sym (S.cycle x c a) ∙ S.same_line x y c a hx hy ne ec ea)
    where
      sum : (u v w t : ℤ) → u +ℤ v +ℤ w ≡ t → u ≡ pos 0 → v ≡ pos 0 → w ≡ pos 0 → t ≡ pos 0
      sum u v w t e f g h = omega (arith, ints, e, f, g, h)

  -- such a place is on no line of two points
  beside_free : (A : Spot S) (u v : ℕ) (C : Spot S) → IsBeside S A u v C → ((x y : ℕ) → x < n → y < n → x ≢ y → A.turn x y ≡ pos 0 → o x y u ≡ pos 0 → o x y v ≡ pos 0 → ⊥) → IsFree S C
  beside_free A u v C B out x y hx hy ne e = by_first (signs (A.turn x y))
    where
      back : C.turn y x ≡ pos 0
      back = zero_neg (C.swap x y) e

      by_third : A.turn x y ≡ pos 0 → o x y u ≡ pos 0 → IsPos (o x y v) ⊎ (IsPos (neg_ℤ (o x y v)) ⊎ (o x y v ≡ pos 0)) → ⊥
      by_third f g (inl h) = not_flat (B.third x y hx hy f g h) e
      by_third f g (inr (inl h)) = not_flat (B.third y x hy hx (zero_neg (A.swap x y) f) (zero_neg (S.swap x y u) g) (subst IsPos (sym (S.swap x y v)) h)) back
      by_third f g (inr (inr h)) = out x y hx hy ne f g h

      by_second : A.turn x y ≡ pos 0 → IsPos (o x y u) ⊎ (IsPos (neg_ℤ (o x y u)) ⊎ (o x y u ≡ pos 0)) → ⊥
      by_second f (inl h) = not_flat (B.second x y hx hy f h) e
      by_second f (inr (inl h)) = not_flat (B.second y x hy hx (zero_neg (A.swap x y) f) (subst IsPos (sym (S.swap x y u)) h)) back
      by_second f (inr (inr g)) = by_third f g (signs (o x y v))

      by_first : IsPos (A.turn x y) ⊎ (IsPos (neg_ℤ (A.turn x y)) ⊎ (A.turn x y ≡ pos 0)) → ⊥
      by_first (inl h) = not_flat (B.first x y hx hy h) e
      by_first (inr (inl h)) = not_flat (B.first y x hy hx (subst IsPos (sym (A.swap x y)) h)) back
      by_first (inr (inr f)) = by_second f (signs (o x y u))

module _ (S : Plane) (J : ℕ → ℕ → Type 0) (T : ℕ → ℕ → ℕ → Type 0) (P : Patch S J T) where
  open S use {n, o, between}

  start : {a b : ℕ} → J a b → a < n
  start j = P.in_range (P.symm j)

  -- ---- two triangles over one place
  -- p is a corner of the one, and lies in the other, or on its side with the one on the same side
  at_corner : (p u v x y z : ℕ) → T p u v → T x y z → left S y z p → left S z x p → left S x y p ⊎ ((o x y p ≡ pos 0) × (left S x y u ⊎ left S x y v)) → p ≢ x → p ≢ y → p ≢ z → ⊥
  at_corner p u v x y z t s yz zx side px py pz = by_side side
    where
      hp : p < n
      hp = start (P.side t)

      hu : u < n
      hu = P.in_range (P.side t)

      hv : v < n
      hv = P.in_range (P.side (P.next t))

      hx : x < n
      hx = start (P.side s)

      hy : y < n
      hy = P.in_range (P.side s)

      hz : z < n
      hz = P.in_range (P.side (P.next s))

      A : Spot S
      A = corner S p

      none : IsTurned x y z p u v → ⊥
      none (inl h) = px h.0
      none (inr (inl h)) = py h.0
      none (inr (inr h)) = pz h.0

      toward : (C : Spot S) → IsBeside S A u v C → IsPos (C.turn x y) → ⊥
      toward C B xy =
          one_over S J T P C (beside_free S A u v C B (λ a b ha hb ne e f g. not_flat (P.turns t) (one_line S a b p u v ha hb ne e f g))) x y z p u v s t
          (record { ab = xy; bc = B.first y z hy hz yz; ca = B.first z x hz hx zx })
          (record { ab = B.third p u hp hu (flat_ends S p u) (flat_last S p u) (P.turns t); bc = B.first u v hu hv (turned S (P.turns t)); ca = B.second v p hv hp (flat_last S v p) (back_turned S (P.turns t)) })
          none

      across : (C : Spot S) → IsBeside S A v u C → IsPos (C.turn x y) → ⊥
      across C B xy =
          one_over S J T P C (beside_free S A v u C B (λ a b ha hb ne e f g. not_flat (P.turns t) (one_line S a b p u v ha hb ne e g f))) x y z p u v s t
          (record { ab = xy; bc = B.first y z hy hz yz; ca = B.first z x hz hx zx })
          (record { ab = B.second p u hp hu (flat_ends S p u) (P.turns t); bc = B.first u v hu hv (turned S (P.turns t)); ca = B.third v p hv hp (flat_last S v p) (flat_ends S v p) (back_turned S (P.turns t)) })
          none

      by_side : left S x y p ⊎ ((o x y p ≡ pos 0) × (left S x y u ⊎ left S x y v)) → ⊥
      by_side (inl h) = let c = beside S A u v in toward c.0 c.1 (c.1.first x y hx hy h)
      by_side (inr (e, inl h)) = let c = beside S A u v in toward c.0 c.1 (c.1.second x y hx hy e h)
      by_side (inr (e, inr h)) = let c = beside S A v u in across c.0 c.1 (c.1.second x y hx hy e h)

  -- each point is a corner of a triangle
  corner_of : (p : ℕ) → p < n → (u v : ℕ) × T p u v
  corner_of p hp = by_end (P.ends p hp)
    where
      by_end : (q : ℕ) × J p q → (u v : ℕ) × T p u v
      by_end (q, j) = by_side (S.off_line p q hp (P.in_range j) (P.apart j))
        where
          on_left : (c : ℕ) × T p q c → (u v : ℕ) × T p u v
          on_left (c, t) = (q, c, t)

          on_right : (c : ℕ) × T q p c → (u v : ℕ) × T p u v
          on_right (c, t) = (c, q, P.next t)

          by_side : (k : ℕ) × (k < n) × (left S p q k ⊎ left S q p k) → (u v : ℕ) × T p u v
          by_side (k, hk, inl h) = on_left (P.full k j hk h)
          by_side (k, hk, inr h) = on_right (P.full k (P.symm j) hk h)

  -- a side has a triangle on its left, or no point lies there
  third_or_none : (a b : ℕ) → J a b → ((c : ℕ) × T a b c) ⊎ ((p : ℕ) → p < n → ¬ left S a b p)
  third_or_none a b j = by_search (search n)
    where
      search : (m : ℕ) → ((c : ℕ) × T a b c) ⊎ ((c : ℕ) → c < m → ¬ T a b c)
      search zero = inr (λ c h. absurd (omega (arith, h)))
      search (suc m) = by_test (P.is a b m) (search m)
        where
          by_test : Dec (T a b m) → ((c : ℕ) × T a b c) ⊎ ((c : ℕ) → c < m → ¬ T a b c) → ((c : ℕ) × T a b c) ⊎ ((c : ℕ) → c < suc m → ¬ T a b c)
          by_test (yes t) _ = inl (m, t)
          by_test (no nt) (inl found) = inl found
          by_test (no nt) (inr none) = inr (λ c h t. by_place c h t (ℕ_discrete c m))
            where
              by_place : (c : ℕ) → c < suc m → T a b c → Dec (c ≡ m) → ⊥
              by_place c h t (yes e) = nt (subst (λ k. T a b k) e t)
              by_place c h t (no ne) = none c (omega (arith, h, ne)) t

      by_search : ((c : ℕ) × T a b c) ⊎ ((c : ℕ) → c < n → ¬ T a b c) → ((c : ℕ) × T a b c) ⊎ ((p : ℕ) → p < n → ¬ left S a b p)
      by_search (inl found) = inl found
      by_search (inr none) = inr (λ p hp h. let f = P.full p j hp h in none f.0 (P.in_range (P.side (P.next f.1))) f.1)

  -- ---- no point lies between the ends of a member
  clear : (a b : ℕ) → J a b → (p : ℕ) → p < n → ¬ between a b p
  clear a b j p hp m = by_thirds (third_or_none a b j) (third_or_none b a (P.symm j))
    where
      flat : o a b p ≡ pos 0
      flat = S.between_flat a b p m

      beyond_last : (u v w : ℕ) → left S u v w → o u v p ≡ pos 0 → p ≢ w
      beyond_last u v w h e f = not_flat h (subst (λ k. o u v k ≡ pos 0) f e)

      ends_off : (u v : ℕ) → left S u v p → p ≢ v
      ends_off u v h e = not_flat (subst (λ k. left S u v k) e h) (flat_last S u v)

      starts_off : (u v : ℕ) → left S u v p → p ≢ u
      starts_off u v h e = not_flat (subst (λ k. left S u v k) e h) (flat_ends S u v)

      beside_it : (x y z u v : ℕ) → T x y z → T p u v → between x y p → left S x y u ⊎ left S x y v → ⊥
      beside_it x y z u v s t k h =
          let e = S.between_flat x y p k in
          let sides = S.between_left z x y p (back_turned S (P.turns s)) k in
          let yz : left S y z p = turned S (turned S sides.1) in
          at_corner p u v x y z t s yz sides.0 (inr (e, h)) (ends_off z x sides.0) (starts_off y z yz) (beyond_last x y z (P.turns s) e)

      by_corner : (c d : ℕ) → T a b c → T b a d → (u v : ℕ) × T p u v → ⊥
      by_corner c d s r (u, v, t) = by_first (sides_of S a b u)
        where
          on_left : left S a b u ⊎ left S a b v → ⊥
          on_left h = beside_it a b c u v s t m h

          on_right : left S b a u ⊎ left S b a v → ⊥
          on_right h = beside_it b a d u v r t (S.between_swap a b p m) h

          by_second : o a b u ≡ pos 0 → left S a b v ⊎ (left S b a v ⊎ (o a b v ≡ pos 0)) → ⊥
          by_second e (inl h) = on_left (inr h)
          by_second e (inr (inl h)) = on_right (inr h)
          by_second e (inr (inr f)) = not_flat (P.turns t) (one_line S a b p u v (start j) (P.in_range j) (P.apart j) flat e f)

          by_first : left S a b u ⊎ (left S b a u ⊎ (o a b u ≡ pos 0)) → ⊥
          by_first (inl h) = on_left (inl h)
          by_first (inr (inl h)) = on_right (inl h)
          by_first (inr (inr e)) = by_second e (sides_of S a b v)

      by_thirds : ((c : ℕ) × T a b c) ⊎ ((p : ℕ) → p < n → ¬ left S a b p) → ((c : ℕ) × T b a c) ⊎ ((p : ℕ) → p < n → ¬ left S b a p) → ⊥
      by_thirds (inr none) _ = P.outer j none p hp m
      by_thirds (inl s) (inr none) = P.outer (P.symm j) none p hp (S.between_swap a b p m)
      by_thirds (inl (c, s)) (inl (d, r)) = by_corner c d s r (corner_of p hp)

  -- ---- a triangle has no points but its corners
  on_side : (a b c p : ℕ) → T a b c → p < n → p ≢ a → p ≢ b → o a b p ≡ pos 0 → left S b c p ⊎ (o b c p ≡ pos 0) → left S c a p ⊎ (o c a p ≡ pos 0) → ⊥
  on_side a b c p t hp pa pb flat (inl h) (inl k) = clear a b (P.side t) p hp (S.inside a b p c flat (turned S (turned S k)) (turned S h))
  on_side a b c p t hp pa pb flat (inr e) _ = not_flat (P.turns t) (flat_swap S b a c (S.same_line b p a c (P.in_range (P.side t)) hp (λ f. pb (sym f)) (flat_turn S a b p flat) (flat_swap S p b c (flat_turn S c p b (flat_turn S b c p e)))))
  on_side a b c p t hp pa pb flat (inl h) (inr e) = not_flat (P.turns t) (S.same_line a p b c (start (P.side t)) hp (λ f. pa (sym f)) (flat_swap S p a b (flat_turn S b p a (flat_turn S a b p flat))) (flat_turn S c a p e))

  empty : (a b c p : ℕ) → T a b c → p < n → p ≢ a → p ≢ b → p ≢ c → left S b a p ⊎ (left S c b p ⊎ left S a c p)
  empty a b c p t hp pa pb pc = by_sides (sides_of S a b p) (sides_of S b c p) (sides_of S c a p)
    where
      Side : ℕ → ℕ → Type 0
      Side x y = left S x y p ⊎ (left S y x p ⊎ (o x y p ≡ pos 0))

      not_in : left S a b p → left S b c p → left S c a p → (u v : ℕ) × T p u v → ⊥
      not_in h k l (u, v, s) = at_corner p u v a b c s t k l (inl h) pa pb pc

      by_sides : Side a b → Side b c → Side c a → left S b a p ⊎ (left S c b p ⊎ left S a c p)
      by_sides (inr (inl h)) _ _ = inl h
      by_sides (inl h) (inr (inl k)) _ = inr (inl k)
      by_sides (inr (inr e)) (inr (inl k)) _ = inr (inl k)
      by_sides (inl h) (inl k) (inr (inl l)) = inr (inr l)
      by_sides (inl h) (inr (inr f)) (inr (inl l)) = inr (inr l)
      by_sides (inr (inr e)) (inl k) (inr (inl l)) = inr (inr l)
      by_sides (inr (inr e)) (inr (inr f)) (inr (inl l)) = inr (inr l)
      by_sides (inl h) (inl k) (inl l) = absurd (not_in h k l (corner_of p hp))
      by_sides (inr (inr e)) (inl k) (inl l) = absurd (on_side a b c p t hp pa pb e (inl k) (inl l))
      by_sides (inr (inr e)) (inl k) (inr (inr g)) = absurd (on_side a b c p t hp pa pb e (inl k) (inr g))
      by_sides (inr (inr e)) (inr (inr f)) (inl l) = absurd (on_side a b c p t hp pa pb e (inr f) (inl l))
      by_sides (inr (inr e)) (inr (inr f)) (inr (inr g)) = absurd (on_side a b c p t hp pa pb e (inr f) (inr g))
      by_sides (inl h) (inr (inr f)) (inl l) = absurd (on_side b c a p (P.next t) hp pb pc f (inl l) (inl h))
      by_sides (inl h) (inr (inr f)) (inr (inr g)) = absurd (on_side b c a p (P.next t) hp pb pc f (inr g) (inl h))
      by_sides (inl h) (inl k) (inr (inr g)) = absurd (on_side c a b p (P.next (P.next t)) hp pc pa g (inl h) (inl k))

  -- ---- no two members cross
  planar : (a b c d : ℕ) → J a b → J c d → left S a b d → left S b a c → left S c d a → left S d c b → ⊥
  planar a b c d j i abd bac cda dcb = by_thirds (P.full d j (P.in_range i) abd) (P.full a i (start j) cda)
    where
      ha : a < n
      ha = start j

      hb : b < n
      hb = P.in_range j

      hc : c < n
      hc = start i

      hd : d < n
      hd = P.in_range i

      -- the place where the two cross
      A : Spot S
      A = mix S (corner S b) (corner S a) (o c d a) (o d c b) cda dcb

      zero_left : (l m x y : ℤ) → x ≡ pos 0 → IsPos m → IsPos y → IsPos (l *ℤ x +ℤ m *ℤ y)
      zero_left l m x y e h k = let f : l *ℤ x ≡ l *ℤ pos 0 = ap (λ t. l *ℤ t) e in let p = mul_pos m y h k in omega (arith, ints, f, p)

      zero_right : (l m x y : ℤ) → y ≡ pos 0 → IsPos l → IsPos x → IsPos (l *ℤ x +ℤ m *ℤ y)
      zero_right l m x y e h k = let f : m *ℤ y ≡ m *ℤ pos 0 = ap (λ t. m *ℤ t) e in let p = mul_pos l x h k in omega (arith, ints, f, p)

      zero_both : (l m x y : ℤ) → x ≡ pos 0 → y ≡ pos 0 → l *ℤ x +ℤ m *ℤ y ≡ pos 0
      zero_both l m x y e f = let g : l *ℤ x ≡ l *ℤ pos 0 = ap (λ t. l *ℤ t) e in let h : m *ℤ y ≡ m *ℤ pos 0 = ap (λ t. m *ℤ t) f in omega (arith, ints, g, h)

      balanced : (l m x : ℤ) → x ≡ neg_ℤ m → l *ℤ x +ℤ m *ℤ l ≡ pos 0
      balanced l m x e = let f : l *ℤ x ≡ neg_ℤ (l *ℤ m) = ap (λ t. l *ℤ t) e ∙ mul-neg l m in let g = mul_comm l m in omega (arith, ints, f, g)

      on_cd : A.turn c d ≡ pos 0
      on_cd = balanced (o c d a) (o d c b) (o c d b) (S.swap d c b)

      by_both : (e g : ℕ) → T a b e → T c d g → ⊥
      by_both e g s t = over (beside S A a d)
        where
          he : e < n
          he = P.in_range (P.side (P.next s))

          hg : g < n
          hg = P.in_range (P.side (P.next t))

          beyond_d : IsPos (A.turn d g)
          beyond_d = sum (o c d a) (o d g b) (o d c b) (o d g a) (o d c g) (o d b a) (o d c a) (o c d g) (o b d a) (S.exchange d c g b a) (S.swap c d g) (S.swap b d a) (S.swap c d a) (P.turns t) (turned S abd)
            where
              sum : (l gb m ga cg ba ca cg' ba' : ℤ) → m *ℤ ga ≡ cg *ℤ ba +ℤ gb *ℤ ca → cg ≡ neg_ℤ cg' → ba ≡ neg_ℤ ba' → ca ≡ neg_ℤ l → IsPos cg' → IsPos ba' → IsPos (l *ℤ gb +ℤ m *ℤ ga)
              sum l gb m ga cg ba ca cg' ba' e f g h p q =
                  let k : cg *ℤ ba ≡ cg' *ℤ ba' = negs cg' ba' cg ba f g in
                  let r : gb *ℤ ca ≡ neg_ℤ (l *ℤ gb) = ap (λ t. gb *ℤ t) h ∙ mul-neg gb l ∙ ap neg_ℤ (mul_comm gb l) in
                  let v = mul_pos cg' ba' p q in
                  omega (arith, ints, e, k, r, v)

          beyond_c : IsPos (A.turn g c)
          beyond_c = sum (o c d a) (o g c b) (o d c b) (o g c a) (o c b g) (o c d b) (o c a g) (o c b a) (o c d g) (S.exchange c d b a g) (S.cycle g c b) (S.cycle g c a) (S.swap d c b) (back_turned S bac) (P.turns t)
            where
              sum : (l gb m ga bg db ag ba dg : ℤ) → l *ℤ bg ≡ db *ℤ ag +ℤ ba *ℤ dg → gb ≡ bg → ga ≡ ag → db ≡ neg_ℤ m → IsPos ba → IsPos dg → IsPos (l *ℤ gb +ℤ m *ℤ ga)
              sum l gb m ga bg db ag ba dg e f g h p q =
                  let k : l *ℤ gb ≡ l *ℤ bg = ap (λ t. l *ℤ t) f in
                  let r : m *ℤ ga ≡ m *ℤ ag = ap (λ t. m *ℤ t) g in
                  let w : db *ℤ ag ≡ neg_ℤ (m *ℤ ag) = ap (λ t. t *ℤ ag) h ∙ neg_first m ag in
                  let v = mul_pos ba dg p q in
                  omega (arith, ints, e, k, r, w, v)

          out : (x y : ℕ) → x < n → y < n → x ≢ y → A.turn x y ≡ pos 0 → o x y a ≡ pos 0 → o x y d ≡ pos 0 → ⊥
          out x y hx hy ne ex ea ed = not_flat abd (one_line S x y a b d hx hy ne ea (factor_zero (o x y b) (o c d a) (mul_comm (o x y b) (o c d a) ∙ rest (o c d a) (o x y b) (o d c b) (o x y a) ex ea) cda) ed)
            where
              rest : (l x m y : ℤ) → l *ℤ x +ℤ m *ℤ y ≡ pos 0 → y ≡ pos 0 → l *ℤ x ≡ pos 0
              rest l x m y e f = let h : m *ℤ y ≡ m *ℤ pos 0 = ap (λ t. m *ℤ t) f in omega (arith, ints, e, h)

          none : IsTurned a b e c d g → ⊥
          none (inl h) = not_flat (subst (λ k. left S b a k) h.0 bac) (flat_last S b a)
          none (inr (inl h)) = not_flat (subst (λ k. left S b a k) h.0 bac) (flat_ends S b a)
          none (inr (inr h)) = not_both S (P.turns s) (subst (λ k. left S b a k) h.0 bac)

          over : (C : Spot S) × IsBeside S A a d C → ⊥
          over (C, B) =
              one_over S J T P C (beside_free S A a d C B out) a b e c d g s t
              (record {
                ab = B.third a b ha hb (zero_both (o c d a) (o d c b) (o a b b) (o a b a) (flat_last S a b) (flat_ends S a b)) (flat_ends S a b) abd;
                bc = B.first b e hb he (zero_left (o c d a) (o d c b) (o b e b) (o b e a) (flat_ends S b e) dcb (turned S (P.turns s)));
                ca = B.first e a he ha (zero_right (o c d a) (o d c b) (o e a b) (o e a a) (flat_last S e a) cda (back_turned S (P.turns s)));
              })
              (record { ab = B.second c d hc hd on_cd cda; bc = B.first d g hd hg beyond_d; ca = B.first g c hg hc beyond_c })
              none

      by_thirds : (e : ℕ) × T a b e → (g : ℕ) × T c d g → ⊥
      by_thirds (e, s) (g, t) = by_both e g s t

  pub net : Net S J
  net = record {
    joined = P.joined;
    symm = P.symm;
    in_range = P.in_range;
    apart = P.apart;
    clear = λ {a} {b} j p hp m. clear a b j p hp m;
    planar = λ {a} {b} {c} {d} j k h1 h2 h3 h4. planar a b c d j k h1 h2 h3 h4;
    ends = P.ends;
    sides = λ {a} {b} p j hp h. tri a b (P.full p j hp h);
  }
    where
      tri : (a b : ℕ) → (c : ℕ) × T a b c → (c : ℕ) × Tri S J a b c
      tri a b (c, t) = (c, record { turns = P.turns t; ab = P.side t; bc = P.side (P.next t); ca = P.side (P.next (P.next t)); empty = λ p hp pa pb pc. empty a b c p t hp pa pb pc })
