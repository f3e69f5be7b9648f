-- What a point above others sees of the chain on their right: all that is hidden from it is hidden by a way of a chain or by a point, and nothing that it sees is hidden.
use Rattle.std.proofs.Common.{◌≡◌, ◌⊎◌, inl, inr, ℕ, zero, suc, ◌+◌, ◌-◌, ◌<◌, ◌≤◌, ℤ, pos, ◌+ℤ◌, ◌*ℤ◌, neg_ℤ, ◌<ℤ◌, ◌≤ℤ◌, sym, ap, ◌∙◌, subst, arith}
use Rattle.std.proofs.lemmas.Int.{ints}
use native.Mathlib.Decide.{ℕ_discrete, dec_lt}
use Rattle.geo_orient.proofs.Ring.{mul_comm}
use Rattle.geo_orient.proofs.IntSigns.{IsPos, not_pos, none_neg}
use Rattle.tri_theory.proofs.Plane.{Plane, left, turned, back_turned, not_both, sides_of}
use Rattle.tri_theory.proofs.Net.{not_flat}
use Rattle.tri_theory.proofs.Edges.{sides_agree}
use Rattle.planar_law.proofs.Slopes.{Slope}
use Rattle.planar_law.proofs.Patches.{flat_ends}
use Rattle.sweep_law.proofs.Heights.{fallen, over, weak, lt_le, lt_join, last_swap, neg_product, joins, joins_flat, past_weak, past_flat, under_two, four, bends}
use Rattle.sweep_law.proofs.Rays.{order, lies_between, rises_between}

-- the chain c of m points leads from the lowest to the highest point with E, has none on its right, and leaves out none that lies on it
pub record Boundary (S : Plane) (H : Slope S) (E : ℕ → Type 0) (c : ℕ → ℕ) (m : ℕ) : Type 0 where
  pub some : 0 < m
  pub named : (s : ℕ) → E s → s < S.n
  pub member : (j : ℕ) → j < m → E (c j)
  pub rises : (i j : ℕ) → i < j → j < m → H.h (c i) <ℤ H.h (c j)
  pub lowest : (s : ℕ) → E s → H.h (c 0) ≤ℤ H.h s
  pub highest : (s j : ℕ) → E s → j + 1 ≡ m → H.h s ≤ℤ H.h (c j)
  pub closed : (j s : ℕ) → j + 1 < m → E s → pos 0 ≤ℤ S.o (c j) (c (j + 1)) s
  pub whole : (j s : ℕ) → j + 1 < m → E s → S.o (c j) (c (j + 1)) s ≡ pos 0 → (k : ℕ) × (k < m) × (s ≡ c k)

-- p lies above all of them
pub record Further (S : Plane) (H : Slope S) (E : ℕ → Type 0) (p : ℕ) : Type 0 where
  pub named : p < S.n
  pub above : (s : ℕ) → E s → H.h s <ℤ H.h p

-- p is right of each way of the chain from its place k on
pub record Seen (S : Plane) (c : ℕ → ℕ) (m p k : ℕ) : Type 0 where
  pub within : k < m
  pub ways : (i : ℕ) → k ≤ i → i + 1 < m → left S (c (i + 1)) (c i) p

-- the ways from a to b and from c to d cross
abbrev pub Meet : (S : Plane) → ℕ → ℕ → ℕ → ℕ → Type 0
Meet S a b c d = ((left S a b c × left S b a d) ⊎ (left S b a c × left S a b d)) × ((left S c d a × left S d c b) ⊎ (left S d c a × left S c d b))

-- a way of the chain crosses that from r to p, or a point with E lies between the two
abbrev pub Hidden : (S : Plane) → (ℕ → Type 0) → (ℕ → ℕ) → ℕ → ℕ → ℕ → Type 0
Hidden S E c m p r = ((j : ℕ) × (j + 1 < m) × Meet S r p (c j) (c (j + 1))) ⊎ ((s : ℕ) × E s × S.between r p s)

below_itself : (x y : ℤ) → x <ℤ y → y ≤ℤ x → ⊥
below_itself x y h k = omega (arith, ints, h, k)

both_ways : (x y : ℤ) → x ≡ neg_ℤ y → pos 0 ≤ℤ y → IsPos x → ⊥
both_ways x y e h k = omega (arith, ints, e, h, k)

neg_low : (x y : ℤ) → x ≡ neg_ℤ y → ¬ IsPos x → pos 0 ≤ℤ y
neg_low x y e h = let k = not_pos x h in omega (arith, ints, e, k)

zero_low : (x : ℤ) → x ≡ pos 0 → pos 0 ≤ℤ x
zero_low x e = omega (arith, ints, e)

zero_neg : (x y : ℤ) → x ≡ neg_ℤ y → y ≡ pos 0 → x ≡ pos 0
zero_neg x y e f = omega (arith, ints, e, f)

-- u v = s t + w r, where v, s and r are the negatives of numbers
signs_out : (u v s t w r v' s' r' : ℤ) → u *ℤ v ≡ s *ℤ t +ℤ w *ℤ r → v ≡ neg_ℤ v' → s ≡ neg_ℤ s' → r ≡ neg_ℤ r' → u *ℤ v' ≡ s' *ℤ t +ℤ w *ℤ r'
signs_out u v s t w r v' s' r' e f g i =
    let a = neg_product v v' u f in let b = neg_product s s' t g in let c = neg_product r r' w i in
    omega (arith, ints, e, a, b, c, mul_comm u v, mul_comm u v', mul_comm w r, mul_comm w r')

crossing : (S : Plane) (r p u v : ℕ) → left S p r u → left S r p v → left S u v r → left S v u p → Meet S r p u v
crossing S r p u v a b c d = (inr (a, b), inl (c, d))

module _ (S : Plane) (H : Slope S) (E : ℕ → Type 0) (c : ℕ → ℕ) (m : ℕ) (B : Boundary S H E c m) (p : ℕ) (F : Further S H E p) where
  open S use {n, o, between}
  open H use {h}

  at : (j : ℕ) → j < m → c j < n
  at j l = B.named (c j) (B.member j l)

  under : (j : ℕ) → j < m → h (c j) <ℤ h p
  under j l = F.above (c j) (B.member j l)

  next : (j : ℕ) → j + 1 < m → h (c j) <ℤ h (c (j + 1))
  next j l = B.rises j (j + 1) (omega arith) l

  low : {j : ℕ} → j + 1 < m → j < m
  low l = omega (arith, l)

  -- ---- from the first way on that has p on its right, each has
  later : (k i : ℕ) → k ≤ i → i + 1 < m → left S (c (k + 1)) (c k) p → left S (c (i + 1)) (c i) p
  later k i le l t = bends S H (c k) (c i) (c (i + 1)) p ha hc hd F.named ad (next i l) (under (i + 1) l) (turned S over_it) (B.closed i (c k) l (B.member k (omega (arith, le, l))))
    where
      ha : c k < n
      ha = at k (omega (arith, le, l))

      hb : c (k + 1) < n
      hb = at (k + 1) (omega (arith, le, l))

      hc : c i < n
      hc = at i (low l)

      hd : c (i + 1) < n
      hd = at (i + 1) l

      ad : h (c k) <ℤ h (c (i + 1))
      ad = B.rises k (i + 1) (omega (arith, le)) l

      over_it : left S (c k) p (c (i + 1))
      over_it = joins S H (c k) p (c (k + 1)) (c (i + 1)) ha F.named hb hd (under k (omega (arith, le, l))) (next k (omega (arith, le, l))) ad (turned S t) (B.closed k (c (i + 1)) (omega (arith, le, l)) (B.member (i + 1) l))

  pub seen_from : (k : ℕ) → k + 1 < m → left S (c (k + 1)) (c k) p → Seen S c m p k
  seen_from k l t = record { within = low l; ways = λ i le li. later k i le li t }

  -- ---- what isn't seen is hidden
  gap : (r j : ℕ) → r < n → h r <ℤ h (c j) → h r <ℤ h p → j + 1 < m → left S p r (c j) → left S r p (c (j + 1)) → Meet S r p (c j) (c (j + 1))
  gap r j hr rj rp l a b = crossing S r p (c j) (c (j + 1)) a b (turned S near) far
    where
      hu : c j < n
      hu = at j (low l)

      hv : c (j + 1) < n
      hv = at (j + 1) l

      near : left S r (c j) (c (j + 1))
      near = joins S H r (c j) p (c (j + 1)) hr hu F.named hv rj rp (lt_join (h r) (h (c j)) (h (c (j + 1))) rj (next j l)) (turned S a) (weak (o r p (c (j + 1))) b)

      far : left S (c (j + 1)) (c j) p
      far = turned S (joins S (fallen S H) p (c (j + 1)) r (c j) F.named hv hr hu (over (h (c (j + 1))) (h p) (under (j + 1) l)) (over (h r) (h p) rp) (over (h (c j)) (h p) (under j (low l))) (turned S b) (weak (o p r (c j)) a))

  walk : (d i r : ℕ) → i + d + 1 ≡ m → r < n → h r <ℤ h (c i) → h r <ℤ h p → left S p r (c i) → ((j : ℕ) → j + 1 ≡ m → left S r p (c j)) → Hidden S E c m p r
  walk zero i r e hr ri rp a last = absurd (not_both S a (last i (omega (arith, e))))
  walk (suc d) i r e hr ri rp a last = by_side (sides_of S r p (c (i + 1))) (λ k. walk d (i + 1) r (omega (arith, e)) hr ri' rp k last)
    where
      l : i + 1 < m
      l = omega (arith, e)

      ri' : h r <ℤ h (c (i + 1))
      ri' = lt_join (h r) (h (c i)) (h (c (i + 1))) ri (next i l)

      by_side : left S r p (c (i + 1)) ⊎ (left S p r (c (i + 1)) ⊎ (o r p (c (i + 1)) ≡ pos 0)) → (left S p r (c (i + 1)) → Hidden S E c m p r) → Hidden S E c m p r
      by_side (inl b) again = inl (i, l, gap r i hr ri rp l a b)
      by_side (inr (inl b)) again = again b
      by_side (inr (inr f)) again = inr (c (i + 1), B.member (i + 1) l, lies_between S H r p (c (i + 1)) hr F.named (at (i + 1) l) f ri' (under (i + 1) l))

  -- the way from r to p, by where the next point of the chain after r lies
  beyond : (r j : ℕ) → r < n → h r <ℤ h (c (j + 1)) → h r <ℤ h p → j + 1 < m → ((j : ℕ) → j + 1 ≡ m → left S r p (c j)) → left S r p (c (j + 1)) ⊎ Hidden S E c m p r
  beyond r j hr rj rp l last = by_side (sides_of S r p (c (j + 1)))
    where
      by_side : left S r p (c (j + 1)) ⊎ (left S p r (c (j + 1)) ⊎ (o r p (c (j + 1)) ≡ pos 0)) → left S r p (c (j + 1)) ⊎ Hidden S E c m p r
      by_side (inl b) = inl b
      by_side (inr (inl b)) = inr (walk (m - (j + 2)) (j + 1) r (omega (arith, l)) hr rj rp b last)
      by_side (inr (inr f)) = inr (inr (c (j + 1), B.member (j + 1) l, lies_between S H r p (c (j + 1)) hr F.named (at (j + 1) l) f rj (under (j + 1) l)))

  on_chain : (k : ℕ) → k < m → ((j : ℕ) → j + 1 ≡ m → left S (c k) p (c j)) → Seen S c m p k ⊎ Hidden S E c m p (c k)
  on_chain k l last = by_test (ℕ_discrete (k + 1) m)
    where
      by_next : left S (c k) p (c (k + 1)) ⊎ Hidden S E c m p (c k) → k + 1 < m → Seen S c m p k ⊎ Hidden S E c m p (c k)
      by_next (inl b) l = inl (seen_from k l (back_turned S b))
      by_next (inr b) l = inr b

      by_test : Dec (k + 1 ≡ m) → Seen S c m p k ⊎ Hidden S E c m p (c k)
      by_test (yes e) = absurd (not_flat (last k e) (flat_ends S (c k) p))
      by_test (no ne) = let l' : k + 1 < m = omega (arith, l, ne) in by_next (beyond (c k) k (at k l) (next k l') (under k l) l' last) l'

  -- r is on the chain, or between two of its points in height
  abbrev Place : ℕ → Type 0
  Place r = ((k : ℕ) × (k < m) × (r ≡ c k)) ⊎ ((k : ℕ) × (k + 1 < m) × (h (c k) <ℤ h r) × (h r <ℤ h (c (k + 1))))

  not_last : (i r : ℕ) → i + 1 ≡ m → E r → h (c i) <ℤ h r → ⊥
  not_last i r e er l = below_itself (h (c i)) (h r) l (B.highest r i er e)

  here : (i r : ℕ) → i < m → E r → h (c i) ≡ h r → Place r
  here i r l er e = inl (i, l, sym (H.distinct (c i) r (at i l) (B.named r er) e))

  locate : (d i r : ℕ) → i + d + 1 ≡ m → E r → h (c i) ≤ℤ h r → Place r
  locate zero i r e er le = by_order (order (h (c i)) (h r))
    where
      by_order : (h (c i) <ℤ h r) ⊎ ((h r <ℤ h (c i)) ⊎ (h (c i) ≡ h r)) → Place r
      by_order (inl l) = absurd (not_last i r (omega (arith, e)) er l)
      by_order (inr (inl l)) = absurd (below_itself (h r) (h (c i)) l le)
      by_order (inr (inr s)) = here i r (omega (arith, e)) er s
  locate (suc d) i r e er le = by_order (order (h (c i)) (h r)) (order (h (c (i + 1))) (h r)) (λ k. locate d (i + 1) r (omega (arith, e)) er k)
    where
      by_order : (h (c i) <ℤ h r) ⊎ ((h r <ℤ h (c i)) ⊎ (h (c i) ≡ h r)) → (h (c (i + 1)) <ℤ h r) ⊎ ((h r <ℤ h (c (i + 1))) ⊎ (h (c (i + 1)) ≡ h r)) → (h (c (i + 1)) ≤ℤ h r → Place r) → Place r
      by_order (inl l) (inl k) again = again (lt_le (h (c (i + 1))) (h r) k)
      by_order (inl l) (inr (inl k)) again = inr (i, omega (arith, e), l, k)
      by_order (inl l) (inr (inr s)) again = here (i + 1) r (omega (arith, e)) er s
      by_order (inr (inl l)) _ again = absurd (below_itself (h r) (h (c i)) l le)
      by_order (inr (inr s)) _ again = here i r (omega (arith, e)) er s

  pub hidden_or_seen : (r : ℕ) → E r → ((j : ℕ) → j + 1 ≡ m → left S r p (c j)) → ((k : ℕ) × (k < m) × (r ≡ c k) × Seen S c m p k) ⊎ Hidden S E c m p r
  hidden_or_seen r er last = by_place (locate (m - 1) 0 r (let s = B.some in omega (arith, s)) er (B.lowest r er))
    where
      on : (k : ℕ) → k < m → r ≡ c k → ((k : ℕ) × (k < m) × (r ≡ c k) × Seen S c m p k) ⊎ Hidden S E c m p r
      on k l e = back (on_chain k l (subst (λ s. (j : ℕ) → j + 1 ≡ m → left S s p (c j)) e last))
        where
          back : Seen S c m p k ⊎ Hidden S E c m p (c k) → ((k : ℕ) × (k < m) × (r ≡ c k) × Seen S c m p k) ⊎ Hidden S E c m p r
          back (inl v) = inl (k, l, e, v)
          back (inr v) = inr (subst (λ s. Hidden S E c m p s) (sym e) v)

      off : (k : ℕ) → k + 1 < m → h (c k) <ℤ h r → h r <ℤ h (c (k + 1)) → left S (c k) (c (k + 1)) r → Hidden S E c m p r
      off k l kr rk side = by_next (beyond r k hr rk rp l last)
        where
          hr : r < n
          hr = B.named r er

          rp : h r <ℤ h p
          rp = F.above r er

          by_next : left S r p (c (k + 1)) ⊎ Hidden S E c m p r → Hidden S E c m p r
          by_next (inl b) = let f = four S H (c k) r (c (k + 1)) p (at k (low l)) hr (at (k + 1) l) F.named kr rk (under (k + 1) l) side b in inl (k, l, crossing S r p (c k) (c (k + 1)) f.1 b side f.0)
          by_next (inr b) = b

      by_place : Place r → ((k : ℕ) × (k < m) × (r ≡ c k) × Seen S c m p k) ⊎ Hidden S E c m p r
      by_place (inl (k, l, e)) = on k l e
      by_place (inr (k, l, kr, rk)) = by_side (sides_of S (c k) (c (k + 1)) r)
        where
          by_whole : (i : ℕ) × (i < m) × (r ≡ c i) → ((k : ℕ) × (k < m) × (r ≡ c k) × Seen S c m p k) ⊎ Hidden S E c m p r
          by_whole (i, li, e) = on i li e

          by_side : left S (c k) (c (k + 1)) r ⊎ (left S (c (k + 1)) (c k) r ⊎ (o (c k) (c (k + 1)) r ≡ pos 0)) → ((k : ℕ) × (k < m) × (r ≡ c k) × Seen S c m p k) ⊎ Hidden S E c m p r
          by_side (inl side) = inr (off k l kr rk side)
          by_side (inr (inl side)) = absurd (both_ways (o (c (k + 1)) (c k) r) (o (c k) (c (k + 1)) r) (S.swap (c k) (c (k + 1)) r) (B.closed k r l er) side)
          by_side (inr (inr flat)) = by_whole (B.whole k r l er flat)

  -- ---- what is seen isn't hidden
  module _ (k : ℕ) (V : Seen S c m p k) where
    ck : c k < n
    ck = at k V.within

    pub not_between : (s : ℕ) → E s → between (c k) p s → ⊥
    not_between s es mid = by_test (ℕ_discrete (k + 1) m)
      where
        at_end : k + 1 ≡ m → ⊥
        at_end e = below_itself (h (c k)) (h s) (rises_between S H (c k) p s ck F.named (B.named s es) (under k V.within) mid) (B.highest s k es e)

        inside : k + 1 < m → ⊥
        inside l = both_ways (o (c (k + 1)) (c k) s) (o (c k) (c (k + 1)) s) (S.swap (c k) (c (k + 1)) s) (B.closed k s l es) (S.between_left (c (k + 1)) (c k) p s (V.ways k (omega arith) l) mid).0

        by_test : Dec (k + 1 ≡ m) → ⊥
        by_test (yes e) = at_end e
        by_test (no ne) = inside (let l = V.within in omega (arith, l, ne))

    -- two points on both sides of the way from the chain to p
    apart_from : (s t : ℕ) → E s → E t → left S (c k) p s → left S p (c k) t → pos 0 ≤ℤ o (c k) s t
    apart_from s t es et a b = by_test (ℕ_discrete (k + 1) m)
      where
        at_end : k + 1 ≡ m → pos 0 ≤ℤ o (c k) s t
        at_end e = under_two S H (c k) s t p ck (B.named s es) (B.named t et) F.named (B.highest s k es e) (B.highest t k et e) (under k V.within) (weak (o (c k) p s) a) (weak (o (c k) t p) (turned S b))

        inside : k + 1 < m → pos 0 ≤ℤ o (c k) s t
        inside l =
            none_neg (o r s t) (o d r p) (o r d s) (o r t p) (o r d t) (o r p s)
            (signs_out (o r s t) (o r d p) (o r s d) (o r t p) (o r d t) (o r s p) (o d r p) (o r d s) (o r p s) (S.exchange r s d t p) (S.swap d r p) (last_swap S H r d s) (last_swap S H r p s))
            (B.closed k s l es) (weak (o r t p) (turned S b)) (B.closed k t l et) (weak (o r p s) a) (V.ways k (omega arith) l)
          where
            r : ℕ
            r = c k

            d : ℕ
            d = c (k + 1)

        by_test : Dec (k + 1 ≡ m) → pos 0 ≤ℤ o (c k) s t
        by_test (yes e) = at_end e
        by_test (no ne) = inside (let l = V.within in omega (arith, l, ne))

    one_way : (s t : ℕ) → E s → E t → left S (c k) p s → left S p (c k) t → (left S s t (c k) × left S t s p) ⊎ (left S t s (c k) × left S s t p) → ⊥
    one_way s t es et a b (inl f) = sides_agree S (c k) p s t a b f.0 f.1
    one_way s t es et a b (inr f) = both_ways (o t s (c k)) (o (c k) s t) (S.swap s t (c k) ∙ turned_in) (apart_from s t es et a b) f.0
      where
        turned_in : neg_ℤ (o s t (c k)) ≡ neg_ℤ (o (c k) s t)
        turned_in = ap neg_ℤ (sym (S.cycle (c k) s t))

    pub not_met : (s t : ℕ) → E s → E t → Meet S (c k) p s t → ⊥
    not_met s t es et (inl f, g) = one_way s t es et f.0 f.1 g
    not_met s t es et (inr f, g) = one_way t s et es f.1 f.0 (other g)
      where
        other : {X Y : Type 0} → X ⊎ Y → Y ⊎ X
        other (inl x) = inr x
        other (inr y) = inl y

    -- ---- the chain that turns to p where it is seen first
    module _ (least : (i : ℕ) → Seen S c m p i → k ≤ i) where
      pub not_right : (j : ℕ) → j + 1 ≤ k → pos 0 ≤ℤ o (c j) (c (j + 1)) p
      not_right j l = neg_low (o (c (j + 1)) (c j) p) (o (c j) (c (j + 1)) p) (S.swap (c j) (c (j + 1)) p) (λ t. late (least j (seen_from j (let w = V.within in omega (arith, l, w)) t)))
        where
          late : k ≤ j → ⊥
          late le = omega (arith, le, l)

      abbrev Kept : ℕ → Type 0
      Kept s = (i : ℕ) × (i ≤ k) × (s ≡ c i)

      -- a point above the turn
      after_turn : (s : ℕ) → E s → h (c k) <ℤ h s → left S (c k) p s
      after_turn s es l = by_test (ℕ_discrete (k + 1) m)
        where
          inside : k + 1 < m → left S (c k) p s
          inside w = joins S H (c k) p (c (k + 1)) s ck F.named (at (k + 1) w) (B.named s es) (under k V.within) (next k w) l (turned S (V.ways k (omega arith) w)) (B.closed k s w es)

          by_test : Dec (k + 1 ≡ m) → left S (c k) p s
          by_test (yes e) = absurd (not_last k s e es l)
          by_test (no ne) = inside (let w = V.within in omega (arith, w, ne))

      -- a point below it
      before_turn : (j s : ℕ) → j + 1 ≡ k → E s → h s <ℤ h (c k) → (pos 0 ≤ℤ o (c k) p s) × (o (c k) p s ≡ pos 0 → o (c j) (c k) s ≡ pos 0)
      before_turn j s e es l = (
        subst (λ t. pos 0 ≤ℤ t) (S.cycle s (c k) p) (past_weak S (fallen S H) (c k) p (c j) s ck F.named hb (B.named s es) up down_b down_s on_p on_s),
        λ f. S.cycle (c j) (c k) s ∙ past_flat S (fallen S H) (c k) p (c j) s ck F.named hb (B.named s es) up down_s on_p on_s (S.cycle s (c k) p ∙ f),
      )
        where
          w : j + 1 < m
          w = let v = V.within in omega (arith, e, v)

          hb : c j < n
          hb = at j (low w)

          up : neg_ℤ (h p) <ℤ neg_ℤ (h (c k))
          up = over (h (c k)) (h p) (under k V.within)

          down_b : neg_ℤ (h (c k)) <ℤ neg_ℤ (h (c j))
          down_b = over (h (c j)) (h (c k)) (B.rises j k (omega (arith, e)) V.within)

          down_s : neg_ℤ (h (c k)) <ℤ neg_ℤ (h s)
          down_s = over (h s) (h (c k)) l

          on_p : pos 0 ≤ℤ o (c k) p (c j)
          on_p = subst (λ t. pos 0 ≤ℤ t) (S.cycle (c j) (c k) p) (subst (λ i. pos 0 ≤ℤ o (c j) (c i) p) e (not_right j (omega (arith, e))))

          on_s : pos 0 ≤ℤ o (c k) s (c j)
          on_s = subst (λ t. pos 0 ≤ℤ t) (S.cycle (c j) (c k) s) (subst (λ i. pos 0 ≤ℤ o (c j) (c i) s) e (B.closed j s w es))

      kept_below : (s : ℕ) → h s <ℤ h (c k) → (i : ℕ) × (i < m) × (s ≡ c i) → Kept s
      kept_below s l (i, li, e) = (i, by_test (dec_lt k i), e)
        where
          by_test : Dec (k < i) → i ≤ k
          by_test (yes g) = absurd (below_itself (h s) (h (c k)) l (lt_le (h (c k)) (h s) (subst (λ t. h (c k) <ℤ h t) (sym e) (B.rises k i g li))))
          by_test (no ng) = omega (arith, ng)

      pub turn_side : (s : ℕ) → E s → (pos 0 ≤ℤ o (c k) p s) × (o (c k) p s ≡ pos 0 → Kept s)
      turn_side s es = by_order (order (h s) (h (c k)))
        where
          below : h s <ℤ h (c k) → Dec (k ≡ 0) → (pos 0 ≤ℤ o (c k) p s) × (o (c k) p s ≡ pos 0 → Kept s)
          below l (yes e) = absurd (below_itself (h s) (h (c k)) l (subst (λ i. h (c i) ≤ℤ h s) (sym e) (B.lowest s es)))
          below l (no ne) = (t.0, λ f. kept_below s l (B.whole (k - 1) s w es (subst (λ i. o (c (k - 1)) (c i) s ≡ pos 0) (sym next_to) (t.1 f))))
            where
              next_to : (k - 1) + 1 ≡ k
              next_to = omega (arith, ne)

              w : (k - 1) + 1 < m
              w = let v = V.within in omega (arith, v, ne)

              t : (pos 0 ≤ℤ o (c k) p s) × (o (c k) p s ≡ pos 0 → o (c (k - 1)) (c k) s ≡ pos 0)
              t = before_turn (k - 1) s next_to es l

          by_order : (h s <ℤ h (c k)) ⊎ ((h (c k) <ℤ h s) ⊎ (h s ≡ h (c k))) → (pos 0 ≤ℤ o (c k) p s) × (o (c k) p s ≡ pos 0 → Kept s)
          by_order (inl l) = below l (ℕ_discrete k 0)
          by_order (inr (inl l)) = let a = after_turn s es l in (weak (o (c k) p s) a, λ f. absurd (not_flat a f))
          by_order (inr (inr e)) = let i = H.distinct s (c k) (B.named s es) ck e in (zero_low (o (c k) p s) (subst (λ t. o (c k) p t ≡ pos 0) (sym i) (flat_ends S (c k) p)), λ f. (k, omega arith, i))

      -- a point on a way that is kept is kept, since the chain is straight from the one to the other
      straight : (j i : ℕ) → j + 1 ≤ k → k ≤ i → i + 1 < m → o (c j) (c (j + 1)) (c (i + 1)) ≡ pos 0 → left S (c (j + 1)) (c j) p
      straight j i jk ki w flat = back_turned S (joins S H u p x v hu F.named hx hv (under j (low wj)) ux uv (turned S right_of) (zero_low (o u x v) (zero_neg (o u x v) (o u v x) (last_swap S H u v x) flat)))
        where
          u : ℕ
          u = c j

          v : ℕ
          v = c (j + 1)

          t : ℕ
          t = c i

          x : ℕ
          x = c (i + 1)

          wj : j + 1 < m
          wj = omega (arith, jk, ki, w)

          hu : u < n
          hu = at j (low wj)

          hv : v < n
          hv = at (j + 1) wj

          ht : t < n
          ht = at i (low w)

          hx : x < n
          hx = at (i + 1) w

          uv : h u <ℤ h v
          uv = next j wj

          ux : h u <ℤ h x
          ux = B.rises j (i + 1) (omega (arith, jk, ki)) w

          middle_flat : o u t x ≡ pos 0
          middle_flat = joins_flat S H u v t x hu hv ht hx uv ux (B.closed j t wj (B.member i (low w))) (subst (λ z. pos 0 ≤ℤ z) (sym (S.cycle u t x)) (B.closed i u w (B.member j (low wj)))) flat

          right_of : left S x u p
          right_of = bends S H t u x p ht hu hx F.named (next i w) ux (under (i + 1) w) (back_turned S (V.ways i ki w)) (zero_low (o u x t) (zero_neg (o u x t) (o u t x) (last_swap S H u t x) middle_flat))

      pub old_kept : (j s : ℕ) → j + 1 ≤ k → E s → o (c j) (c (j + 1)) s ≡ pos 0 → Kept s
      old_kept j s jk es flat = by_whole (B.whole j s (let v = V.within in omega (arith, jk, v)) es flat)
        where
          beyond_turn : (i : ℕ) → k < i → i < m → s ≡ c i → ⊥
          beyond_turn i ki li e = both_ways (o (c (j + 1)) (c j) p) (o (c j) (c (j + 1)) p) (S.swap (c j) (c (j + 1)) p) (not_right j jk) (straight j (i - 1) jk (omega (arith, ki)) (omega (arith, ki, li)) (subst (λ q. o (c j) (c (j + 1)) (c q) ≡ pos 0) before (subst (λ q. o (c j) (c (j + 1)) q ≡ pos 0) e flat)))
            where
              before : i ≡ (i - 1) + 1
              before = omega (arith, ki)

          by_whole : (i : ℕ) × (i < m) × (s ≡ c i) → Kept s
          by_whole (i, li, e) = (i, by_test (dec_lt k i), e)
            where
              by_test : Dec (k < i) → i ≤ k
              by_test (yes g) = absurd (beyond_turn i g li e)
              by_test (no ng) = omega (arith, ng)
