-- How often a triangle's outline winds about a place, counted by its crossings with the ray from the place away from a point r.
use Rattle.std.proofs.Common.{◌≡◌, ◌≢◌, ◌⊎◌, inl, inr, ℕ, ◌+◌, ◌<◌, Bool, true, false, not, ◌&&◌, ◌||◌, T, eqb, eqb→eq, int_lt, ℤ, pos, ◌+ℤ◌, ◌*ℤ◌, ◌≤ℤ◌, neg_ℤ, [], ◌∷◌, refl, sym, ap, ap₂, ◌∙◌, subst, arith}
use Rattle.std.proofs.lemmas.Int.{ints}
use native.Mathlib.Decide.{ℕ_discrete}
use Rattle.geo_orient.proofs.Ring.{solve}
use Rattle.geo_orient.proofs.Ring.Term.{var, plus, times, minus, num}
use Rattle.geo_orient.proofs.IntSigns.{IsPos, signs, mul_pos}
use Rattle.tri_theory.proofs.Plane.{Plane, left, negs}
use Rattle.tri_theory.proofs.Tests.{both, implied, first_of_two, second_of_two}
use Rattle.planar_law.proofs.Sums.{one, none_shown}
use Rattle.planar_law.proofs.Spots.{Spot, IsFree}

-- ---- truths by trying all
abbrev every : (Bool → Bool) → Bool
every p = p true && p false

every_means : (p : Bool → Bool) → T (every p) → (b : Bool) → T (p b)
every_means p t true = (both (p true) (p false) t).0
every_means p t false = (both (p true) (p false) t).1

-- the outline's crossings upwards and downwards
abbrev ups : Bool → Bool → Bool → Bool → Bool → Bool → ℕ
ups a b c x y z = one (x && (c && not y)) + one (y && (a && not z)) + one (z && (b && not x))

abbrev downs : Bool → Bool → Bool → Bool → Bool → Bool → ℕ
downs a b c x y z = one (y && (not c && not x)) + one (z && (not a && not y)) + one (x && (not b && not z))

abbrev equal : Bool → Bool → Bool
equal true b = b
equal false b = not b

abbrev fits : Bool → Bool → Bool → Bool → Bool → Bool → Bool
fits a b c x y z =
    not (a || (b || c)) || (not (not (equal a x && (equal b y && equal c z))) || (not (not (not (equal a x) && (not (equal b y) && not (equal c z))))
    || eqb (ups a b c x y z) (downs a b c x y z + one (c && (a && b)))))

all_fit : T (every (λ a. every (λ b. every (λ c. every (λ x. every (λ y. every (λ z. fits a b c x y z)))))))
all_fit = tt

fit : (a b c x y z : Bool) → T (fits a b c x y z)
fit a b c x y z =
    every_means (λ z. fits a b c x y z)
    (every_means (λ y. every (λ z. fits a b c x y z))
    (every_means (λ x. every (λ y. every (λ z. fits a b c x y z)))
    (every_means (λ c. every (λ x. every (λ y. every (λ z. fits a b c x y z))))
    (every_means (λ b. every (λ c. every (λ x. every (λ y. every (λ z. fits a b c x y z)))))
    (every_means (λ a. every (λ b. every (λ c. every (λ x. every (λ y. every (λ z. fits a b c x y z)))))) all_fit a) b) c) x) y) z

-- ---- signs
abbrev pub above : ℤ → Bool
above z = int_lt (pos 0) z

pub above_means : (z : ℤ) → T (above z) → IsPos z
above_means z t = record { lt = t }

pub above_shown : (z : ℤ) → IsPos z → T (above z)
above_shown z h = h.lt

true_by : (b : Bool) → T b → b ≡ true
true_by true t = refl
true_by false t = absurd t

false_by : (b : Bool) → ¬ T b → b ≡ false
false_by true t = absurd (t tt)
false_by false t = refl

pub above_yes : (z : ℤ) → IsPos z → above z ≡ true
above_yes z h = true_by (above z) h.lt

pub above_no : (z : ℤ) → ¬ IsPos z → above z ≡ false
above_no z h = false_by (above z) (λ t. h (record { lt = t }))

clash : (z : ℤ) → IsPos z → IsPos (neg_ℤ z) → ⊥
clash z h k = omega (arith, ints)

zero_clash : {z : ℤ} → z ≡ pos 0 → IsPos z → ⊥
zero_clash {z} e h = omega (arith, ints, e, h)

-- a number that isn't 0, and its negative
above_neg : (z w : ℤ) → w ≡ neg_ℤ z → z ≢ pos 0 → above w ≡ not (above z)
above_neg z w e ne = ap above e ∙ by_sign (signs z)
  where
    by_sign : IsPos z ⊎ (IsPos (neg_ℤ z) ⊎ (z ≡ pos 0)) → above (neg_ℤ z) ≡ not (above z)
    by_sign (inl h) = above_no (neg_ℤ z) (λ k. clash z h k) ∙ sym (ap not (above_yes z h))
    by_sign (inr (inl h)) = above_yes (neg_ℤ z) h ∙ sym (ap not (above_no z (λ k. clash z k h)))
    by_sign (inr (inr f)) = absurd (ne f)

-- the sign of a product
product_pos : (u v : ℤ) → u ≢ pos 0 → v ≢ pos 0 → T (equal (above u) (above v)) → IsPos (u *ℤ v)
product_pos u v nu nv t = by_signs (signs u) (signs v)
  where
    at : (b c : Bool) → above u ≡ b → above v ≡ c → T (equal b c)
    at b c e f = subst (λ d. T (equal b d)) f (subst (λ d. T (equal d (above v))) e t)

    by_signs : IsPos u ⊎ (IsPos (neg_ℤ u) ⊎ (u ≡ pos 0)) → IsPos v ⊎ (IsPos (neg_ℤ v) ⊎ (v ≡ pos 0)) → IsPos (u *ℤ v)
    by_signs (inl h) (inl k) = mul_pos u v h k
    by_signs (inl h) (inr (inl k)) = absurd (at true false (above_yes u h) (above_no v (λ m. clash v m k)))
    by_signs (inr (inl h)) (inl k) = absurd (at false true (above_no u (λ m. clash u m h)) (above_yes v k))
    by_signs (inr (inl h)) (inr (inl k)) = subst IsPos (negs u v (neg_ℤ u) (neg_ℤ v) refl refl) (mul_pos (neg_ℤ u) (neg_ℤ v) h k)
    by_signs (inr (inr e)) _ = absurd (nu e)
    by_signs _ (inr (inr e)) = absurd (nv e)

neg_first : (u v : ℤ) → neg_ℤ u *ℤ v ≡ neg_ℤ (u *ℤ v)
neg_first u v = solve (u ∷ v ∷ []) (times (minus (var 0)) (var 1)) (minus (times (var 0) (var 1))) tt

neg_last : (u v : ℤ) → u *ℤ neg_ℤ v ≡ neg_ℤ (u *ℤ v)
neg_last u v = solve (u ∷ v ∷ []) (times (var 0) (minus (var 1))) (minus (times (var 0) (var 1))) tt

product_neg : (u v : ℤ) → u ≢ pos 0 → v ≢ pos 0 → T (not (equal (above u) (above v))) → IsPos (neg_ℤ (u *ℤ v))
product_neg u v nu nv t = by_signs (signs u) (signs v)
  where
    at : (b c : Bool) → above u ≡ b → above v ≡ c → T (not (equal b c))
    at b c e f = subst (λ d. T (not (equal b d))) f (subst (λ d. T (not (equal d (above v)))) e t)

    by_signs : IsPos u ⊎ (IsPos (neg_ℤ u) ⊎ (u ≡ pos 0)) → IsPos v ⊎ (IsPos (neg_ℤ v) ⊎ (v ≡ pos 0)) → IsPos (neg_ℤ (u *ℤ v))
    by_signs (inl h) (inl k) = absurd (at true true (above_yes u h) (above_yes v k))
    by_signs (inl h) (inr (inl k)) = subst IsPos (neg_last u v) (mul_pos u (neg_ℤ v) h k)
    by_signs (inr (inl h)) (inl k) = subst IsPos (neg_first u v) (mul_pos (neg_ℤ u) v h k)
    by_signs (inr (inl h)) (inr (inl k)) = absurd (at false false (above_no u (λ m. clash u m h)) (above_no v (λ m. clash v m k)))
    by_signs (inr (inr e)) _ = absurd (nu e)
    by_signs _ (inr (inr e)) = absurd (nv e)

-- ---- the sums at a place
module _ (S : Plane) (C : Spot S) where
  open S use {n, o}

  -- the way from x to y crosses the ray upwards: the place is inside the triangle r, x, y
  abbrev pub rises : ℕ → ℕ → ℕ → Bool
  rises r x y = above (C.turn r x) && (above (C.turn x y) && above (C.turn y r))

  abbrev pub rise : ℕ → ℕ → ℕ → ℕ
  rise r x y = one (rises r x y)

  -- the place is inside the triangle
  abbrev pub inside : ℕ → ℕ → ℕ → Bool
  inside a b c = above (C.turn a b) && (above (C.turn b c) && above (C.turn c a))

  pub not_self : (x : ℕ) → C.turn x x ≡ pos 0
  not_self x = own (C.turn x x) (C.swap x x)
    where
      own : (z : ℤ) → z ≡ neg_ℤ z → z ≡ pos 0
      own z e = omega (arith, ints, e)

  -- seen from r, the ways to the corners of a triangle depend on each other
  pub meets : (r a b c : ℕ) → C.turn b c *ℤ C.turn r a +ℤ C.turn c a *ℤ C.turn r b +ℤ C.turn a b *ℤ C.turn r c ≡ pos 0
  meets r a b c =
      vanish (C.size) (o r b c) (o r c a) (o r a b) (C.turn r a) (C.turn r b) (C.turn r c) (C.turn b c) (C.turn c a) (C.turn a b)
      (seen (o r a c) (o r c a) (o r a b) (o r b c) (C.turn r b) (C.turn r c) (C.turn r a) (swapped_o r a c) (C.exchange r a b c))
      (side r b c) (side r c a) (side r a b)
    where
      swapped_o : (r a c : ℕ) → o r a c ≡ neg_ℤ (o r c a)
      swapped_o r a c = S.cycle r a c ∙ S.swap c a r ∙ ap neg_ℤ (sym (S.cycle r c a))

      seen : (rac rca rab rbc tb tc ta : ℤ) → rac ≡ neg_ℤ rca → rac *ℤ tb ≡ rab *ℤ tc +ℤ rbc *ℤ ta → rbc *ℤ ta +ℤ rca *ℤ tb +ℤ rab *ℤ tc ≡ pos 0
      seen rac rca rab rbc tb tc ta e f = let g : rac *ℤ tb ≡ neg_ℤ (rca *ℤ tb) = ap (λ t. t *ℤ tb) e ∙ neg_first rca tb in omega (arith, ints, f, g)

      -- size * o r b c = turn r b + turn b c - turn r c
      side : (r b c : ℕ) → C.size *ℤ o r b c ≡ C.turn r b +ℤ C.turn b c +ℤ neg_ℤ (C.turn r c)
      side r b c = sym (C.summed r b c) ∙ ap (λ t. C.turn r b +ℤ C.turn b c +ℤ t) (C.swap r c)

      vanish : (k p q s ta tb tc bc ca ab : ℤ) → p *ℤ ta +ℤ q *ℤ tb +ℤ s *ℤ tc ≡ pos 0
          → k *ℤ p ≡ tb +ℤ bc +ℤ neg_ℤ tc → k *ℤ q ≡ tc +ℤ ca +ℤ neg_ℤ ta → k *ℤ s ≡ ta +ℤ ab +ℤ neg_ℤ tb
          → bc *ℤ ta +ℤ ca *ℤ tb +ℤ ab *ℤ tc ≡ pos 0
      vanish k p q s ta tb tc bc ca ab e f g h =
          solve (ta ∷ tb ∷ tc ∷ bc ∷ ca ∷ ab ∷ []) (plus (plus (times (var 3) (var 0)) (times (var 4) (var 1))) (times (var 5) (var 2)))
          (plus (plus (times (plus (plus (var 1) (var 3)) (minus (var 2))) (var 0)) (times (plus (plus (var 2) (var 4)) (minus (var 0))) (var 1))) (times (plus (plus (var 0) (var 5)) (minus (var 1))) (var 2))) tt
          ∙ ap₂ ◌+ℤ◌ (ap₂ ◌+ℤ◌ (ap (λ t. t *ℤ ta) (sym f)) (ap (λ t. t *ℤ tb) (sym g))) (ap (λ t. t *ℤ tc) (sym h))
          ∙ solve (k ∷ p ∷ q ∷ s ∷ ta ∷ tb ∷ tc ∷ []) (plus (plus (times (times (var 0) (var 1)) (var 4)) (times (times (var 0) (var 2)) (var 5))) (times (times (var 0) (var 3)) (var 6)))
          (times (var 0) (plus (plus (times (var 1) (var 4)) (times (var 2) (var 5))) (times (var 3) (var 6)))) tt
          ∙ ap (λ t. k *ℤ t) e ∙ solve (k ∷ []) (times (var 0) (num (pos 0))) (num (pos 0)) tt

  some_above : (x y z w : ℤ) → x +ℤ y +ℤ z ≡ w → IsPos w → T (above y || (above z || above x))
  some_above x y z w e h = by_signs (signs y) (signs z) (signs x)
    where
      Sign : ℤ → Type 0
      Sign v = IsPos v ⊎ (IsPos (neg_ℤ v) ⊎ (v ≡ pos 0))

      low : (v : ℤ) → IsPos (neg_ℤ v) ⊎ (v ≡ pos 0) → v ≤ℤ pos 0
      low v (inl k) = omega (arith, ints)
      low v (inr f) = omega (arith, ints, f)

      all_low : x ≤ℤ pos 0 → y ≤ℤ pos 0 → z ≤ℤ pos 0 → ⊥
      all_low i j k = omega (arith, ints, e, h)

      by_signs : Sign y → Sign z → Sign x → T (above y || (above z || above x))
      by_signs (inl k) _ _ = first_of_two (above y) _ k.lt
      by_signs (inr _) (inl k) _ = second_of_two (above y) _ (first_of_two (above z) _ k.lt)
      by_signs (inr _) (inr _) (inl k) = second_of_two (above y) _ (second_of_two (above z) _ k.lt)
      by_signs (inr i) (inr j) (inr k) = absurd (all_low (low x k) (low y i) (low z j))

  wide : (a b c : ℕ) → left S a b c → IsPos (C.size *ℤ o a b c)
  wide a b c h = mul_pos C.size (o a b c) C.large h

  not_by : (d : Bool) → (T d → ⊥) → T (not d)
  not_by true h = absurd (h tt)
  not_by false h = tt

  yes_of : (d : Bool) → T d → T (not (not d))
  yes_of true t = tt
  yes_of false t = absurd t

  all_pos : (x y z : ℤ) → x +ℤ y +ℤ z ≡ pos 0 → IsPos x → IsPos y → IsPos z → ⊥
  all_pos x y z e h k l = omega (arith, ints, e, h, k, l)

  all_neg : (x y z : ℤ) → x +ℤ y +ℤ z ≡ pos 0 → IsPos (neg_ℤ x) → IsPos (neg_ℤ y) → IsPos (neg_ℤ z) → ⊥
  all_neg x y z e h k l = omega (arith, ints, e, h, k, l)

  -- the outline winds once where the place is inside, and not at all elsewhere
  abbrev pub Winds : ℕ → ℕ → ℕ → ℕ → Type 0
  Winds r a b c = rise r a b + rise r b c + rise r c a ≡ rise r b a + rise r c b + rise r a c + one (inside a b c)

  module _ (free : IsFree S C) where
    off_corners : (r a b c : ℕ) → r < n → a < n → b < n → c < n → r ≢ a → r ≢ b → r ≢ c → a ≢ b → b ≢ c → c ≢ a → left S a b c → Winds r a b c
    off_corners r a b c hr ha hb hc ra rb rc ab bc ca h =
        ap₂ ◌+◌ (ap₂ ◌+◌ (up (above (C.turn r a)) (above (C.turn a b)) y (turned r b rb hr hb)) (up (above (C.turn r b)) (above (C.turn b c)) z (turned r c rc hr hc))) (up (above (C.turn r c)) (above (C.turn c a)) x (turned r a ra hr ha))
        ∙ eqb→eq _ _ (implied _ _ (implied _ _ (implied _ _ (fit (above (C.turn b c)) (above (C.turn c a)) (above (C.turn a b)) x y z) some) (not_by _ not_pos)) (not_by _ not_neg))
        ∙ sym (ap₂ ◌+◌ (ap₂ ◌+◌ (ap₂ ◌+◌ (down y (turned a b ab ha hb) (turned r a ra hr ha)) (down z (turned b c bc hb hc) (turned r b rb hr hb))) (down x (turned c a ca hc ha) (turned r c rc hr hc))) refl)
      where
        x : Bool
        x = above (C.turn r a)

        y : Bool
        y = above (C.turn r b)

        z : Bool
        z = above (C.turn r c)

        turned : (u v : ℕ) → u ≢ v → u < n → v < n → above (C.turn v u) ≡ not (above (C.turn u v))
        turned u v ne hu hv = above_neg (C.turn u v) (C.turn v u) (C.swap u v) (free u v hu hv ne)

        up : (p q s : Bool) {t : Bool} → t ≡ not s → one (p && (q && t)) ≡ one (p && (q && not s))
        up p q s e = ap (λ t. one (p && (q && t))) e

        down : (p : Bool) {q q' t t' : Bool} → q ≡ q' → t ≡ t' → one (p && (q && t)) ≡ one (p && (q' && t'))
        down p e f = ap₂ (λ q t. one (p && (q && t))) e f

        some : T (above (C.turn b c) || (above (C.turn c a) || above (C.turn a b)))
        some = some_above (C.turn a b) (C.turn b c) (C.turn c a) _ (C.summed a b c) (wide a b c h)

        not_pos : T (equal (above (C.turn b c)) x && (equal (above (C.turn c a)) y && equal (above (C.turn a b)) z)) → ⊥
        not_pos t =
            let p = both (equal (above (C.turn b c)) x) _ t in let q = both (equal (above (C.turn c a)) y) _ p.1 in
            all_pos (C.turn b c *ℤ C.turn r a) (C.turn c a *ℤ C.turn r b) (C.turn a b *ℤ C.turn r c) (meets r a b c)
            (product_pos (C.turn b c) (C.turn r a) (free b c hb hc bc) (free r a hr ha ra) p.0) (product_pos (C.turn c a) (C.turn r b) (free c a hc ha ca) (free r b hr hb rb) q.0) (product_pos (C.turn a b) (C.turn r c) (free a b ha hb ab) (free r c hr hc rc) q.1)

        not_neg : T (not (equal (above (C.turn b c)) x) && (not (equal (above (C.turn c a)) y) && not (equal (above (C.turn a b)) z))) → ⊥
        not_neg t =
            let p = both (not (equal (above (C.turn b c)) x)) _ t in let q = both (not (equal (above (C.turn c a)) y)) _ p.1 in
            all_neg (C.turn b c *ℤ C.turn r a) (C.turn c a *ℤ C.turn r b) (C.turn a b *ℤ C.turn r c) (meets r a b c)
            (product_neg (C.turn b c) (C.turn r a) (free b c hb hc bc) (free r a hr ha ra) p.0) (product_neg (C.turn c a) (C.turn r b) (free c a hc ha ca) (free r b hr hb rb) q.0) (product_neg (C.turn a b) (C.turn r c) (free a b ha hb ab) (free r c hr hc rc) q.1)

    at_corner : (a b c : ℕ) → left S a b c → Winds a a b c
    at_corner a b c h =
        sums (rise a a b) (rise a b c) (rise a c a) (rise a b a) (rise a c b) (rise a a c)
        (first (C.turn a a) _ own) (last (above (C.turn a c)) (above (C.turn c a)) own) (last (above (C.turn a b)) (above (C.turn b a)) own) (none_shown (rises a c b) around) (first (C.turn a a) _ own)
      where
        own : above (C.turn a a) ≡ false
        own = above_no (C.turn a a) (λ k. zero_clash (not_self a) k)

        first : (v : ℤ) (d : Bool) → above v ≡ false → one (above v && d) ≡ 0
        first v d e = ap (λ t. one (t && d)) e

        false_last : (p q : Bool) → one (p && (q && false)) ≡ 0
        false_last true true = refl
        false_last true false = refl
        false_last false q = refl

        last : (p q : Bool) {d : Bool} → d ≡ false → one (p && (q && d)) ≡ 0
        last p q e = ap (λ t. one (p && (q && t))) e ∙ false_last p q

        negative : (x y z x' y' z' w : ℤ) → x +ℤ y +ℤ z ≡ w → IsPos w → x' ≡ neg_ℤ x → y' ≡ neg_ℤ y → z' ≡ neg_ℤ z → IsPos x' → IsPos y' → IsPos z' → ⊥
        negative x y z x' y' z' w e p f g i k l m = omega (arith, ints, e, p, f, g, i, k, l, m)

        around : ¬ T (rises a c b)
        around t =
            let p = both (above (C.turn a c)) _ t in let q = both (above (C.turn c b)) _ p.1 in
            negative (C.turn a b) (C.turn b c) (C.turn c a) (C.turn b a) (C.turn c b) (C.turn a c) _ (C.summed a b c) (wide a b c h) (C.swap a b) (C.swap b c) (C.swap c a)
            (above_means _ q.1) (above_means _ q.0) (above_means _ p.0)

        sums : (u v w x y z : ℕ) → u ≡ 0 → w ≡ 0 → x ≡ 0 → y ≡ 0 → z ≡ 0 → u + v + w ≡ x + y + z + v
        sums u v w x y z e f g i k = omega (arith, e, f, g, i, k)

    inside_turns : (p q s : Bool) → one (p && (q && s)) ≡ one (q && (s && p))
    inside_turns true true true = refl
    inside_turns true true false = refl
    inside_turns true false s = refl
    inside_turns false true true = refl
    inside_turns false true false = refl
    inside_turns false false s = refl

    winds_turned : (r a b c : ℕ) → Winds r b c a → Winds r a b c
    winds_turned r a b c e = turn (rise r a b) (rise r b c) (rise r c a) (rise r b a) (rise r c b) (rise r a c) (one (inside b c a)) (one (inside a b c)) e (inside_turns (above (C.turn a b)) (above (C.turn b c)) (above (C.turn c a)))
      where
        turn : (u v w x y z i k : ℕ) → v + w + u ≡ y + z + x + i → k ≡ i → u + v + w ≡ x + y + z + k
        turn u v w x y z i k e f = omega (arith, e, f)

    pub winds : (r a b c : ℕ) → r < n → a < n → b < n → c < n → a ≢ b → b ≢ c → c ≢ a → left S a b c → Winds r a b c
    winds r a b c hr ha hb hc ab bc ca h = by_tests (ℕ_discrete r a) (ℕ_discrete r b) (ℕ_discrete r c)
      where
        by_tests : Dec (r ≡ a) → Dec (r ≡ b) → Dec (r ≡ c) → Winds r a b c
        by_tests (yes e) _ _ = subst (λ t. Winds t a b c) (sym e) (at_corner a b c h)
        by_tests (no na) (yes e) _ = subst (λ t. Winds t a b c) (sym e) (winds_turned b a b c (at_corner b c a (Rattle.tri_theory.proofs.Plane.turned S h)))
        by_tests (no na) (no nb) (yes e) = subst (λ t. Winds t a b c) (sym e) (winds_turned c a b c (winds_turned c b c a (at_corner c a b (Rattle.tri_theory.proofs.Plane.back_turned S h))))
        by_tests (no na) (no nb) (no nc) = off_corners r a b c hr ha hb hc na nb nc ab bc ca h
