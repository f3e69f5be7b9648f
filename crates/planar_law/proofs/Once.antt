-- A set of triangles that fit together at their sides covers no place twice.
use Rattle.std.proofs.Common.{◌≡◌, ◌≢◌, ◌⊎◌, inl, inr, ℕ, zero, suc, ◌+◌, ◌-◌, ◌*◌, ◌<◌, ◌≤◌, Bool, true, false, ◌&&◌, T, ℤ, refl, sym, ap, ap₂, ◌∙◌, subst, arith}
use native.Mathlib.Decide.{ℕ_discrete}
use Rattle.tri_theory.proofs.Plane.{Plane, left}
use Rattle.tri_theory.proofs.Tests.{both, joined}
use Rattle.planar_law.proofs.Sums as sums
use Rattle.planar_law.proofs.Sums.{total, total₂, total₃, same, same₂, same₃, at_most, at_most₂, at_most₃, added₂, added₃, scaled, swapped₂, turned₃, one₂, at_most_one, some_term, one, one_low, one_means, spot, spot_once, spot_cases}
use Rattle.planar_law.proofs.Spots.{Spot, IsFree, IsInside}
use Rattle.planar_law.proofs.Winding.{rise, rises, inside, winds, above_means, above_shown}
use Rattle.planar_law.proofs.Outer.{IsOuter, one_outer}

-- J says which points are joined, T which are the corners of a triangle, counter-clockwise. Each side is that of one triangle on its left, or an outer one
pub record Patch (S : Plane) (J : ℕ → ℕ → Type 0) (T : ℕ → ℕ → ℕ → Type 0) : Type 0 where
  pub joined : (a b : ℕ) → Dec (J a b)
  pub symm : {a b : ℕ} → J a b → J b a
  pub in_range : {a b : ℕ} → J a b → b < S.n
  pub apart : {a b : ℕ} → J a b → a ≢ b
  pub ends : (p : ℕ) → p < S.n → (q : ℕ) × J p q
  pub is : (a b c : ℕ) → Dec (T a b c)
  pub turns : {a b c : ℕ} → T a b c → left S a b c
  pub side : {a b c : ℕ} → T a b c → J a b
  pub next : {a b c : ℕ} → T a b c → T b c a
  pub one_third : {a b c d : ℕ} → T a b c → T a b d → c ≡ d
  pub full : {a b : ℕ} (p : ℕ) → J a b → p < S.n → left S a b p → (c : ℕ) × T a b c
  pub outer : {a b : ℕ} → J a b → ((p : ℕ) → p < S.n → ¬ left S a b p) → (p : ℕ) → p < S.n → ¬ S.between a b p

-- the two triangles are one, which may begin at another corner
abbrev pub IsTurned : ℕ → ℕ → ℕ → ℕ → ℕ → ℕ → Type 0
IsTurned a b c x y z = ((x ≡ a) × (y ≡ b) × (z ≡ c)) ⊎ (((x ≡ b) × (y ≡ c) × (z ≡ a)) ⊎ ((x ≡ c) × (y ≡ a) × (z ≡ b)))

abbrev truth : {P : Type 0} → Dec P → Bool
truth (yes p) = true
truth (no np) = false

truth_means : {P : Type 0} (d : Dec P) → T (truth d) → P
truth_means (yes p) t = p
truth_means (no np) t = absurd t

truth_shown : {P : Type 0} (d : Dec P) → P → truth d ≡ true
truth_shown (yes p) h = refl
truth_shown (no np) h = absurd (np h)

truth_hidden : {P : Type 0} (d : Dec P) → ¬ P → truth d ≡ false
truth_hidden (yes p) h = absurd (h p)
truth_hidden (no np) h = refl

product_one : (u v : ℕ) → u ≤ 1 → v ≤ 1 → u * v ≤ 1
product_one zero v h k = omega (arith, Rattle.std.proofs.Common.zero-mul v)
product_one (suc zero) v h k = omega (arith, Rattle.std.proofs.Common.one-mul v, k)
product_one (suc (suc u)) v h k = absurd (omega (arith, h))

product_some : (u v : ℕ) → 0 < u * v → (0 < u) × (0 < v)
product_some zero v h = absurd (omega (arith, h, Rattle.std.proofs.Common.zero-mul v))
product_some (suc u) zero h = absurd (omega (arith, h, Rattle.std.proofs.Common.mul-zero (suc u)))
product_some (suc u) (suc v) h = (omega arith, omega arith)

module _ (S : Plane) (J : ℕ → ℕ → Type 0) (T : ℕ → ℕ → ℕ → Type 0) (P : Patch S J T) where
  open S use {n}

  start : {a b : ℕ} → J a b → a < n
  start j = P.in_range (P.symm j)

  module _ (C : Spot S) (free : IsFree S C) (r : ℕ) (hr : r < n) where
    abbrev tri : ℕ → ℕ → ℕ → ℕ
    tri x y z = one (truth (P.is x y z))

    tri_next : (x y z : ℕ) → tri y z x ≡ tri x y z
    tri_next x y z = ap one (by_test (P.is x y z))
      where
        back : T y z x → T x y z
        back t = P.next (P.next t)

        by_test : (d : Dec (T x y z)) → truth (P.is y z x) ≡ truth d
        by_test (yes t) = truth_shown (P.is y z x) (P.next t)
        by_test (no nt) = truth_hidden (P.is y z x) (λ t. nt (back t))

    abbrev weight : (ℕ → ℕ → ℕ) → ℕ
    weight w = total₃ n (λ x y z. w x y * tri x y z)

    -- a sum over the triangles with their sides
    second_side : (w : ℕ → ℕ → ℕ) → total₃ n (λ x y z. w y z * tri x y z) ≡ weight w
    second_side w = same₃ n _ _ (λ x y z hx hy hz. ap (λ t. w y z * t) (sym (tri_next x y z))) ∙ turned₃ n (λ x y z. w x y * tri x y z)

    third_side : (w : ℕ → ℕ → ℕ) → total₃ n (λ x y z. w z x * tri x y z) ≡ weight w
    third_side w = same₃ n _ _ (λ x y z hx hy hz. ap (λ t. w z x * t) (sym (tri_next x y z))) ∙ turned₃ n (λ x y z. w y z * tri x y z) ∙ second_side w

    all_sides : (w : ℕ → ℕ → ℕ) → total₃ n (λ x y z. (w x y + w y z + w z x) * tri x y z) ≡ weight w + weight w + weight w
    all_sides w =
        same₃ n _ _ (λ x y z hx hy hz. Rattle.std.proofs.Common.add-mul (w x y + w y z) (w z x) (tri x y z) ∙ ap (λ t. t + w z x * tri x y z) (Rattle.std.proofs.Common.add-mul (w x y) (w y z) (tri x y z)))
        ∙ added₃ n (λ x y z. w x y * tri x y z + w y z * tri x y z) (λ x y z. w z x * tri x y z)
        ∙ ap₂ ◌+◌ (added₃ n (λ x y z. w x y * tri x y z) (λ x y z. w y z * tri x y z) ∙ ap (λ t. weight w + t) (second_side w)) (third_side w)

    abbrev up : ℕ → ℕ → ℕ
    up x y = rise S C r x y

    abbrev down : ℕ → ℕ → ℕ
    down x y = rise S C r y x

    abbrev cover : ℕ
    cover = total₃ n (λ x y z. one (inside S C x y z) * tri x y z)

    -- each triangle over the place counts at its three corners
    counted : weight up + weight up + weight up ≡ weight down + weight down + weight down + cover
    counted =
        sym (all_sides up)
        ∙ same₃ n _ _ (λ x y z hx hy hz. at_each x y z hx hy hz (P.is x y z) ∙ Rattle.std.proofs.Common.add-mul (down x y + down y z + down z x) (one (inside S C x y z)) (tri x y z))
        ∙ added₃ n (λ x y z. (down x y + down y z + down z x) * tri x y z) (λ x y z. one (inside S C x y z) * tri x y z)
        ∙ ap (λ t. t + cover) (all_sides down)
      where
        zeros : (u v w : ℕ) → w ≡ 0 → u * w ≡ v * w
        zeros u v w e = ap (λ t. u * t) e ∙ Rattle.std.proofs.Common.mul-zero u ∙ sym (Rattle.std.proofs.Common.mul-zero v) ∙ ap (λ t. v * t) (sym e)

        at_each : (x y z : ℕ) → x < n → y < n → z < n → Dec (T x y z) → (up x y + up y z + up z x) * tri x y z ≡ (down x y + down y z + down z x + one (inside S C x y z)) * tri x y z
        at_each x y z hx hy hz (yes t) = ap (λ k. k * tri x y z) (winds S C free r x y z hr hx hy hz (P.apart (P.side t)) (P.apart (P.side (P.next t))) (P.apart (P.side (P.next (P.next t)))) (P.turns t))
        at_each x y z hx hy hz (no nt) = zeros _ _ (tri x y z) (ap one (truth_hidden (P.is x y z) nt))

    -- the number of triangles on the left of a side
    abbrev thirds : ℕ → ℕ → ℕ
    thirds x y = total n (tri x y)

    by_thirds : (w : ℕ → ℕ → ℕ) → weight w ≡ total₂ n (λ x y. w x y * thirds x y)
    by_thirds w = same₂ n _ _ (λ x y hx hy. scaled n (w x y) (tri x y))

    is_tri : (x y z : ℕ) → 0 < tri x y z → T x y z
    is_tri x y z h = truth_means (P.is x y z) (one_means (truth (P.is x y z)) h)

    few_thirds : (x y : ℕ) → thirds x y ≤ 1
    few_thirds x y = at_most_one n (tri x y) (λ z hz. one_low (truth (P.is x y z))) (λ z v hz hv p q. P.one_third (is_tri x y z p) (is_tri x y v q))

    abbrev over : ℕ → ℕ → ℕ
    over x y = up x y * thirds x y - up x y * thirds y x

    over_low : (x y : ℕ) → over x y ≤ 1
    over_low x y = let l = product_one (up x y) (thirds x y) (one_low (rises S C r x y)) (few_thirds x y) in omega (arith, l)

    -- a way that counts is an outer side that the ray crosses
    counts : (x y : ℕ) → 0 < over x y → J x y × IsOuter S x y × IsInside S C r x y
    counts x y h = (j, record { closed = closed; clear = λ p hp m. P.outer (P.symm j) closed p hp (S.between_swap x y p m) }, crossed)
      where
        some : (0 < up x y) × (0 < thirds x y)
        some = product_some (up x y) (thirds x y) (omega (arith, h))

        third : (z : ℕ) × (z < n) × (0 < tri x y z)
        third = some_term n (tri x y) some.1

        j : J x y
        j = P.side (is_tri x y third.0 third.2)

        parts : IsInside S C r x y
        parts =
            let t = one_means (rises S C r x y) some.0 in
            let p = both (Rattle.planar_law.proofs.Winding.above (C.turn r x)) _ t in let q = both (Rattle.planar_law.proofs.Winding.above (C.turn x y)) _ p.1 in
            record { ab = above_means (C.turn r x) p.0; bc = above_means (C.turn x y) q.0; ca = above_means (C.turn y r) q.1 }

        crossed : IsInside S C r x y
        crossed = parts

        other : (z : ℕ) → T y x z → ⊥
        other z t = none (thirds x y) (thirds y x) (up x y) (few_thirds x y) some.0 (reached z t) h
          where
            reached : (z : ℕ) → T y x z → 1 ≤ thirds y x
            reached z t = at_least n (tri y x) z (P.in_range (P.side (P.next t))) (ap one (truth_shown (P.is y x z) t))
              where
                at_least : (m : ℕ) (f : ℕ → ℕ) (k : ℕ) → k < m → f k ≡ 1 → 1 ≤ total m f
                at_least zero f k l e = absurd (omega (arith, l))
                at_least (suc m) f k l e = by_test (ℕ_discrete k m) (λ i. at_least m f k i e)
                  where
                    by_test : Dec (k ≡ m) → (k < m → 1 ≤ total m f) → 1 ≤ total (suc m) f
                    by_test (yes g) _ = let i : f m ≡ 1 = subst (λ s. f s ≡ 1) g e in omega (arith, i)
                    by_test (no ng) again = let i = again (omega (arith, l, ng)) in omega (arith, i)

            none : (u v w : ℕ) → u ≤ 1 → 0 < w → 1 ≤ v → 0 < w * u - w * v → ⊥
            none u v w hu hw hv k = let l : u ≤ v = omega (arith, hu, hv) in let m = Rattle.std.proofs.Common.mul-le-mul_left w l in omega (arith, m, k)

        closed : (p : ℕ) → p < n → ¬ left S y x p
        closed p hp l = let found = P.full p (P.symm j) hp l in other found.0 found.1

    few_outer : total₂ n over ≤ 1
    few_outer = one₂ n over (λ x y hx hy. over_low x y) (λ x y u v hx hy hu hv p q. let f = counts x y p in let g = counts u v q in one_outer S C r x y u v hr hx hy hu hv free f.1 g.1 f.2 g.2)

    few : weight up ≤ weight down + 1
    few = let a = by_thirds up in let b = by_thirds down ∙ swapped₂ n (λ x y. down x y * thirds x y) in let c = at_most₂ n (λ x y. up x y * thirds x y) (λ x y. up x y * thirds y x + over x y) (λ x y hx hy. grown (up x y * thirds x y) (up x y * thirds y x)) in let d = added₂ n (λ x y. up x y * thirds y x) over in let e = few_outer in omega (arith, a, b, c, d, e)
      where
        grown : (u v : ℕ) → u ≤ v + (u - v)
        grown u v = omega arith

    cover_low : cover ≤ 3
    cover_low = let a = counted in let b = few in omega (arith, a, b)

    -- ---- four triples at which a triangle over the place counts
    four : (a b c x y z : ℕ) → T a b c → T x y z → IsInside S C a b c → IsInside S C x y z → ¬ IsTurned a b c x y z → ⊥
    four a b c x y z t u i k apart = let l = cover_low in let m = at_most₃ n marks (λ x y z. one (inside S C x y z) * tri x y z) (λ u v w hu hv hw. mark u v w) in let e = four_marks in omega (arith, l, m, e)
      where
        ha : a < n
        ha = start (P.side t)

        hb : b < n
        hb = P.in_range (P.side t)

        hc : c < n
        hc = P.in_range (P.side (P.next t))

        hx : x < n
        hx = start (P.side u)

        hy : y < n
        hy = P.in_range (P.side u)

        hz : z < n
        hz = P.in_range (P.side (P.next u))

        marks : ℕ → ℕ → ℕ → ℕ
        marks p q s = (spot a b c p q s + spot b c a p q s) + (spot c a b p q s + spot x y z p q s)

        four_marks : total₃ n marks ≡ 4
        four_marks =
            added₃ n (λ p q s. spot a b c p q s + spot b c a p q s) (λ p q s. spot c a b p q s + spot x y z p q s)
            ∙ ap₂ ◌+◌ (added₃ n (spot a b c) (spot b c a) ∙ ap₂ ◌+◌ (spot_once n a b c ha hb hc) (spot_once n b c a hb hc ha)) (added₃ n (spot c a b) (spot x y z) ∙ ap₂ ◌+◌ (spot_once n c a b hc ha hb) (spot_once n x y z hx hy hz))

        value : (p q s : ℕ) → T p q s → IsInside S C p q s → one (inside S C p q s) * tri p q s ≡ 1
        value p q s v j = ap₂ ◌*◌ (sums.one_shown (inside S C p q s) (joined _ _ (above_shown _ j.ab) (joined _ _ (above_shown _ j.bc) (above_shown _ j.ca)))) (ap one (truth_shown (P.is p q s) v))

        Off : ℕ → ℕ → ℕ → ℕ → ℕ → ℕ → Type 0
        Off a b c p q s = (spot a b c p q s ≡ 0) ⊎ ((spot a b c p q s ≡ 1) × (a ≡ p) × (b ≡ q) × (c ≡ s))

        mark : (p q s : ℕ) → marks p q s ≤ one (inside S C p q s) * tri p q s
        mark p q s = by_cases (spot_cases a b c p q s) (spot_cases b c a p q s) (spot_cases c a b p q s) (spot_cases x y z p q s)
          where
            V : ℕ
            V = one (inside S C p q s) * tri p q s

            there : (d e f : ℕ) → T d e f → IsInside S C d e f → d ≡ p → e ≡ q → f ≡ s → V ≡ 1
            there d e f v j i1 i2 i3 = subst (λ k. one (inside S C p q k) * tri p q k ≡ 1) i3 (subst (λ k. one (inside S C p k f) * tri p k f ≡ 1) i2 (subst (λ k. one (inside S C k e f) * tri k e f ≡ 1) i1 (value d e f v j)))

            differ : a ≢ b
            differ = P.apart (P.side t)

            sum : (k l m o : ℕ) → k ≡ 0 → l ≡ 0 → m ≡ 0 → o ≡ 0 → (k + l) + (m + o) ≤ V
            sum k l m o e f g h = omega (arith, e, f, g, h)

            sum₁ : (k' l' m' o' k l m o : ℕ) → V ≡ 1 → k ≡ k' → l ≡ l' → m ≡ m' → o ≡ o' → (k' + l') + (m' + o') ≡ 1 → (k + l) + (m + o) ≤ V
            sum₁ k' l' m' o' k l m o i e f g h j = omega (arith, i, e, f, g, h, j)

            turned_once : IsInside S C b c a
            turned_once = record { ab = i.bc; bc = i.ca; ca = i.ab }

            turned_twice : IsInside S C c a b
            turned_twice = record { ab = i.ca; bc = i.ab; ca = i.bc }

            by_cases : Off a b c p q s → Off b c a p q s → Off c a b p q s → Off x y z p q s → marks p q s ≤ V
            by_cases (inl e) (inl f) (inl g) (inl h) = sum _ _ _ _ e f g h
            by_cases (inr (e, e1, e2, e3)) (inl f) (inl g) (inl h) = sum₁ 1 0 0 0 _ _ _ _ (there a b c t i e1 e2 e3) e f g h refl
            by_cases (inl e) (inr (f, f1, f2, f3)) (inl g) (inl h) = sum₁ 0 1 0 0 _ _ _ _ (there b c a (P.next t) turned_once f1 f2 f3) e f g h refl
            by_cases (inl e) (inl f) (inr (g, g1, g2, g3)) (inl h) = sum₁ 0 0 1 0 _ _ _ _ (there c a b (P.next (P.next t)) turned_twice g1 g2 g3) e f g h refl
            by_cases (inl e) (inl f) (inl g) (inr (h, h1, h2, h3)) = sum₁ 0 0 0 1 _ _ _ _ (there x y z u k h1 h2 h3) e f g h refl
            by_cases (inr (e, e1, e2, e3)) (inr (f, f1, f2, f3)) _ _ = absurd (differ (e1 ∙ sym f1))
            by_cases (inr (e, e1, e2, e3)) _ (inr (g, g1, g2, g3)) _ = absurd (differ (sym (e2 ∙ sym g2)))
            by_cases _ (inr (f, f1, f2, f3)) (inr (g, g1, g2, g3)) _ = absurd (differ (f3 ∙ sym g3))
            by_cases (inr (e, e1, e2, e3)) _ _ (inr (h, h1, h2, h3)) = absurd (apart (inl (h1 ∙ sym e1, h2 ∙ sym e2, h3 ∙ sym e3)))
            by_cases _ (inr (f, f1, f2, f3)) _ (inr (h, h1, h2, h3)) = absurd (apart (inr (inl (h1 ∙ sym f1, h2 ∙ sym f2, h3 ∙ sym f3))))
            by_cases _ _ (inr (g, g1, g2, g3)) (inr (h, h1, h2, h3)) = absurd (apart (inr (inr (h1 ∙ sym g1, h2 ∙ sym g2, h3 ∙ sym g3))))

  -- two triangles over one place are one
  pub one_over : (C : Spot S) → IsFree S C → (a b c x y z : ℕ) → T a b c → T x y z → IsInside S C a b c → IsInside S C x y z → ¬ ¬ IsTurned a b c x y z
  one_over C free a b c x y z t u i k apart = four C free a (start (P.side t)) a b c x y z t u i k apart
