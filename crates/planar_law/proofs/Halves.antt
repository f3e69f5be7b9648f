-- The law of chains, for lists of points.
use Rattle.std.proofs.Common.{◌≡◌, ◌⊎◌, inl, inr, ℕ, suc, ◌+◌, ◌<◌, ℤ, pos, negsuc, ◌+ℤ◌, ◌*ℤ◌, neg_ℤ, ◌<ℤ◌, ◌≤ℤ◌, List, [], ◌∷◌, length, sym, ap, ap₂, ◌∙◌, subst, arith}
use Rattle.std.proofs.lemmas.Int.{ints}
use native.Mathlib.Decide.{ℕ_discrete}
use Rattle.geo_orient.specs.declared.Point.{Point}
use Rattle.geo_orient.specs.Predicates.{orient}
use Rattle.geo_orient.specs.Reach.{IsInReach}
use Rattle.geo_orient.proofs.Ring.{Term, solve}
use Rattle.geo_orient.proofs.Ring.Term.{var, plus, times, minus, num}
use Rattle.tri_theory.specs.Points.{point, IsLeft, ArePlaced}
use Rattle.tri_theory.proofs.Plane.{Plane}
use Rattle.tri_theory.proofs.Placed.{apart_points}
use Rattle.tri_theory.proofs.Lists.{plane}
use Rattle.planar_law.specs.Chains.{key, height, AreKeys, link, IsOver, IsChain, IsHullWay, IsLinked, AreReachable}
use Rattle.planar_law.proofs.Slopes.{Slope, Over, Chain, closed, clear, linked}

abbrev less : Term → Term → Term
less s t = plus s (minus t)

abbrev turn : Term × Term → Term × Term → Term × Term → Term
turn a b c = less (times (less b.0 a.0) (less c.1 a.1)) (times (less b.1 a.1) (less c.0 a.0))

abbrev level : Term × Term → Term
level a = plus (times a.0 (num (pos 2147483648))) a.1

abbrev P : Term × Term
P = (var 0, var 1)

abbrev U : Term × Term
U = (var 2, var 3)

abbrev V : Term × Term
V = (var 4, var 5)

abbrev W : Term × Term
W = (var 6, var 7)

balanced : (p u v w : Point) → orient p u v *ℤ (key w +ℤ neg_ℤ (key p)) +ℤ orient p v w *ℤ (key u +ℤ neg_ℤ (key p)) +ℤ orient p w u *ℤ (key v +ℤ neg_ℤ (key p)) ≡ pos 0
balanced p u v w =
    solve (p.x ∷ p.y ∷ u.x ∷ u.y ∷ v.x ∷ v.y ∷ w.x ∷ w.y ∷ [])
    (plus (plus (times (turn P U V) (less (level W) (level P))) (times (turn P V W) (less (level U) (level P)))) (times (turn P W U) (less (level V) (level P)))) (num (pos 0)) tt

turned_over : (a b c p u v w : ℤ) → a *ℤ (w +ℤ neg_ℤ p) +ℤ b *ℤ (u +ℤ neg_ℤ p) +ℤ c *ℤ (v +ℤ neg_ℤ p) ≡ pos 0
    → a *ℤ (neg_ℤ w +ℤ neg_ℤ (neg_ℤ p)) +ℤ b *ℤ (neg_ℤ u +ℤ neg_ℤ (neg_ℤ p)) +ℤ c *ℤ (neg_ℤ v +ℤ neg_ℤ (neg_ℤ p)) ≡ pos 0
turned_over a b c p u v w e =
    solve (a ∷ b ∷ c ∷ p ∷ u ∷ v ∷ w ∷ [])
    (plus (plus (times (var 0) (plus (minus (var 6)) (minus (minus (var 3))))) (times (var 1) (plus (minus (var 4)) (minus (minus (var 3)))))) (times (var 2) (plus (minus (var 5)) (minus (minus (var 3))))))
    (minus (plus (plus (times (var 0) (plus (var 6) (minus (var 3)))) (times (var 1) (plus (var 4) (minus (var 3))))) (times (var 2) (plus (var 5) (minus (var 3)))))) tt
    ∙ ap neg_ℤ e

-- points in reach with one key are equal
same_x : (x y u v : ℤ) → negsuc 536870911 ≤ℤ y → y ≤ℤ pos 536870912 → negsuc 536870911 ≤ℤ v → v ≤ℤ pos 536870912 → x *ℤ pos 2147483648 +ℤ y ≡ u *ℤ pos 2147483648 +ℤ v → x ≡ u
same_x x y u v a b c d e = omega (arith, ints, a, b, c, d, e)

same_y : (x y u v : ℤ) → x ≡ u → x *ℤ pos 2147483648 +ℤ y ≡ u *ℤ pos 2147483648 +ℤ v → y ≡ v
same_y x y u v f e = let g = ap (λ t. t *ℤ pos 2147483648) f in omega (arith, ints, e, g)

pub same_key : (p q : Point) → IsInReach p → IsInReach q → key p ≡ key q → p ≡ q
same_key p q hp hq e =
    let f = same_x p.x p.y q.x q.y hp.y_low hp.y_high hq.y_low hq.y_high e in
    ap₂ (λ x y. let r : Point = record { x = x; y = y } in r) f (same_y p.x p.y q.x q.y f e)

module _ (points : List Point) (placed : ArePlaced points) (reach : AreReachable points) (keys : List ℤ) (K : AreKeys points keys) where
  abbrev S : Plane
  S = plane points placed

  abbrev Balanced : ℕ → ℕ → ℕ → ℕ → ℤ → ℤ → ℤ → ℤ → Type 0
  Balanced p u v w hp hu hv hw = S.o p u v *ℤ (hw +ℤ neg_ℤ hp) +ℤ S.o p v w *ℤ (hu +ℤ neg_ℤ hp) +ℤ S.o p w u *ℤ (hv +ℤ neg_ℤ hp) ≡ pos 0

  put : (p u v w : ℕ) (a b c d a' b' c' d' : ℤ) → a ≡ a' → b ≡ b' → c ≡ c' → d ≡ d' → Balanced p u v w a' b' c' d' → Balanced p u v w a b c d
  put p u v w a b c d a' b' c' d' e f g i k = subst (λ t. Balanced p u v w t b c d) (sym e) (subst (λ t. Balanced p u v w a' t c d) (sym f) (subst (λ t. Balanced p u v w a' b' t d) (sym g) (subst (λ t. Balanced p u v w a' b' c' t) (sym i) k)))

  balance : (p u v w : ℕ) → p < S.n → u < S.n → v < S.n → w < S.n → Balanced p u v w (height keys p) (height keys u) (height keys v) (height keys w)
  balance p u v w hp hu hv hw = by_values K.values
    where
      by_values : ((i : ℕ) → i < length points → height keys i ≡ key (point points i)) ⊎ ((i : ℕ) → i < length points → height keys i ≡ neg_ℤ (key (point points i))) → Balanced p u v w (height keys p) (height keys u) (height keys v) (height keys w)
      by_values (inl e) = put p u v w _ _ _ _ _ _ _ _ (e p hp) (e u hu) (e v hv) (e w hw) (balanced (point points p) (point points u) (point points v) (point points w))
      by_values (inr e) = put p u v w _ _ _ _ _ _ _ _ (e p hp) (e u hu) (e v hv) (e w hw) (turned_over _ _ _ (key (point points p)) (key (point points u)) (key (point points v)) (key (point points w)) (balanced (point points p) (point points u) (point points v) (point points w)))

  distinct : (a b : ℕ) → a < S.n → b < S.n → height keys a ≡ height keys b → a ≡ b
  distinct a b ha hb e = by_test (ℕ_discrete a b)
    where
      negs : (x y : ℤ) → neg_ℤ x ≡ neg_ℤ y → x ≡ y
      negs x y e = omega (arith, ints, e)

      one_key : ((i : ℕ) → i < length points → height keys i ≡ key (point points i)) ⊎ ((i : ℕ) → i < length points → height keys i ≡ neg_ℤ (key (point points i))) → key (point points a) ≡ key (point points b)
      one_key (inl f) = sym (f a ha) ∙ e ∙ f b hb
      one_key (inr f) = negs _ _ (sym (f a ha) ∙ e ∙ f b hb)

      by_test : Dec (a ≡ b) → a ≡ b
      by_test (yes i) = i
      by_test (no ni) = absurd (apart_points points placed a b ha hb ni (same_key (point points a) (point points b) (reach a ha) (reach b hb) (one_key K.values)))

  abbrev slope : Slope S
  slope = record { h = height keys; balance = balance; distinct = distinct }

  module _ (chain : List ℕ) (I : IsChain points keys chain) where
    next : (j : ℕ) → j + 1 ≡ suc j
    next j = omega arith

    next_two : (j : ℕ) → j + 2 ≡ suc (suc j)
    next_two j = omega arith

    as_over : (t j : ℕ) → IsOver points keys chain t j → Over S slope (link chain) (length chain) t j
    as_over t j O = record {
      within = subst (λ k. k < length chain) (next j) O.within;
      from = O.from;
      to = subst (λ k. height keys t ≤ℤ height keys (link chain k)) (next j) O.to;
      at_left = subst (λ k. (t ≡ link chain j) ⊎ ((t ≡ link chain k) ⊎ IsLeft points (link chain j) (link chain k) t)) (next j) O.left;
    }

    as_chain : Chain S slope (link chain) (length chain)
    as_chain = record {
      named = I.named;
      rises = λ j l. subst (λ k. height keys (link chain j) <ℤ height keys (link chain k)) (next j) (I.rises j (subst (λ k. k < length chain) (sym (next j)) l));
      turns = λ j l. turned j l;
      over = λ t ht. over t (I.over t ht);
    }
      where
        turned : (j : ℕ) → suc (suc j) < length chain → ¬ IsLeft points (link chain (suc j)) (link chain j) (link chain (suc (suc j)))
        turned j l = subst (λ k. ¬ IsLeft points (link chain (suc j)) (link chain j) (link chain k)) (next_two j) (subst (λ k. ¬ IsLeft points (link chain k) (link chain j) (link chain (j + 2))) (next j) (I.turns j (subst (λ k. k < length chain) (sym (next_two j)) l)))

        over : (t : ℕ) → (j : ℕ) × IsOver points keys chain t j → (j : ℕ) × Over S slope (link chain) (length chain) t j
        over t (j, O) = (j, as_over t j O)

    pub way_linked : (a b : ℕ) → IsHullWay points keys a b → IsLinked chain a b
    way_linked a b W = back (linked S slope (link chain) (length chain) as_chain a b W.from W.to W.rises W.closed W.clear)
      where
        back : (j : ℕ) × (suc j < length chain) × (a ≡ link chain j) × (b ≡ link chain (suc j)) → IsLinked chain a b
        back (j, l, e, f) = (j, subst (λ k. k < length chain) (sym (next j)) l, e, subst (λ k. b ≡ link chain k) (sym (next j)) f)

    pub linked_way : (a b : ℕ) → IsLinked chain a b → IsHullWay points keys a b
    linked_way a b (j, l, e, f) = subst (λ x. IsHullWay points keys x b) (sym e) (subst (λ y. IsHullWay points keys (link chain j) y) (sym f) way)
      where
        m : suc j < length chain
        m = subst (λ k. k < length chain) (next j) l

        low : (i : ℕ) → suc i < length chain → i < length chain
        low i h = omega (arith, h)

        way : IsHullWay points keys (link chain j) (link chain (j + 1))
        way = subst (λ k. IsHullWay points keys (link chain j) (link chain k)) (sym (next j)) (record {
          from = I.named j (low j m);
          to = I.named (suc j) m;
          rises = subst (λ k. height keys (link chain j) <ℤ height keys (link chain k)) (next j) (I.rises j l);
          closed = λ p hp. closed S slope (link chain) (length chain) as_chain j p m hp;
          clear = λ p hp. clear S slope (link chain) (length chain) as_chain j p m hp;
        })
