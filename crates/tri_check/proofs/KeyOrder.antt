-- Keys of points, and orders by them.
use Rattle.std.proofs.Common.{◌≡◌, ◌⊎◌, inl, inr, ℕ, zero, suc, ◌+◌, ◌<◌, ℤ, pos, neg_ℤ, ◌<ℤ◌, List, [], ◌∷◌, ◌++◌, length, sym, ap, ◌∙◌, subst, subst₂, arith}
use Rattle.std.proofs.lemmas.Int.{ints}
use Rattle.std.proofs.lemmas.List.{get_or_push, length_push, get_or_append_left}
use native.Mathlib.Decide.{ℕ_discrete, dec_lt}
use Rattle.geo_orient.specs.declared.Point.{Point}
use Rattle.tri_theory.specs.Points.{point}
use Rattle.planar_law.specs.Chains.{key, height, link, AreKeys}
use Rattle.tri_check.specs.Stages.{AreDistinct}
use Rattle.tri_check.proofs.Searches.{split}

-- the numbers of the first i points by f
pub record AreFirst (points : List Point) (keys : List ℤ) (f : Point → ℤ) (i : ℕ) : Type 0 where
  pub count : length keys ≡ i
  pub values : (k : ℕ) → k < i → height keys k ≡ f (point points k)

pub first_none : (points : List Point) (keys : List ℤ) (f : Point → ℤ) → keys ≡ [] → AreFirst points keys f 0
first_none points keys f e = record { count = ap length e; values = λ k l. absurd (omega (arith, l)) }

pub first_more : (points : List Point) (keys new : List ℤ) (f : Point → ℤ) (i : ℕ) (x : ℤ) → AreFirst points keys f i → x ≡ f (point points i) → new ≡ keys ++ x ∷ [] → AreFirst points new f (i + 1)
first_more points keys new f i x F is e = subst (λ ks. AreFirst points ks f (i + 1)) (sym e) (record {
  count = length_push keys x ∙ ap (λ n. n + 1) F.count;
  values = λ k l. value k (split i k l);
})
  where
    value : (k : ℕ) → (k < i) ⊎ (k ≡ i) → height (keys ++ x ∷ []) k ≡ f (point points k)
    value k (inl l) = get_or_append_left keys (x ∷ []) (pos 0) k (let c = F.count in omega (arith, c, l)) ∙ F.values k l
    value k (inr s) = get_or_push keys x (pos 0) k (F.count ∙ sym s) ∙ is ∙ ap (λ j. f (point points j)) (sym s)

pub rising : (points : List Point) (keys : List ℤ) (i : ℕ) → i ≡ length points → AreFirst points keys key i → AreKeys points keys
rising points keys i e F = record { count = F.count ∙ e; values = inl (λ k l. F.values k (omega (arith, e, l))) }

abbrev pub negative : Point → ℤ
negative p = neg_ℤ (key p)

pub falling : (points : List Point) (keys : List ℤ) (i : ℕ) → i ≡ length points → AreFirst points keys negative i → AreKeys points keys
falling points keys i e F = record { count = F.count ∙ e; values = inr (λ k l. F.values k (omega (arith, e, l))) }

-- ---- ascending keys
abbrev pub Ascends : List ℤ → List ℕ → ℕ → Type 0
Ascends keys numbers i = (j : ℕ) → j < i → j + 1 < length numbers → height keys (link numbers j) <ℤ height keys (link numbers (j + 1))

pub ascends_more : (keys : List ℤ) (numbers : List ℕ) (i : ℕ) → Ascends keys numbers i → (i + 1 < length numbers → height keys (link numbers i) <ℤ height keys (link numbers (i + 1))) → Ascends keys numbers (i + 1)
ascends_more keys numbers i A here j l w = by_case (split i j l)
  where
    by_case : (j < i) ⊎ (j ≡ i) → height keys (link numbers j) <ℤ height keys (link numbers (j + 1))
    by_case (inl k) = A j k w
    by_case (inr e) = subst (λ q. height keys (link numbers q) <ℤ height keys (link numbers (q + 1))) (sym e) (here (omega (arith, e, w)))

join : (x y z : ℤ) → x <ℤ y → y <ℤ z → x <ℤ z
join x y z p q = omega (arith, ints)

climb : (keys : List ℤ) (numbers : List ℕ) → ((j : ℕ) → j + 1 < length numbers → height keys (link numbers j) <ℤ height keys (link numbers (j + 1))) → (p q : ℕ) → p < q → q < length numbers → height keys (link numbers p) <ℤ height keys (link numbers q)
climb keys numbers A p zero l w = absurd (omega (arith, l))
climb keys numbers A p (suc q) l w = by_test (ℕ_discrete p q) (λ k. climb keys numbers A p q k (omega (arith, w)))
  where
    next : q + 1 ≡ suc q
    next = omega arith

    step : height keys (link numbers q) <ℤ height keys (link numbers (suc q))
    step = subst (λ k. height keys (link numbers q) <ℤ height keys (link numbers k)) next (A q (omega (arith, w)))

    by_test : Dec (p ≡ q) → (p < q → height keys (link numbers p) <ℤ height keys (link numbers q)) → height keys (link numbers p) <ℤ height keys (link numbers (suc q))
    by_test (yes e) _ = subst (λ k. height keys (link numbers k) <ℤ height keys (link numbers (suc q))) (sym e) step
    by_test (no ne) again = join _ _ _ (again (omega (arith, l, ne))) step

pub distinct_by : (points : List Point) (keys : List ℤ) (order ranks : List ℕ) → AreKeys points keys → ((j : ℕ) → j + 1 < length order → height keys (link order j) <ℤ height keys (link order (j + 1))) → ((i : ℕ) → i < length points → link ranks i < length order) → ((i : ℕ) → i < length points → link order (link ranks i) ≡ i) → AreDistinct points
distinct_by points keys order ranks K A within there i j l hj same = by_order (dec_lt (link ranks i) (link ranks j)) (dec_lt (link ranks j) (link ranks i))
  where
    hi : i < length points
    hi = omega (arith, l, hj)

    one_key : ((i : ℕ) → i < length points → height keys i ≡ key (point points i)) ⊎ ((i : ℕ) → i < length points → height keys i ≡ neg_ℤ (key (point points i))) → height keys i ≡ height keys j
    one_key (inl f) = f i hi ∙ ap key same ∙ sym (f j hj)
    one_key (inr f) = f i hi ∙ ap negative same ∙ sym (f j hj)

    none : (x y : ℤ) → x ≡ y → x <ℤ y → ⊥
    none x y e k = omega (arith, ints, e, k)

    back : (x y : ℤ) → x ≡ y → y <ℤ x → ⊥
    back x y e k = omega (arith, ints, e, k)

    by_order : Dec (link ranks i < link ranks j) → Dec (link ranks j < link ranks i) → ⊥
    by_order (yes k) _ = none (height keys i) (height keys j) (one_key K.values) (subst₂ (λ a b. height keys a <ℤ height keys b) (there i hi) (there j hj) (climb keys order A (link ranks i) (link ranks j) k (within j hj)))
    by_order (no nk) (yes k) = back (height keys i) (height keys j) (one_key K.values) (subst₂ (λ a b. height keys a <ℤ height keys b) (there j hj) (there i hi) (climb keys order A (link ranks j) (link ranks i) k (within i hi)))
    by_order (no nk) (no nl) = apart (sym (there i hi) ∙ ap (link order) equal ∙ there j hj)
      where
        equal : link ranks i ≡ link ranks j
        equal = omega (arith, nk, nl)

        apart : i ≡ j → ⊥
        apart e = omega (arith, e, l)
