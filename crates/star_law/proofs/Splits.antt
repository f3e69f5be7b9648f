-- The splits of a number are all that there are, in order; where none meets, three inputs need more rounds.
use Rattle.std.proofs.Common.{◌≡◌, inl, inr, ℕ, zero, suc, ◌+◌, ◌-◌, ◌*◌, ◌/◌, ◌<◌, ◌≤◌, List, length, map, Contains, refl, subst, arith, length-append}
use Rattle.std.specs.List.{AllPairs, flat_map, range_with_len}
use Rattle.std.proofs.lemmas.List.FromFn.{length-map-range_with_len}
use Rattle.geo_orient.specs.declared.Point.{Point}
use Rattle.tri_theory.specs.Points.{ArePlaced}
use Rattle.edge_table.specs.declared.edge.Edge.{Edge}
use Rattle.tri_theory.specs.Triangulations.{IsTriangulation}
use Rattle.tri_theory.specs.Rounds.{IsSchedule, Within}
use Rattle.star_law.specs.Splits.{Split, split_sum, splits, IsSplitBefore, IsLowerOfThree, SplitMeets}
use Rattle.tri_theory.proofs.Schedules.{schedule_triangulation, within_back, within_sum}
use Rattle.formula_law.proofs.OrderedLists.{pairs_none, pairs_cons, pairs_append}
use Rattle.formula_law.proofs.Clauses.{in_map, mapped, in_flat_map, flat_mapped, ranged, in_range}

-- ---- the splits of n
module _ (n : ℕ) where
  abbrev row : ℕ → List Split
  row a = map (λ b. (a, b, n - a - b)) (range_with_len 0 (n - a + 1))

  abbrev split : ℕ → ℕ → Split
  split a b = (a, b, n - a - b)

  in_row : (a : ℕ) (p : Split) → Contains (row a) p → (b : ℕ) × (b ≤ n - a) × (split a b ≡ p)
  in_row a p h = by_place (in_map (split a) (range_with_len 0 (n - a + 1)) p h)
    where
      by_place : (b : ℕ) × Contains (range_with_len 0 (n - a + 1)) b × (split a b ≡ p) → (b : ℕ) × (b ≤ n - a) × (split a b ≡ p)
      by_place (b, i, e) = let r = in_range 0 (n - a + 1) b i in (b, omega arith, e)

  pub sum_of_split : (p : Split) → Contains (splits n) p → split_sum p ≡ n
  sum_of_split p h = by_row (in_flat_map row (range_with_len 0 (n + 1)) p h)
    where
      by_split : (a : ℕ) → a ≤ n → (b : ℕ) × (b ≤ n - a) × (split a b ≡ p) → p.0 + p.1 + p.2 ≡ n
      by_split a l (b, m, e) = let sums : a + b + (n - a - b) ≡ n = omega arith in subst (λ (p : Split). p.0 + p.1 + p.2 ≡ n) e sums

      by_row : (a : ℕ) × Contains (range_with_len 0 (n + 1)) a × Contains (row a) p → p.0 + p.1 + p.2 ≡ n
      by_row (a, i, j) = let r = in_range 0 (n + 1) a i in by_split a (omega arith) (in_row a p j)

  pub split_listed : (a b c : ℕ) → a + b + c ≡ n → Contains (splits n) (a, b, c)
  split_listed a b c e =
      let last : n - a - b ≡ c = omega arith in
      subst (λ c. Contains (splits n) (a, b, c)) last
      (flat_mapped row (range_with_len 0 (n + 1)) a (split a b) (ranged 0 (n + 1) a (omega arith) (omega arith)) (mapped (split a) (range_with_len 0 (n - a + 1)) b (ranged 0 (n - a + 1) b (omega arith) (omega arith))))

  -- ---- in order
  row_ascends : (a i m : ℕ) → AllPairs IsSplitBefore (map (split a) (range_with_len i m))
  row_ascends a i zero = pairs_none IsSplitBefore
  row_ascends a i (suc m) = pairs_cons IsSplitBefore (split a i) (map (split a) (range_with_len (i + 1) m)) (λ p h. later p (in_map (split a) (range_with_len (i + 1) m) p h)) (row_ascends a (i + 1) m)
    where
      later : (p : Split) → (b : ℕ) × Contains (range_with_len (i + 1) m) b × (split a b ≡ p) → IsSplitBefore (split a i) p
      later p (b, h, e) = let r = in_range (i + 1) m b h in subst (IsSplitBefore (split a i)) e (inr (refl, omega arith))

  rows_ascend : (i m : ℕ) → AllPairs IsSplitBefore (flat_map row (range_with_len i m))
  rows_ascend i zero = pairs_none IsSplitBefore
  rows_ascend i (suc m) = pairs_append IsSplitBefore (row i) (flat_map row (range_with_len (i + 1) m)) (row_ascends i 0 (n - i + 1)) (rows_ascend (i + 1) m) (λ p q h k. by_rows p q (in_row i p h) (in_flat_map row (range_with_len (i + 1) m) q k))
    where
      by_splits : (p q : Split) (a : ℕ) → i < a → (b : ℕ) × (b ≤ n - i) × (split i b ≡ p) → (c : ℕ) × (c ≤ n - a) × (split a c ≡ q) → IsSplitBefore p q
      by_splits p q a l (b, u, e) (c, v, f) = subst (IsSplitBefore p) f (subst (λ p. IsSplitBefore p (split a c)) e (inl l))

      by_rows : (p q : Split) → (b : ℕ) × (b ≤ n - i) × (split i b ≡ p) → (a : ℕ) × Contains (range_with_len (i + 1) m) a × Contains (row a) q → IsSplitBefore p q
      by_rows p q r (a, h, k) = let s = in_range (i + 1) m a h in by_splits p q a (omega arith) r (in_row a q k)

  pub splits_ascend : AllPairs IsSplitBefore (splits n)
  splits_ascend = rows_ascend 0 (n + 1)

  -- ---- how many
  rows_counted : (i m : ℕ) → i + m ≡ n + 1 → 2 * length (flat_map row (range_with_len i m)) ≡ m * (m + 1)
  rows_counted i zero e = omega arith
  rows_counted i (suc m) e =
      let again = rows_counted (i + 1) m (omega arith) in
      let this = length-map-range_with_len (split i) 0 (n - i + 1) in
      let both = length-append (row i) (flat_map row (range_with_len (i + 1) m)) in
      counted (length (flat_map row (range_with_len i (suc m)))) (length (row i)) (length (flat_map row (range_with_len (i + 1) m))) (omega (arith, this)) again both
    where
      counted : (l r k : ℕ) → r ≡ suc m → 2 * k ≡ m * (m + 1) → l ≡ r + k → 2 * l ≡ suc m * (suc m + 1)
      counted l r k e f g = omega arith

  pub splits_counted : 2 * length (splits n) ≡ (n + 1) * (n + 2)
  splits_counted = let e = rows_counted 0 (n + 1) (omega arith) in omega (arith, e)

-- ---- three inputs
module _ (points : List Point) (P : ArePlaced points) (A B C : List Edge) where
  pub splits_bound : (n : ℕ) → IsTriangulation points A → ((p : Split) → Contains (splits n) p → ¬ SplitMeets points A B C p) → IsLowerOfThree points A B C (n + 1)
  splits_bound n N none centre f g h sf sg sh = high (length f) (length g) (length h) n (λ l. none (split n (length f) (length g)) (listed l) (centre, schedule_triangulation points P A centre f N sf, (f, omega arith, sf), (g, omega arith, sg), (h, omega arith, sh)))
    where
      listed : length f + length g + length h ≤ n → Contains (splits n) (split n (length f) (length g))
      listed l = split_listed n (length f) (length g) (n - length f - length g) (omega arith)

      high : (a b c n : ℕ) → ¬ (a + b + c ≤ n) → n + 1 ≤ a + b + c
      high a b c n m = omega arith

  pub bound_splits : (n : ℕ) → IsLowerOfThree points A B C (n + 1) → (p : Split) → Contains (splits n) p → ¬ SplitMeets points A B C p
  bound_splits n low p i (hub, N, (f, lf, sf), (g, lg, sg), (h, lh, sh)) =
      let l = low hub f g h sf sg sh in let e = sum_of_split n p i in omega arith

  pub pairs_bound : (ab bc ac : ℕ) → IsTriangulation points A → IsTriangulation points B → IsTriangulation points C
      → ((k : ℕ) → k < ab → ¬ Within points A B k) → ((k : ℕ) → k < bc → ¬ Within points B C k) → ((k : ℕ) → k < ac → ¬ Within points A C k)
      → IsLowerOfThree points A B C ((ab + bc + ac + 1) / 2)
  pairs_bound ab bc ac N M O hab hbc hac centre f g h sf sg sh =
      halves ab bc ac (length f) (length g) (length h)
      (low ab _ (λ l. hab (length f + length g) l (join A B f g M sf sg)))
      (low bc _ (λ l. hbc (length g + length h) l (join B C g h O sg sh)))
      (low ac _ (λ l. hac (length f + length h) l (join A C f h O sf sh)))
    where
      join : (X Y : List Edge) (u v : List (List Edge)) → IsTriangulation points Y → IsSchedule points X u centre → IsSchedule points Y v centre → Within points X Y (length u + length v)
      join X Y u v I s t = within_sum points X centre Y (length u) (length v) (u, omega arith, s) (within_back points P Y centre (length v) I (v, omega arith, t))

      low : (x y : ℕ) → ¬ (y < x) → x ≤ y
      low x y h = omega arith

      halves : (x y z a b c : ℕ) → x ≤ a + b → y ≤ b + c → z ≤ a + c → (x + y + z + 1) / 2 ≤ a + b + c
      halves x y z a b c h i j = omega arith
