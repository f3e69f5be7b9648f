-- The numbers of live places and live flips, layer by layer, and the layers in the middle, where all is live.
use Rattle.std.proofs.Common.{◌≡◌, ◌⊎◌, inl, inr, ℕ, zero, suc, ◌+◌, ◌*◌, ◌<◌, ◌≤◌, Bool, true, false, ◌&&◌, eqb, eqb-true, List, [], ◌∷◌, ◌++◌, length, map, Contains, refl, ap, ◌∙◌, subst, arith}
use Rattle.std.specs.Prelude.{leb}
use Rattle.std.specs.List.{filter, flat_map, sum_by, position_or_len, range_with_len}
use Rattle.std.proofs.lemmas.Bool.{eq-eqb, le-leb}
use Rattle.std.proofs.lemmas.List.{length-map}
use Rattle.std.proofs.lemmas.List.Sums.{sum_by-cons}
use Rattle.geo_orient.specs.declared.Point.{Point}
use Rattle.tri_theory.specs.Points.{ArePlaced}
use Rattle.tri_theory.specs.Crossings.{crossings}
use Rattle.crossing_law.specs.Digits.{digits}
use Rattle.edge_table.specs.declared.edge.Edge.{Edge}
use Rattle.edge_table.specs.Edges.{is_edge}
use Rattle.formula_law.specs.Frames.{Pair, Frame, IsFrame}
use Rattle.formula_law.specs.Formula.{is_pair}
use Rattle.formula_law.specs.PrunedFormula.{Live, live_between, is_live_flip, live_places, live_there, live_made, live_crossing_clauses, live_flip_clauses, live_change_clauses}
use Rattle.formula_law.proofs.Clauses.{and, true_or_false, in_first, in_later, filtered, in_map}
use Rattle.formula_law.proofs.EdgeTests.{edge_place, pair_place}
use Rattle.formula_law.proofs.PrunedCounts.{full_crossings, full_flips, full_changes}

-- ---- places in joined and mapped lists
module _ {X : Type 0} where
  place_front : (p : X → Bool) (xs ys : List X) → position_or_len p xs < length xs → position_or_len p (xs ++ ys) ≡ position_or_len p xs
  place_front p [] ys l = absurd (omega arith)
  place_front p (x ∷ xs) ys l = by_test (true_or_false (p x)) l (λ m. place_front p xs ys m)
    where
      by_test : (p x ≡ true) ⊎ (p x ≡ false) → position_or_len p (x ∷ xs) < length (x ∷ xs) → (position_or_len p xs < length xs → position_or_len p (xs ++ ys) ≡ position_or_len p xs) → position_or_len p (x ∷ (xs ++ ys)) ≡ position_or_len p (x ∷ xs)
      by_test (inl e) m again = rw e refl
      by_test (inr e) m again = let l : 1 + position_or_len p xs < length (x ∷ xs) = rw e at m in rw e (ap (λ n. 1 + n) (again (omega arith)))

  place_back : (p : X → Bool) (xs ys : List X) → ((x : X) → Contains xs x → p x ≡ false) → position_or_len p (xs ++ ys) ≡ length xs + position_or_len p ys
  place_back p [] ys h = omega arith
  place_back p (x ∷ xs) ys h = let again = place_back p xs ys (λ y i. h y (in_later y x xs i)) in rw (h x (in_first x xs)) (omega (arith, again))

module _ {X Y : Type 0} where
  place_map : (p : Y → Bool) (q : X → Bool) (f : X → Y) (xs : List X) → ((x : X) → p (f x) ≡ q x) → position_or_len p (map f xs) ≡ position_or_len q xs
  place_map p q f [] h = refl
  place_map p q f (x ∷ xs) h = by_test (true_or_false (q x)) (place_map p q f xs h)
    where
      by_test : (q x ≡ true) ⊎ (q x ≡ false) → position_or_len p (map f xs) ≡ position_or_len q xs → position_or_len p (f x ∷ map f xs) ≡ position_or_len q (x ∷ xs)
      by_test (inl e) again = rw (h x, e) refl
      by_test (inr e) again = rw (h x, e) (ap (λ n. 1 + n) again)

-- ---- items, layer by layer
module _ {X : Type 0} (items : ℕ → List X) (test : X → Bool) where
  abbrev row : ℕ → List (ℕ × X)
  row u = map (λ x. (u, x)) (items u)

  abbrev at : ℕ → ℕ × X → Bool
  at t p = eqb t p.0 && test p.1

  here : (t u : ℕ) → t ≡ u → (x : X) → (eqb t u && test x) ≡ test x
  here t u e x = rw (eq-eqb t u e) refl

  elsewhere : (t u : ℕ) → (t ≡ u → ⊥) → (p : ℕ × X) → Contains (row u) p → at t p ≡ false
  elsewhere t u n p h = by_item (in_map (λ x. let q : ℕ × X = (u, x) in q) (items u) p h)
    where
      by_test : (eqb t u ≡ true) ⊎ (eqb t u ≡ false) → (x : X) → (eqb t u && test x) ≡ false
      by_test (inl e) x = absurd (n (eqb-true t u e))
      by_test (inr e) x = rw e refl

      by_item : (x : X) × Contains (items u) x × ((let q : ℕ × X = (u, x) in q) ≡ p) → at t p ≡ false
      by_item (x, i, e) = subst (λ (q : ℕ × X). at t q ≡ false) e (by_test (true_or_false (eqb t u)) x)

  numbered : (a n m t : ℕ) → t ≡ a + m → m < n → position_or_len test (items t) < length (items t)
      → position_or_len (at t) (flat_map row (range_with_len a n)) ≡ sum_by (λ u. length (items u)) (range_with_len a m) + position_or_len test (items t)
  numbered a zero m t e l h = absurd (omega arith)
  numbered a (suc n) zero t e l h = omega (arith, front)
    where
      same : t ≡ a
      same = omega arith

      mapped : position_or_len (at t) (row t) ≡ position_or_len test (items t)
      mapped = place_map (at t) test (λ x. let q : ℕ × X = (t, x) in q) (items t) (λ x. here t t refl x)

      short : position_or_len (at t) (row t) < length (row t)
      short = let k = length-map (items t) (λ x. let q : ℕ × X = (t, x) in q) in omega (arith, mapped, h, k)

      front : position_or_len (at t) (row a ++ flat_map row (range_with_len (a + 1) n)) ≡ position_or_len test (items t)
      front = subst (λ u. position_or_len (at t) (row u ++ flat_map row (range_with_len (a + 1) n)) ≡ position_or_len test (items t)) same (place_front (at t) (row t) (flat_map row (range_with_len (a + 1) n)) short ∙ mapped)
  numbered a (suc n) (suc m) t e l h =
      let again = numbered (a + 1) n m t (omega arith) (omega arith) h in
      let before = place_back (at t) (row a) (flat_map row (range_with_len (a + 1) n)) (elsewhere t a (λ i. omega (arith, e, i))) in
      let long = length-map (items a) (λ x. let q : ℕ × X = (a, x) in q) in
      omega (arith, again, before, long, sum_by-cons (λ u. length (items u)) a (range_with_len (a + 1) m))

module _ (F : Frame) (live : Live) (k t : ℕ) where
  pub there_number : (e : Edge) → t ≤ k → Contains F.segments e → live t e ≡ true
      → live_there F live k t e ≡ sum_by (λ u. length (filter (live u) F.segments)) (range_with_len 0 t) + position_or_len (is_edge e) (filter (live t) F.segments) + 1
  there_number e l h i = ap (λ n. n + 1) (numbered (λ u. filter (live u) F.segments) (is_edge e) 0 (k + 1) t t (omega arith) (omega arith) (edge_place (filter (live t) F.segments) e (0, 0) (filtered (live t) F.segments e h i)).0)

  pub made_number : (g : Pair) → t < k → Contains F.flips g → is_live_flip F live t g ≡ true
      → live_made F live k t g ≡ length (live_places F live k) + sum_by (λ u. length (filter (is_live_flip F live u) F.flips)) (range_with_len 0 t) + position_or_len (is_pair g) (filter (is_live_flip F live t) F.flips) + 1
  made_number g l h i =
      let e = numbered (λ u. filter (is_live_flip F live u) F.flips) (is_pair g) 0 k t t (omega arith) (omega arith) (pair_place (filter (is_live_flip F live t) F.flips) g ((0, 0), (0, 0)) (filtered (is_live_flip F live t) F.flips g h i)).0 in
      omega (arith, e)

-- ---- the middle
sum_joined : (f : ℕ → ℕ) (a m n : ℕ) → sum_by f (range_with_len a (m + n)) ≡ sum_by f (range_with_len a m) + sum_by f (range_with_len (a + m) n)
sum_joined f a zero n =
    let moved = ap (λ b. sum_by f (range_with_len b n)) none in
    let long = ap (λ l. sum_by f (range_with_len a l)) rest in
    omega (arith, moved, long)
  where
    none : a ≡ a + 0
    none = omega arith

    rest : 0 + n ≡ n
    rest = omega arith
sum_joined f a (suc m) n =
    let again = sum_joined f (a + 1) m n in
    let moved = ap (λ b. sum_by f (range_with_len b n)) next in
    let long = ap (λ l. sum_by f (range_with_len a l)) rest in
    omega (arith, again, moved, long, sum_by-cons f a (range_with_len (a + 1) m), sum_by-cons f a (range_with_len (a + 1) (m + n)))
  where
    next : a + 1 + m ≡ a + suc m
    next = omega arith

    rest : suc m + n ≡ suc (m + n)
    rest = omega arith

sum_same : (f : ℕ → ℕ) (c a n : ℕ) → ((t : ℕ) → a ≤ t → t < a + n → f t ≡ c) → sum_by f (range_with_len a n) ≡ n * c
sum_same f c a zero h = omega arith
sum_same f c a (suc n) h = let again = sum_same f c (a + 1) n (λ t l m. h t (omega arith) (omega arith)) in let first = h a (omega arith) (omega arith) in omega (arith, again, first, sum_by-cons f a (range_with_len (a + 1) n))

sum_middle : (f : ℕ → ℕ) (c m j n : ℕ) → ((t : ℕ) → m ≤ t → t < m + j → f t ≡ c) → sum_by f (range_with_len 0 (m + j + n)) ≡ sum_by f (range_with_len 0 m) + j * c + sum_by f (range_with_len (m + j) n)
sum_middle f c m j n h =
    let whole = sum_joined f 0 (m + j) n in
    let front = sum_joined f 0 m j in
    let same = sum_same f c m j h in
    let late = ap (λ b. sum_by f (range_with_len b n)) (none (m + j)) in
    let middle = ap (λ b. sum_by f (range_with_len b j)) (none m) in
    omega (arith, whole, front, same, late, middle)
  where
    none : (b : ℕ) → 0 + b ≡ b
    none b = omega arith

module _ (points : List Point) (P : ArePlaced points) (F : Frame) (I : IsFrame points F) (live : Live) (k m j n : ℕ) (s : k ≡ m + j + n) (all : (t : ℕ) (e : Edge) → m ≤ t → t ≤ m + j → Contains F.segments e → live t e ≡ true) where
  pub middle_crossings : sum_by (λ t. length (live_crossing_clauses F live k t)) (range_with_len 0 (k + 1))
      ≡ sum_by (λ t. length (live_crossing_clauses F live k t)) (range_with_len 0 m) + (j + 1) * length F.crossings + sum_by (λ t. length (live_crossing_clauses F live k t)) (range_with_len (m + (j + 1)) n)
  middle_crossings =
      ap (λ l. sum_by (λ t. length (live_crossing_clauses F live k t)) (range_with_len 0 l)) long
      ∙ sum_middle (λ t. length (live_crossing_clauses F live k t)) (length F.crossings) m (j + 1) n (λ t l h. full_crossings points P F I live k t (λ e i. all t e l (omega arith) i))
    where
      long : k + 1 ≡ m + (j + 1) + n
      long = omega arith

  pub middle_flips : sum_by (λ t. length (live_flip_clauses F live k t)) (range_with_len 0 k)
      ≡ sum_by (λ t. length (live_flip_clauses F live k t)) (range_with_len 0 m) + j * (length F.flips * 12) + sum_by (λ t. length (live_flip_clauses F live k t)) (range_with_len (m + j) n)
  middle_flips =
      ap (λ l. sum_by (λ t. length (live_flip_clauses F live k t)) (range_with_len 0 l)) s
      ∙ sum_middle (λ t. length (live_flip_clauses F live k t)) (length F.flips * 12) m j n (λ t l h. full_flips points P F I live k t (λ e i. all t e l (omega arith) i) (λ e i. all (t + 1) e (omega arith) (omega arith) i))

  pub middle_changes : sum_by (λ t. length (live_change_clauses F live k t)) (range_with_len 0 k)
      ≡ sum_by (λ t. length (live_change_clauses F live k t)) (range_with_len 0 m) + j * (length F.segments * 2) + sum_by (λ t. length (live_change_clauses F live k t)) (range_with_len (m + j) n)
  middle_changes =
      ap (λ l. sum_by (λ t. length (live_change_clauses F live k t)) (range_with_len 0 l)) s
      ∙ sum_middle (λ t. length (live_change_clauses F live k t)) (length F.segments * 2) m j n (λ t l h. full_changes points P F I live k t (λ e i. all t e l (omega arith) i) (λ e i. all (t + 1) e (omega arith) (omega arith) i))

-- few digits make a place live
pub few_digits : (points : List Point) (A B : List Edge) (k m n t : ℕ) (e : Edge) → digits (crossings points A e) ≤ m → digits (crossings points B e) ≤ n → m ≤ t → t + n ≤ k → live_between points A B k t e ≡ true
few_digits points A B k m n t e a b l h = and (leb (digits (crossings points A e)) t) (leb (digits (crossings points B e) + t) k) (le-leb _ _ (omega arith)) (le-leb _ _ (omega arith))
