-- How many clauses a layer and a round of a pruned formula have, and sums over layers.
use Rattle.std.proofs.Common.{◌≡◌, ◌⊎◌, inl, inr, ℕ, zero, suc, ◌+◌, ◌*◌, ◌<◌, ◌≤◌, Bool, true, false, cond, ◌&&◌, List, [], ◌∷◌, ◌++◌, length, map, take, get_or, Contains, refl, sym, ap, ap₂, ◌∙◌, arith, length-append}
use Rattle.std.specs.List.{filter, flat_map, list_all, sum_by, range_with_len}
use Rattle.std.proofs.Math.Nat.{mul-le-mul_right}
use mir.Val.{bool_byte}
use Rattle.std.proofs.lemmas.List.{length-map}
use Rattle.std.proofs.lemmas.List.Concat.{length-flat_map}
use Rattle.std.proofs.lemmas.List.Sums.{sum_by-cons, sum_by_more}
use Rattle.std.proofs.lemmas.List.Filters.{length-filter_more}
use Rattle.geo_orient.specs.declared.Point.{Point}
use Rattle.tri_theory.specs.Points.{ArePlaced}
use Rattle.edge_table.specs.declared.edge.Edge.{Edge}
use Rattle.log_law.specs.declared.Lit.{Lit}
use Rattle.log_law.specs.Clauses.{Clause}
use Rattle.tri_theory.specs.Triangulations.{IsTriangulation}
use Rattle.crossing_law.proofs.Fewness.{few_edges, ends_are_points}
use Rattle.formula_law.specs.Frames.{Pair, Frame, IsFrame}
use Rattle.formula_law.specs.Formula.{literal, sides}
use Rattle.formula_law.specs.PrunedFormula.{Live, is_live_flip, live_made, if_live, live_demands, live_crossing_clauses, live_flip_clauses, live_leave_clause, live_come_clause, live_change_clauses}
use Rattle.formula_law.specs.PrunedLaws.{HasMiddle}
use Rattle.formula_law.proofs.Proved.{middle_layers_are_alike, few_digits_are_live}
use Rattle.formula_law.proofs.Clauses.{both, true_or_false, true_each, in_first, in_later}
use Rattle.formula_law.proofs.FormulaCounts.{length_each, four_sides}
use Rattle.pruned_cnf.specs.Queries.{Query, IsQuery, IsMostDigits, live_in, is_live_flip_in}
use Rattle.formula_parts.specs.Lists.{no_edge, edge_at}
use Rattle.formula_parts.specs.Building.{no_pair}
use Rattle.pruned_cnf.specs.Sizes.{size_of_flip, size_of_change}

-- ---- sums
pub sum_next : (f : ℕ → ℕ) (a n : ℕ) → sum_by f (range_with_len a (n + 1)) ≡ sum_by f (range_with_len a n) + f (a + n)
sum_next f a zero = let none : a + 0 ≡ a = omega arith in let last = ap f none in omega (arith, last, sum_by-cons f a [])
sum_next f a (suc n) =
    let again = sum_next f (a + 1) n in
    let last = ap f next in
    let long = ap (λ l. sum_by f (range_with_len (a + 1) l)) one_more in
    let longer = ap (λ l. sum_by f (range_with_len a l)) two_more in
    omega (arith, again, last, long, longer, sum_by-cons f a (range_with_len (a + 1) n), sum_by-cons f a (range_with_len (a + 1) (suc n)))
  where
    next : a + 1 + n ≡ a + suc n
    next = omega arith

    one_more : n + 1 ≡ suc n
    one_more = omega arith

    two_more : suc n + 1 ≡ suc (suc n)
    two_more = omega arith

pub sum_same_terms : {X : Type 0} (f g : X → ℕ) (xs : List X) → ((x : X) → Contains xs x → f x ≡ g x) → sum_by f xs ≡ sum_by g xs
sum_same_terms f g [] h = refl
sum_same_terms f g (x ∷ xs) h =
    let again = sum_same_terms f g xs (λ y i. h y (in_later y x xs i)) in
    let first = h x (in_first x xs) in
    omega (arith, again, first, sum_by-cons f x xs, sum_by-cons g x xs)

-- what the elements that pass give
length_passing : {X Y : Type 0} (f : X → List Y) (p : X → Bool) (xs : List X) → length (flat_map f (filter p xs)) ≡ sum_by (λ x. cond (p x) (length (f x)) 0) xs
length_passing f p [] = refl
length_passing {X} {Y} f p (x ∷ xs) = by_test (p x) refl (length_passing f p xs)
  where
    by_test : (b : Bool) → p x ≡ b → length (flat_map f (filter p xs)) ≡ sum_by (λ x. cond (p x) (length (f x)) 0) xs → length (flat_map f (filter p (x ∷ xs))) ≡ sum_by (λ x. cond (p x) (length (f x)) 0) (x ∷ xs)
    by_test true e again =
        let first : cond (p x) (length (f x)) 0 ≡ length (f x) = rw e refl in
        let l : length (flat_map f (filter p (x ∷ xs))) ≡ length (f x) + length (flat_map f (filter p xs)) = rw e (length-append (f x) (flat_map f (filter p xs))) in
        omega (arith, again, first, l, sum_by-cons (λ x. cond (p x) (length (f x)) 0) x xs)
    by_test false e again =
        let first : cond (p x) (length (f x)) 0 ≡ 0 = rw e refl in
        let l : length (flat_map f (filter p (x ∷ xs))) ≡ length (flat_map f (filter p xs)) = rw e refl in
        omega (arith, again, first, l, sum_by-cons (λ x. cond (p x) (length (f x)) 0) x xs)

module _ (F : Frame) (live : Live) (k t : ℕ) where
  -- ---- a layer has a clause for each pair that is live
  pub crossing_size : length (live_crossing_clauses F live k t) ≡ length (filter (λ g. live t g.0 && live t g.1) F.crossings)
  crossing_size = length-map (filter (λ g. live t g.0 && live t g.1) F.crossings) (λ g. if_live F live k t g.0 false ++ if_live F live k t g.1 false)

  one_if : (u : ℕ) (e : Edge) (b : Bool) → length (if_live F live k u e b) ≡ cond (live u e) 1 0
  one_if u e b = by_test (live u e) refl
    where
      by_test : (l : Bool) → live u e ≡ l → length (if_live F live k u e b) ≡ cond (live u e) 1 0
      by_test true e = rw e refl
      by_test false e = rw e refl

  -- ---- a round has one or two for each segment that is live before or after it
  pub change_size : length (live_change_clauses F live k t) ≡ sum_by (λ e. cond (live t e) 1 0 + cond (live (t + 1) e) 1 0) F.segments
  change_size =
      length-flat_map (λ e. cond (live t e) (live_leave_clause F live k t e ∷ []) [] ++ cond (live (t + 1) e) (live_come_clause F live k t e ∷ []) []) F.segments
      ∙ sum_same_terms (λ e. length (cond (live t e) (live_leave_clause F live k t e ∷ []) [] ++ cond (live (t + 1) e) (live_come_clause F live k t e ∷ []) [])) (λ e. cond (live t e) 1 0 + cond (live (t + 1) e) 1 0) F.segments (λ e i. two (live t e) (live (t + 1) e) (live_leave_clause F live k t e) (live_come_clause F live k t e))
    where
      two : (a b : Bool) (c d : Clause) → length (cond a (c ∷ []) [] ++ cond b (d ∷ []) []) ≡ cond a 1 0 + cond b 1 0
      two true true c d = refl
      two true false c d = refl
      two false true c d = refl
      two false false c d = refl

  -- ---- and ten to twelve for each live flip
  abbrev pub flip_size : Pair → ℕ
  flip_size g = cond (is_live_flip F live t g) (10 + cond (live (t + 1) g.0) 1 0 + cond (live t g.1) 1 0) 0

  abbrev asked : Pair → List Clause
  asked g = map (λ l. let d : Clause = literal (live_made F live k t g) false ∷ l ∷ [] in d) (live_demands F live k t g)

  module _ (points : List Point) (P : ArePlaced points) (I : IsFrame points F) where
    said : (g : Pair) → is_live_flip F live t g ≡ true → (live t g.0 ≡ true) × (live (t + 1) g.1 ≡ true) × (list_all (λ s. live t s && live (t + 1) s) (sides F g) ≡ true)
    said g h =
        let r = both _ _ h in
        let q = both _ _ r.0 in
        (q.0, q.1, r.1)

    eight : (g : Pair) → Contains F.flips g → list_all (λ s. live t s && live (t + 1) s) (sides F g) ≡ true → length (flat_map (λ s. if_live F live k t s true ++ if_live F live k (t + 1) s true) (sides F g)) ≡ 8
    eight g h all =
        length_each (λ s. if_live F live k t s true ++ if_live F live k (t + 1) s true) 2 (sides F g) (λ s i. two s (both (live t s) (live (t + 1) s) (true_each (λ s. live t s && live (t + 1) s) (sides F g) all s i)))
        ∙ ap (λ n. n * 2) (four_sides points P F I g h)
      where
        two : (s : Edge) → (live t s ≡ true) × (live (t + 1) s ≡ true) → length (if_live F live k t s true ++ if_live F live k (t + 1) s true) ≡ 2
        two s (a, b) = rw (a, b) refl

    demanded : (g : Pair) → Contains F.flips g → is_live_flip F live t g ≡ true → length (live_demands F live k t g) ≡ 10 + cond (live (t + 1) g.0) 1 0 + cond (live t g.1) 1 0
    demanded g h i =
        let r = said g i in
        let a : length g1 ≡ 1 = one_if t g.0 true ∙ ap (λ b. cond b 1 0) r.0 in
        let d : length g4 ≡ 1 = one_if (t + 1) g.1 true ∙ ap (λ b. cond b 1 0) r.1 in
        omega (arith, a, d, one_if (t + 1) g.0 false, one_if t g.1 false, eight g h r.2, length-append (g1 ++ g2 ++ g3 ++ g4) (flat_map (λ s. if_live F live k t s true ++ if_live F live k (t + 1) s true) (sides F g)), length-append (g1 ++ g2 ++ g3) g4, length-append (g1 ++ g2) g3, length-append g1 g2)
      where
        g1 : List Lit
        g1 = if_live F live k t g.0 true

        g2 : List Lit
        g2 = if_live F live k (t + 1) g.0 false

        g3 : List Lit
        g3 = if_live F live k t g.1 false

        g4 : List Lit
        g4 = if_live F live k (t + 1) g.1 true

    pub flips_size : length (live_flip_clauses F live k t) ≡ sum_by flip_size F.flips
    flips_size =
        length_passing asked (is_live_flip F live t) F.flips
        ∙ sum_same_terms (λ g. cond (is_live_flip F live t g) (length (asked g)) 0) flip_size F.flips (λ g i. by_test g i (true_or_false (is_live_flip F live t g)))
      where
        by_test : (g : Pair) → Contains F.flips g → (is_live_flip F live t g ≡ true) ⊎ (is_live_flip F live t g ≡ false) → cond (is_live_flip F live t g) (length (asked g)) 0 ≡ flip_size g
        by_test g i (inl e) = ap (λ n. cond (is_live_flip F live t g) n 0) (length-map (live_demands F live k t g) (λ l. let d : Clause = literal (live_made F live k t g) false ∷ l ∷ [] in d) ∙ demanded g i e)
        by_test g i (inr e) = ap (λ b. cond b (length (asked g)) 0) e ∙ sym (ap (λ b. cond b (10 + cond (live (t + 1) g.0) 1 0 + cond (live t g.1) 1 0) 0) e)

-- ---- the layers of a query
pub edges_few : (points : List Point) (edges : List Edge) → length points ≤ 64 → IsTriangulation points edges → length edges ≤ 4096
edges_few points edges l N =
    let few = few_edges (length points) edges N.ascending (λ e i. ends_are_points points edges N e i) in
    let squared = mul-le-mul_right {m = length points} {n = 64} (length points) l in
    omega (arith, few, squared, l)

pub has_middle : (q : Query) (m j n : ℕ) → IsQuery q → IsMostDigits q q.from m → IsMostDigits q q.to n → q.rounds ≡ m + j + n → HasMiddle q.frame (live_in q) q.rounds m j n
has_middle q m j n I a b e = middle_layers_are_alike q.points q.frame (live_in q) q.rounds m j n I.placed I.frame e (λ t s l h i. few_digits_are_live q.points q.from q.to q.rounds m n t s (a s i) (b s i) l (omega (arith, h, e)))

-- ---- counting on, and the middle as the code multiplies it out
pub byte_is : (b : Bool) → bool_byte b ≡ cond b 1 0
byte_is true = refl
byte_is false = refl

one_at_most : (b : Bool) → cond b 1 0 ≤ 1
one_at_most true = omega arith
one_at_most false = omega arith

pub counted_on : (p : Pair → Bool) (gs : List Pair) (m count byte : ℕ) (b : Bool) → m < length gs → byte ≡ bool_byte b → b ≡ p (get_or gs m no_pair) → (count ≡ length (filter p (take m gs))) × (count ≤ m)
    → (count + byte ≡ length (filter p (take (m + 1) gs))) × (count + byte ≤ m + 1)
counted_on p gs m count byte b l e f (c, w) =
    let x = e ∙ byte_is b ∙ ap (λ b. let n : ℕ = cond b 1 0 in n) f in
    let y = length-filter_more p gs m no_pair l in
    let z = one_at_most (p (get_or gs m no_pair)) in
    (omega (arith, x, y, c), omega (arith, x, z, w))

pub changes_on : (q : Query) (t n count first second : ℕ) (a b : Bool) → n < length q.frame.segments → first ≡ bool_byte a → second ≡ bool_byte b → a ≡ live_in q t (edge_at q.frame.segments n) → b ≡ live_in q (t + 1) (edge_at q.frame.segments n)
    → (count ≡ sum_by (size_of_change q t) (take n q.frame.segments)) × (count ≤ n * 2)
    → (count + (first + second) ≡ sum_by (size_of_change q t) (take (n + 1) q.frame.segments)) × (count + (first + second) ≤ (n + 1) * 2)
changes_on q t n count first second a b l e f g h (c, w) =
    let x : first ≡ cond (live_in q t (edge_at q.frame.segments n)) 1 0 = e ∙ byte_is a ∙ ap (λ b. let n : ℕ = cond b 1 0 in n) g in
    let y : second ≡ cond (live_in q (t + 1) (edge_at q.frame.segments n)) 1 0 = f ∙ byte_is b ∙ ap (λ b. let n : ℕ = cond b 1 0 in n) h in
    let u = one_at_most (live_in q t (edge_at q.frame.segments n)) in
    let v = one_at_most (live_in q (t + 1) (edge_at q.frame.segments n)) in
    let z = sum_by_more (size_of_change q t) q.frame.segments n no_edge l in
    (omega (arith, x, y, z, c), omega (arith, x, y, u, v, w))

pub flip_sized : (q : Query) (t first second : ℕ) (a b : Bool) (g : Pair) → is_live_flip_in q t g ≡ true → first ≡ bool_byte a → second ≡ bool_byte b → a ≡ live_in q (t + 1) g.0 → b ≡ live_in q t g.1 → 10 + first + second ≡ size_of_flip q t g
flip_sized q t first second a b g i e f h k =
    let x : first ≡ cond (live_in q (t + 1) g.0) 1 0 = e ∙ byte_is a ∙ ap (λ b. let n : ℕ = cond b 1 0 in n) h in
    let y : second ≡ cond (live_in q t g.1) 1 0 = f ∙ byte_is b ∙ ap (λ b. let n : ℕ = cond b 1 0 in n) k in
    let z : size_of_flip q t g ≡ 10 + cond (live_in q (t + 1) g.0) 1 0 + cond (live_in q t g.1) 1 0 = ap (λ b. cond b (10 + cond (live_in q (t + 1) g.0) 1 0 + cond (live_in q t g.1) 1 0) 0) i in
    omega (arith, x, y, z)

pub two_products : {i j f g s t : ℕ} → i ≡ j → f ≡ g → s ≡ t → i * (12 * f + 2 * s) ≡ j * (g * 12) + j * (t * 2)
two_products {i} {j} {f} {g} {s} {t} a b c =
    ap₂ ◌*◌ a (ap₂ (λ x y. 12 * x + 2 * y) b c) ∙ opened j g t
  where
    opened : (j g t : ℕ) → j * (12 * g + 2 * t) ≡ j * (g * 12) + j * (t * 2)
    opened j g t = omega arith
