-- Numbers that go up at each live place, layer by layer, and at each live flip, round by round.
use Rattle.std.proofs.Common.{◌≡◌, ◌⊎◌, inl, inr, ℕ, ◌+◌, ◌*◌, ◌<◌, ◌≤◌, Bool, true, false, cond, List, [], ◌∷◌, ◌++◌, length, get_or, take, drop, map, Some, None, refl, sym, ap, ap₂, ◌∙◌, subst, arith, append_assoc, length-append}
use Rattle.std.specs.List.{AllPairs, filter, flat_map, sum_by, position_or_len, range_with_len}
use Rattle.std.proofs.lemmas.Nat.{mul-le, mul-add-lt}
use Rattle.std.proofs.lemmas.List.{append-nil, take-append-drop, take_all, drop_more, map_more, get_or_at, map-id, length-map}
use Rattle.std.proofs.lemmas.List.Concat.{get_or-flat_map}
use Rattle.std.proofs.lemmas.List.Elements.{Contains-get_or, filter-append}
use Rattle.std.proofs.lemmas.List.Filters.{length-filter_more}
use Rattle.std.proofs.lemmas.List.FromFn.{length-range_with_len, get_or-range_with_len, map-range_with_len_more, take-map-range_with_len}
use Rattle.std.proofs.lemmas.List.Kept.{AllPairs-filter}
use Rattle.std.proofs.lemmas.List.Sums.{sum_by-cons, sum_by_push, sum_by-take-le, sum_by-le}
use Rattle.std.proofs.lemmas.Grind.{flat_map-append}
use Rattle.geo_orient.specs.declared.Point.{Point}
use Rattle.edge_table.specs.Edges.{is_edge, IsBefore}
use Rattle.edge_table.proofs.Ascending.{not_before_itself}
use Rattle.formula_law.specs.Frames.{Frame, IsFrame, IsPairBefore}
use Rattle.formula_law.specs.Formula.{is_pair}
use Rattle.formula_law.specs.PrunedFormula.{Live, is_live_flip, live_places, live_flips, live_there, live_made, live_variable_count}
use Rattle.formula_law.proofs.Clauses.{true_or_false, filtered}
use Rattle.formula_law.proofs.EdgeTests.{edge_place, pair_place}
use Rattle.formula_law.proofs.FormulaCounts.{length_each}
use Rattle.formula_law.proofs.PrunedNumbers.{there_number, made_number}
use Rattle.formula_parts.specs.Building.{no_pair, pair_at}
use Rattle.formula_parts.specs.Lists.{no_edge, edge_at}
use Rattle.formula_parts.proofs.Places.{one_place, pair_strict}

-- ---- an element that is kept, among those kept
module _ {X : Type 0} (p : X → Bool) (xs : List X) (n : ℕ) (d : X) (l : n < length xs) (e : p (get_or xs n d) ≡ true) where
  around : filter p xs ≡ filter p (take n xs) ++ get_or xs n d ∷ filter p (drop (n + 1) xs)
  around =
      ap (filter p) (sym (take-append-drop n xs)) ∙ filter-append p (take n xs) (drop n xs)
      ∙ ap (λ ys. filter p (take n xs) ++ filter p ys) (drop_more xs n d l) ∙ ap (λ ys. filter p (take n xs) ++ ys) (first (get_or xs n d) (drop (n + 1) xs) e)
    where
      first : (x : X) (ys : List X) → p x ≡ true → filter p (x ∷ ys) ≡ x ∷ filter p ys
      first x ys f = rw f refl

  kept_at : get_or (filter p xs) (length (filter p (take n xs))) d ≡ get_or xs n d
  kept_at = ap (λ ys. get_or ys (length (filter p (take n xs))) d) around ∙ get_or_at (filter p (take n xs)) (get_or xs n d) (filter p (drop (n + 1) xs)) d (length (filter p (take n xs))) refl

  kept_within : length (filter p (take n xs)) < length (filter p xs)
  kept_within = omega (arith, ap length around, length-append (filter p (take n xs)) (get_or xs n d ∷ filter p (drop (n + 1) xs)))

  pub kept_place : (R : X → X → Type 0) → ((x : X) → ¬ R x x) → AllPairs R xs → (m : ℕ) → (m < length (filter p xs)) × (get_or (filter p xs) m d ≡ get_or xs n d) → m ≡ length (filter p (take n xs))
  kept_place R strict up m (h, i) = one_place R strict (filter p xs) (AllPairs-filter R p xs up) m (length (filter p (take n xs))) d h kept_within (i ∙ sym kept_at)

pub kept_front : {X : Type 0} (p : X → Bool) (xs : List X) (n : ℕ) → length (filter p (take n xs)) ≤ length (filter p xs)
kept_front p xs n =
    let a = ap (λ ys. length (filter p ys)) (take-append-drop n xs) in
    let b = ap length (filter-append p (take n xs) (drop n xs)) in
    omega (arith, a, b, length-append (filter p (take n xs)) (filter p (drop n xs)))

pub kept_few : {X : Type 0} (p : X → Bool) (xs : List X) → length (filter p xs) ≤ length xs
kept_few p [] = omega arith
kept_few p (x ∷ xs) = by_test (true_or_false (p x)) (kept_few p xs)
  where
    by_test : (p x ≡ true) ⊎ (p x ≡ false) → length (filter p xs) ≤ length xs → length (filter p (x ∷ xs)) ≤ length (x ∷ xs)
    by_test (inl e) again = rw e (omega arith)
    by_test (inr e) again = rw e (omega arith)

-- ---- rows in the order of their numbers
range_more : (t : ℕ) → range_with_len 0 (t + 1) ≡ range_with_len 0 t ++ t ∷ []
range_more t = sym (map-id (range_with_len 0 (t + 1))) ∙ map-range_with_len_more (λ n. n) 0 t t (omega arith) ∙ ap (λ ts. ts ++ t ∷ []) (map-id (range_with_len 0 t))

range_front : (t k : ℕ) → t ≤ k → take t (range_with_len 0 k) ≡ range_with_len 0 t
range_front t k h = ap (take t) (sym (map-id (range_with_len 0 k))) ∙ take-map-range_with_len (λ n. n) 0 k t h ∙ map-id (range_with_len 0 t)

pub sum_more : (f : ℕ → ℕ) (t : ℕ) → sum_by f (range_with_len 0 (t + 1)) ≡ sum_by f (range_with_len 0 t) + f t
sum_more f t = ap (sum_by f) (range_more t) ∙ sum_by_push f (range_with_len 0 t) t

pub sum_front : (f : ℕ → ℕ) (t k : ℕ) → t ≤ k → sum_by f (range_with_len 0 t) ≤ sum_by f (range_with_len 0 k)
sum_front f t k h = subst (λ ts. sum_by f ts ≤ sum_by f (range_with_len 0 k)) (range_front t k h) (sum_by-take-le f (range_with_len 0 k) t)

pub sum_few : (f : ℕ → ℕ) (m k : ℕ) → ((t : ℕ) → f t ≤ m) → sum_by f (range_with_len 0 k) ≤ k * m
sum_few f m k h = subst (λ n. sum_by f (range_with_len 0 k) ≤ n * m) (length-range_with_len 0 k) (sum_by-le f m (range_with_len 0 k) (λ i d l. h (get_or (range_with_len 0 k) i d)))

pub rows_more : {Y : Type 0} (f : ℕ → List Y) (t : ℕ) → flat_map f (range_with_len 0 (t + 1)) ≡ flat_map f (range_with_len 0 t) ++ f t
rows_more f t = ap (flat_map f) (range_more t) ∙ flat_map-append f (range_with_len 0 t) (t ∷ []) ∙ ap (λ ys. flat_map f (range_with_len 0 t) ++ ys) (append-nil (f t))

pub row_count : {X : Type 0} (items : ℕ → List X) (ts : List ℕ) → length (flat_map (λ t. map (λ x. let p : ℕ × X = (t, x) in p) (items t)) ts) ≡ sum_by (λ t. length (items t)) ts
row_count items [] = refl
row_count {X} items (t ∷ ts) =
    let row : List (ℕ × X) = map (λ x. let p : ℕ × X = (t, x) in p) (items t) in
    let rest : List (ℕ × X) = flat_map (λ t. map (λ x. let p : ℕ × X = (t, x) in p) (items t)) ts in
    let again = row_count items ts in
    omega (arith, again, length-append row rest, length-map (items t) (λ x. let p : ℕ × X = (t, x) in p), sum_by-cons (λ t. length (items t)) t ts)

-- rows of one length, read at a place
module _ {Y : Type 0} (f : ℕ → List Y) (w : ℕ) (same : (t : ℕ) → length (f t) ≡ w) where
  pub rows_long : (m : ℕ) → length (flat_map f (range_with_len 0 m)) ≡ m * w
  rows_long m = length_each f w (range_with_len 0 m) (λ t i. same t) ∙ ap (λ n. n * w) (length-range_with_len 0 m)

  pub row_within : (m t n : ℕ) → t < m → n < w → t * w + n < length (flat_map f (range_with_len 0 m))
  row_within m t n h l = omega (arith, rows_long m, mul-add-lt t w n m h l)

  pub row_entry : (m t n : ℕ) (d : Y) → t < m → n < w → get_or (flat_map f (range_with_len 0 m)) (t * w + n) d ≡ get_or (f t) n d
  row_entry m t n d h l =
      ap (λ i. get_or (flat_map f (range_with_len 0 m)) (i + n) d) (sym before)
      ∙ get_or-flat_map f (range_with_len 0 m) t n 0 d (omega (arith, length-range_with_len 0 m)) (omega (arith, same (get_or (range_with_len 0 m) t 0)))
      ∙ ap (λ u. get_or (f u) n d) here
    where
      before : length (flat_map f (take t (range_with_len 0 m))) ≡ t * w
      before = ap (λ ts. length (flat_map f ts)) (range_front t m (omega arith)) ∙ rows_long t

      here : get_or (range_with_len 0 m) t 0 ≡ t
      here = get_or-range_with_len 0 m t 0 h ∙ (let e : 0 + t ≡ t = omega arith in e)

-- what a place or flip is given after others
pub given : (live test : Bool) (before last number : ℕ) → live ≡ test → last ≡ before → (test ≡ true → number ≡ before + 1) → cond live (Some (last + 1)) None ≡ cond test (Some number) None
given live test before last number e f h = by_test (true_or_false test)
  where
    by_test : (test ≡ true) ⊎ (test ≡ false) → cond live (Some (last + 1)) None ≡ cond test (Some number) None
    by_test (inl t) = let i : last + 1 ≡ number = omega (arith, h t) in rw (e, t) (ap Some i)
    by_test (inr t) = rw (e, t) refl

-- the number of one more
pub more_entries : {X Y : Type 0} (f : X → Y) (xs : List X) (n : ℕ) (d : X) (old now new : List Y) (y : Y) → n < length xs → now ≡ old ++ map f (take n xs) → new ≡ now ++ y ∷ [] → y ≡ f (get_or xs n d) → new ≡ old ++ map f (take (n + 1) xs)
more_entries f xs n d old now new y l u v e =
    v ∙ ap₂ (λ ys z. ys ++ z ∷ []) u e ∙ append_assoc old (map f (take n xs)) (f (get_or xs n d) ∷ []) ∙ ap (λ ys. old ++ ys) (sym (map_more f xs n d l))

-- and how many are kept by then
pub more_kept : {X : Type 0} (p : X → Bool) (xs : List X) (n : ℕ) (d : X) (before last new : ℕ) (b : Bool) → n < length xs → b ≡ p (get_or xs n d) → last ≡ before + length (filter p (take n xs)) → new ≡ last + cond b 1 0 → new ≡ before + length (filter p (take (n + 1) xs))
more_kept p xs n d before last new b l e u v = let c = ap {B = ℕ} (λ t. cond t 1 0) e in omega (arith, c, u, v, length-filter_more p xs n d l)

pub all_kept : {X : Type 0} (p : ℕ → X → Bool) (xs : List X) (n t before last : ℕ) → length xs ≤ n → last ≡ before + sum_by (λ u. length (filter (p u) xs)) (range_with_len 0 t) + length (filter (p t) (take n xs)) → last ≡ before + sum_by (λ u. length (filter (p u) xs)) (range_with_len 0 (t + 1))
all_kept p xs n t before last h u = let a = ap (λ ys. length (filter (p t) ys)) (take_all n xs h) in omega (arith, a, u, sum_more (λ u. length (filter (p u) xs)) t)

-- ---- the places and flips of a frame
module _ (F : Frame) (live : Live) (k : ℕ) where
  abbrev segments_at : ℕ → ℕ
  segments_at t = length (filter (live t) F.segments)

  abbrev flips_at : ℕ → ℕ
  flips_at t = length (filter (is_live_flip F live t) F.flips)

  pub places_sum : length (live_places F live k) ≡ sum_by segments_at (range_with_len 0 (k + 1))
  places_sum = row_count (λ t. filter (live t) F.segments) (range_with_len 0 (k + 1))

  pub flips_sum : length (live_flips F live k) ≡ sum_by flips_at (range_with_len 0 k)
  flips_sum = row_count (λ t. filter (is_live_flip F live t) F.flips) (range_with_len 0 k)

  pub place_few : (t n : ℕ) → t ≤ k → sum_by segments_at (range_with_len 0 t) + length (filter (live t) (take n F.segments)) ≤ live_variable_count F live k
  place_few t n h = omega (arith, kept_front (live t) F.segments n, sum_more segments_at t, sum_front segments_at (t + 1) (k + 1) (omega arith), places_sum)

  pub flip_few : (t n : ℕ) → t < k → length (live_places F live k) + sum_by flips_at (range_with_len 0 t) + length (filter (is_live_flip F live t) (take n F.flips)) ≤ live_variable_count F live k
  flip_few t n h = omega (arith, kept_front (is_live_flip F live t) F.flips n, sum_more flips_at t, sum_front flips_at (t + 1) k (omega arith), flips_sum)

  pub variables_within : (s f most : ℕ) → length (live_places F live k) ≤ s → length F.flips ≤ f → k ≤ most → live_variable_count F live k ≤ s + most * f
  variables_within s f most hs hf hk =
      let flips = sum_few flips_at (length F.flips) k (λ t. kept_few (is_live_flip F live t) F.flips) in
      omega (arith, flips, flips_sum, mul-le k (length F.flips) most f hk hf)

module _ (points : List Point) (F : Frame) (I : IsFrame points F) (live : Live) (k t n : ℕ) where
  pub next_place : t ≤ k → n < length F.segments → live t (edge_at F.segments n) ≡ true
      → live_there F live k t (edge_at F.segments n) ≡ sum_by (λ u. length (filter (live u) F.segments)) (range_with_len 0 t) + length (filter (live t) (take n F.segments)) + 1
  next_place h l e =
      let i = Contains-get_or F.segments n no_edge l in
      let p = edge_place (filter (live t) F.segments) (edge_at F.segments n) no_edge (filtered (live t) F.segments (edge_at F.segments n) i e) in
      there_number F live k t (edge_at F.segments n) h i e
      ∙ ap (λ m. sum_by (λ u. length (filter (live u) F.segments)) (range_with_len 0 t) + m + 1)
      (kept_place (live t) F.segments n no_edge l e IsBefore not_before_itself I.segments_ascend (position_or_len (is_edge (edge_at F.segments n)) (filter (live t) F.segments)) p)

  pub next_flip : t < k → n < length F.flips → is_live_flip F live t (pair_at F.flips n) ≡ true
      → live_made F live k t (pair_at F.flips n) ≡ length (live_places F live k) + sum_by (λ u. length (filter (is_live_flip F live u) F.flips)) (range_with_len 0 t) + length (filter (is_live_flip F live t) (take n F.flips)) + 1
  next_flip h l e =
      let i = Contains-get_or F.flips n no_pair l in
      let p = pair_place (filter (is_live_flip F live t) F.flips) (pair_at F.flips n) no_pair (filtered (is_live_flip F live t) F.flips (pair_at F.flips n) i e) in
      made_number F live k t (pair_at F.flips n) h i e
      ∙ ap (λ m. length (live_places F live k) + sum_by (λ u. length (filter (is_live_flip F live u) F.flips)) (range_with_len 0 t) + m + 1)
      (kept_place (is_live_flip F live t) F.flips n no_pair l e IsPairBefore pair_strict I.flips_ascend (position_or_len (is_pair (pair_at F.flips n)) (filter (is_live_flip F live t) F.flips)) p)
