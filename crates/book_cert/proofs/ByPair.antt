-- The rows of all pairs of inputs that are found in a book's rows.
use Rattle.std.proofs.Common.{◌≡◌, ◌∙◌, ℕ, ◌+◌, ◌-◌, ◌<◌, min, max, Bool, ◌&&◌, eqb, eqb-true, Option, Some, None, List, [], ◌∷◌, ◌++◌, map, flat_map, All, Contains, refl, sym, ap, ap₂, subst, arith}
use Rattle.std.specs.List.{range_with_len}
use Rattle.std.proofs.Math.Path.{fun_ext}
use Rattle.std.proofs.lemmas.Option.{same_Some}
use Rattle.formula_law.proofs.Clauses.{both, in_first, in_later, mapped, in_map, flat_mapped, in_flat_map, ranged, in_range}
use Rattle.log_law.proofs.Lists.{all_members, contains_here, contains_none, contains_one, contains_map}
use Rattle.pair_rows.specs.declared.row.Row as row
use Rattle.plan_law.specs.Books.{PairRow, row_of, lower_of}
use Rattle.plan_law.specs.Jobs.{pairs}
use Rattle.plan_law.proofs.Images.{find_passes, find_listed, find_none}
use Rattle.book_core.specs.Entries.{Shown, pair_row, shown_row}
use Rattle.book_cert.specs.Certificates.{if_some, rows_by_pair}

-- ---- the pairs of numbers
abbrev pub with_first : ℕ → ℕ → ℕ × ℕ
with_first i j = (i, j)

abbrev pub row_from : ℕ → ℕ → List (ℕ × ℕ)
row_from m i = map (with_first i) (range_with_len (i + 1) (m - (i + 1)))

pair_there : (m i j : ℕ) → i < j → j < m → Contains (pairs m) (with_first i j)
pair_there m i j l h =
    flat_mapped (row_from m) (range_with_len 0 m) i (with_first i j) (ranged 0 m i (omega arith) (omega (arith, l, h)))
    (mapped (with_first i) (range_with_len (i + 1) (m - (i + 1))) j (ranged (i + 1) (m - (i + 1)) j (omega (arith, l)) (omega (arith, l, h))))

pub in_row : (m i : ℕ) (p : ℕ × ℕ) → Contains (row_from m i) p → (p.0 ≡ i) × (i < p.1) × (p.1 < m)
in_row m i p h = by_last (in_map (with_first i) (range_with_len (i + 1) (m - (i + 1))) p h)
  where
    by_last : (j : ℕ) × Contains (range_with_len (i + 1) (m - (i + 1))) j × (with_first i j ≡ p) → (p.0 ≡ i) × (i < p.1) × (p.1 < m)
    by_last (j, c, e) =
        let r = in_range (i + 1) (m - (i + 1)) j c in
        let s : j ≡ p.1 = ap (λ (q : ℕ × ℕ). q.1) e in
        (sym (ap (λ (q : ℕ × ℕ). q.0) e), omega (arith, r.0, r.1, s), omega (arith, r.0, r.1, s))

pub in_pairs : (m : ℕ) (p : ℕ × ℕ) → Contains (pairs m) p → (p.0 < p.1) × (p.1 < m)
in_pairs m p h = by_first (in_flat_map (row_from m) (range_with_len 0 m) p h)
  where
    by_first : (i : ℕ) × Contains (range_with_len 0 m) i × Contains (row_from m i) p → (p.0 < p.1) × (p.1 < m)
    by_first (i, c, d) = let r = in_row m i p d in (omega (arith, r.0, r.1), r.2)

-- ---- rows that are found
abbrev names : ℕ → ℕ → PairRow Shown → Bool
names i j r = eqb r.low i && eqb r.high j

-- a row that is found is listed, and is of the two inputs
row_found : (rows : List (PairRow Shown)) (i j : ℕ) (r : PairRow Shown) → row_of rows i j ≡ Some r → Contains rows r × (r.low ≡ i) × (r.high ≡ j)
row_found rows i j r e =
    let t = both (eqb r.low i) (eqb r.high j) (find_passes (names i j) rows r e) in
    (find_listed (names i j) rows r e, eqb-true r.low i t.0, eqb-true r.high j t.1)

-- ---- the rows of some pairs
abbrev found_for : List (PairRow Shown) → ℕ × ℕ → List (PairRow Shown)
found_for rows pair = if_some (row_of rows pair.0 pair.1)

abbrev of_pairs : List (PairRow Shown) → List (ℕ × ℕ) → List (PairRow Shown)
of_pairs rows ps = flat_map (found_for rows) ps

in_if_some : (r : Option (PairRow Shown)) (x : PairRow Shown) → Contains (if_some r) x → r ≡ Some x
in_if_some None x h = absurd (contains_none x h)
in_if_some (Some y) x h = ap Some (sym (contains_one x y h))

there_if_some : (r : Option (PairRow Shown)) (x : PairRow Shown) → r ≡ Some x → Contains (if_some r) x
there_if_some None x e = absurd (cc)
there_if_some (Some y) x e = contains_here x y [] (same_Some y x e)

module _ (rows : List (PairRow Shown)) (ps : List (ℕ × ℕ)) where
  -- each is found for one of the pairs
  from_pairs : (x : PairRow Shown) → Contains (of_pairs rows ps) x → (p : ℕ × ℕ) × Contains ps p × (row_of rows p.0 p.1 ≡ Some x)
  from_pairs x h = let f = in_flat_map (found_for rows) ps x h in (f.0, f.1, in_if_some (row_of rows f.0.0 f.0.1) x f.2)

  -- so what is found among them is found among all
  found_among : (i j : ℕ) (x : PairRow Shown) → row_of (of_pairs rows ps) i j ≡ Some x → row_of rows i j ≡ Some x
  found_among i j x e =
      let f = row_found (of_pairs rows ps) i j x e in
      let p = from_pairs x f.0 in
      let g = row_found rows p.0.0 p.0.1 x p.2 in
      subst (λ (q : ℕ × ℕ). row_of rows q.0 q.1 ≡ Some x) (ap₂ with_first (sym g.1 ∙ f.1) (sym g.2 ∙ f.2)) p.2

  -- and what is found for one of the pairs is found among them
  found_there : (i j : ℕ) (x : PairRow Shown) → Contains ps (with_first i j) → row_of rows i j ≡ Some x → row_of (of_pairs rows ps) i j ≡ Some x
  found_there i j x c e = by_found (row_of (of_pairs rows ps) i j) refl
    where
      by_found : (r : Option (PairRow Shown)) → row_of (of_pairs rows ps) i j ≡ r → row_of (of_pairs rows ps) i j ≡ Some x
      by_found None n = absurd (find_none (names i j) (of_pairs rows ps) x n (flat_mapped (found_for rows) ps (with_first i j) x c (there_if_some (row_of rows i j) x e)) (find_passes (names i j) rows x e))
      by_found (Some y) n = n ∙ (sym (found_among i j y n) ∙ e)

-- where each pair has a row, the rows have these pairs
abbrev pair_of : PairRow Shown → ℕ × ℕ
pair_of r = (r.low, r.high)

abbrev HasRow : List (PairRow Shown) → ℕ × ℕ → Type 0
HasRow rows p = (x : PairRow Shown) × (row_of rows p.0 p.1 ≡ Some x)

each_pair : (rows : List (PairRow Shown)) (ps : List (ℕ × ℕ)) → ((p : ℕ × ℕ) → Contains ps p → HasRow rows p) → map pair_of (of_pairs rows ps) ≡ ps
each_pair rows [] h = refl
each_pair rows (p ∷ ps) h = by_row (h p (in_first p ps)) (each_pair rows ps (λ q c. h q (in_later q p ps c)))
  where
    by_row : HasRow rows p → map pair_of (of_pairs rows ps) ≡ ps → map pair_of (of_pairs rows (p ∷ ps)) ≡ p ∷ ps
    by_row (x, e) again =
        let f = row_found rows p.0 p.1 x e in
        ap (λ (r : Option (PairRow Shown)). map pair_of (if_some r ++ of_pairs rows ps)) e ∙ ap₂ ◌∷◌ (ap₂ with_first f.1 f.2) again

-- ---- the rows of all pairs
abbrev AreOrdered : ℕ → List (PairRow Shown) → Type 0
AreOrdered m rows = (x : PairRow Shown) → Contains rows x → (x.low < x.high) × (x.high < m)

-- where the rows are of pairs, the same one is found
same_row : (m : ℕ) (rows : List (PairRow Shown)) → AreOrdered m rows → (i j : ℕ) → row_of (rows_by_pair m rows) i j ≡ row_of rows i j
same_row m rows K i j = by_found (row_of (rows_by_pair m rows) i j) (row_of rows i j) refl refl
  where
    by_found : (a b : Option (PairRow Shown)) → row_of (rows_by_pair m rows) i j ≡ a → row_of rows i j ≡ b → row_of (rows_by_pair m rows) i j ≡ row_of rows i j
    by_found (Some x) b e f = e ∙ sym (found_among rows (pairs m) i j x e)
    by_found None None e f = e ∙ sym f
    by_found None (Some y) e f =
        let g = row_found rows i j y f in
        let o = K y g.0 in
        found_there rows (pairs m) i j y (pair_there m i j (omega (arith, g.1, g.2, o.0)) (omega (arith, g.2, o.1))) f ∙ sym f

pub same_lower : (m : ℕ) (rows : List (PairRow Shown)) → AreOrdered m rows → lower_of (rows_by_pair m rows) ≡ lower_of rows
same_lower m rows K = fun_ext (λ i. fun_ext (λ j. ap (λ (r : Option (PairRow Shown)). elim r as (λ _. ℕ) [ Some x ↦ x.lower | None ↦ 0 ]) (same_row m rows K (min i j) (max i j))))

-- ---- the rows of a certificate, which are those of all pairs
mapped_pairs : (rs : List row.Row) → map (λ (r : row.Row). (r.i, r.j)) rs ≡ map pair_of (map pair_row rs)
mapped_pairs [] = refl
mapped_pairs (r ∷ rs) = ap (λ (l : List (ℕ × ℕ)). with_first r.i r.j ∷ l) (mapped_pairs rs)

module _ (m : ℕ) (rows : List (PairRow Shown)) (rs : List row.Row) (is : map pair_row rs ≡ rows_by_pair m rows) where
  pub rows_in_order : ((p : ℕ × ℕ) → Contains (pairs m) p → HasRow rows p) → map (λ (r : row.Row). (r.i, r.j)) rs ≡ pairs m
  rows_in_order h = mapped_pairs rs ∙ (ap (map pair_of) is ∙ each_pair rows (pairs m) h)

  -- each is found for one of the pairs
  row_of_pair : (r : row.Row) → Contains rs r → (p : ℕ × ℕ) × Contains (pairs m) p × (row_of rows p.0 p.1 ≡ Some (pair_row r))
  row_of_pair r h = from_pairs rows (pairs m) (pair_row r) (subst (λ (l : List (PairRow Shown)). Contains l (pair_row r)) is (contains_map pair_row rs r h))

  -- so it is listed
  pub row_listed : (r : row.Row) → Contains rs r → Contains rows (pair_row r)
  row_listed r h = let p = row_of_pair r h in (row_found rows p.0.0 p.0.1 (pair_row r) p.2).0

  -- and what holds of a row that is found for a pair holds of it
  pub rows_have : (P : row.Row → Type 0) → ((i j : ℕ) → i < j → j < m → (found : row.Row) × (row_of rows i j ≡ Some (pair_row found)) × P found) → All P rs
  rows_have P h = all_members P rs each
    where
      each : (r : row.Row) → Contains rs r → P r
      each r c =
          let p = row_of_pair r c in
          let o = in_pairs m p.0 p.1 in
          let f = h p.0.0 p.0.1 o.0 o.1 in
          subst P (ap shown_row (same_Some (pair_row f.0) (pair_row r) (sym f.1 ∙ p.2))) f.2
