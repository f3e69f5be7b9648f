-- Tables of the lower bounds of rows.
use Rattle.std.proofs.Common.{◌≡◌, ◌∙◌, ◌⊎◌, inl, inr, ℕ, zero, suc, ◌+◌, ◌/◌, ◌<◌, ◌≤◌, min, max, Bool, true, false, cond, ◌&&◌, eqb, eqb-true, Option, Some, None, List, [], ◌∷◌, ◌++◌, length, get_or, map, All, refl, sym, ap, ap₂, arith, ⊎_elim}
use Rattle.std.specs.Prelude.{sum, sum_by}
use Rattle.std.specs.List.{enumerate_from, range_with_len}
use Rattle.std.specs.Option.{option_or}
use Rattle.std.proofs.lemmas.List.Folds.{find-append}
use Rattle.std.proofs.lemmas.List.Sums.{sum_by-cons}
use Rattle.std.proofs.lemmas.List.FromFn.{get_or-map-range_with_len, fill_by_all}
use native.Mathlib.Decide.{ℕ_discrete}
use Rattle.std.proofs.lemmas.Bool.{cases_lt}
use Rattle.assignment_law.specs.Assignments.{IsAssignment, assignment_bound}
use Rattle.bound_law.specs.Copies.{copy_of, copy_lower}
use Rattle.match_bound.specs.Tables.{weight, IsTable}
use Rattle.plan_law.specs.Books.{PairRow, row_of, lower_of, identity}
use Rattle.plan_law.specs.Worlds.{lower_table}
use Rattle.book_core.specs.CopyTables.{SetsCopies}

length_mapped : {X : Type 0} (f : ℕ → X) (xs : List ℕ) → length (map f xs) ≡ length xs
length_mapped f [] = refl
length_mapped f (x ∷ xs) = ap suc (length_mapped f xs)

length_range : (a n : ℕ) → length (range_with_len a n) ≡ n
length_range a zero = refl
length_range a (suc n) = ap suc (length_range (a + 1) n)

module _ {E : Type 0} where
  -- ---- one row more
  abbrev at_row : Option (PairRow E) → ℕ
  at_row r = elim r as (λ _. ℕ) [ Some row ↦ row.lower | None ↦ 0 ]

  lone : (row : PairRow E) (i j : ℕ) (b : Bool) → (eqb row.low i && eqb row.high j) ≡ b → row_of (row ∷ []) i j ≡ cond b (Some row) None
  lone row i j b e = ap (λ b. cond b (Some row) None) e

  same_pair : (row : PairRow E) → (eqb row.low row.low && eqb row.high row.high) ≡ true
  same_pair row = grind arith

  other_pair : (row : PairRow E) (i j : ℕ) → ¬ ((row.low ≡ i) × (row.high ≡ j)) → (eqb row.low i && eqb row.high j) ≡ false
  other_pair row i j n = by_tests (eqb row.low i) (eqb row.high j) refl refl
    where
      by_tests : (a b : Bool) → eqb row.low i ≡ a → eqb row.high j ≡ b → (eqb row.low i && eqb row.high j) ≡ false
      by_tests true true e f = absurd (n (eqb-true row.low i e, eqb-true row.high j f))
      by_tests true false e f = ap₂ ◌&&◌ e f
      by_tests false b e f = ap₂ ◌&&◌ e f

  lower_here : (rows : List (PairRow E)) (row : PairRow E) (a b : ℕ) → row_of rows row.low row.high ≡ None → min a b ≡ row.low → max a b ≡ row.high → lower_of (rows ++ (row ∷ [])) a b ≡ row.lower
  lower_here rows row a b none l h =
      ap at_row (ap₂ (row_of (rows ++ (row ∷ []))) l h ∙ (find-append (λ r. eqb r.low row.low && eqb r.high row.high) rows (row ∷ []) ∙ ap₂ option_or none (lone row row.low row.high true (same_pair row))))

  or_none : (r : Option (PairRow E)) → option_or r None ≡ r
  or_none (Some row) = refl
  or_none None = refl

  lower_there : (rows : List (PairRow E)) (row : PairRow E) (a b : ℕ) → ¬ ((row.low ≡ min a b) × (row.high ≡ max a b)) → lower_of (rows ++ (row ∷ [])) a b ≡ lower_of rows a b
  lower_there rows row a b n =
      ap at_row
      (find-append (λ r. eqb r.low (min a b) && eqb r.high (max a b)) rows (row ∷ []) ∙ (ap (option_or (row_of rows (min a b) (max a b))) (lone row (min a b) (max a b) false (other_pair row (min a b) (max a b) n)) ∙ or_none (row_of rows (min a b) (max a b))))

module _ {E : Type 0} (ws : List ℕ) where
  pub weight_at : (rows : List (PairRow E)) (c d : ℕ) → c < sum ws → d < sum ws → weight (lower_table ws rows) c d ≡ copy_lower ws (lower_of rows) c d
  weight_at rows c d hc hd =
      ap (λ (r : List ℕ). get_or r d 0) (get_or-map-range_with_len (λ c. map (λ d. copy_lower ws (lower_of rows) c d) (identity (sum ws))) 0 (sum ws) c c [] hc (omega arith))
      ∙ get_or-map-range_with_len (λ d. copy_lower ws (lower_of rows) c d) 0 (sum ws) d d 0 hd (omega arith)

  pub table_of : (rows : List (PairRow E)) (table : List (List ℕ)) → IsTable table → length table ≡ sum ws → ((c d : ℕ) → c < sum ws → d < sum ws → weight table c d ≡ copy_lower ws (lower_of rows) c d) → table ≡ lower_table ws rows
  table_of rows table T len h =
      fill_by_all (λ c. map (λ d. copy_lower ws (lower_of rows) c d) (identity (sum ws))) table (sum ws) [] len
      (λ c l. fill_by_all (λ d. copy_lower ws (lower_of rows) c d) (get_or table c []) (sum ws) 0 (T.square c [] (omega (arith, len, l)) ∙ len) (λ d m. h c d l m))

  pub length_table : (rows : List (PairRow E)) → length (lower_table ws rows) ≡ sum ws
  length_table rows = length_mapped (λ c. map (λ d. copy_lower ws (lower_of rows) c d) (identity (sum ws))) (identity (sum ws)) ∙ length_range 0 (sum ws)

  pub table_grows : (rows : List (PairRow E)) (row : PairRow E) (old new : List (List ℕ)) → row.low < row.high → row_of rows row.low row.high ≡ None → old ≡ lower_table ws rows → IsTable new
      → SetsCopies ws old new row.low row.high row.lower (sum ws) → new ≡ lower_table ws (rows ++ (row ∷ []))
  table_grows rows row old new lh none e U S = table_of (rows ++ (row ∷ [])) new U (S.side ∙ long) each
    where
      long : length old ≡ sum ws
      long = ap (λ (t : List (List ℕ)). length t) e ∙ length_table rows

      each : (c d : ℕ) → c < sum ws → d < sum ws → weight new c d ≡ copy_lower ws (lower_of (rows ++ (row ∷ []))) c d
      each c d hc hd = placed (copy_of ws c) (copy_of ws d) refl refl
        where
          placed : (a b : ℕ) → copy_of ws c ≡ a → copy_of ws d ≡ b → weight new c d ≡ lower_of (rows ++ (row ∷ [])) a b
          placed a b ca db = by_first (ℕ_discrete a row.low) (ℕ_discrete b row.high) (ℕ_discrete a row.high) (ℕ_discrete b row.low)
            where
              same : lower_of rows (copy_of ws c) (copy_of ws d) ≡ lower_of rows a b
              same = ap₂ (lower_of rows) ca db

              others : ¬ ((a ≡ row.low) × (b ≡ row.high)) → ¬ ((a ≡ row.high) × (b ≡ row.low)) → weight new c d ≡ lower_of (rows ++ (row ∷ [])) a b
              others p q =
                  S.others c d (λ h. p (sym ca ∙ h.0, sym db ∙ h.1)) (λ h. q (sym ca ∙ h.0, sym db ∙ h.1))
                  ∙ (ap (λ (t : List (List ℕ)). weight t c d) e ∙ (weight_at rows c d hc hd ∙ (same ∙ sym (lower_there rows row a b (λ h. apart h)))))
                where
                  apart : (row.low ≡ min a b) × (row.high ≡ max a b) → ⊥
                  apart (l, h) = by_order (ordered a b)
                    where
                      ordered : (x y : ℕ) → (x ≤ y) ⊎ (y ≤ x)
                      ordered x y = ⊎_elim (λ (l : x < y). inl (omega (arith, l))) (λ (l : y ≤ x). inr l) (cases_lt x y)

                      by_order : (a ≤ b) ⊎ (b ≤ a) → ⊥
                      by_order (inl o) = p (omega (arith, l, o), omega (arith, h, o))
                      by_order (inr o) = q (omega (arith, h, o), omega (arith, l, o))

              by_first : Dec (a ≡ row.low) → Dec (b ≡ row.high) → Dec (a ≡ row.high) → Dec (b ≡ row.low) → weight new c d ≡ lower_of (rows ++ (row ∷ [])) a b
              by_first (yes i) (yes j) _ _ = (S.pairs c d hc hd (ca ∙ i) (db ∙ j)).0 ∙ sym (lower_here rows row a b none (omega (arith, i, j, lh)) (omega (arith, i, j, lh)))
              by_first (yes i) (no j) (yes k) _ = absurd (omega (arith, i, k, lh))
              by_first (yes i) (no j) (no k) _ = others (λ h. j h.1) (λ h. k h.0)
              by_first (no i) _ (yes k) (yes l) = (S.pairs d c hd hc (db ∙ l) (ca ∙ k)).1 ∙ sym (lower_here rows row a b none (omega (arith, k, l, lh)) (omega (arith, k, l, lh)))
              by_first (no i) _ (yes k) (no l) = others (λ h. i h.0) (λ h. l h.1)
              by_first (no i) _ (no k) _ = others (λ h. i h.0) (λ h. k h.0)

  -- ---- bounds
  sums_same : (rows : List (PairRow E)) (k : ℕ) (perm : List ℕ) → k + length perm ≤ sum ws → All (λ d. d < sum ws) perm
      → sum_by (λ (place : ℕ × ℕ). weight (lower_table ws rows) place.0 place.1) (enumerate_from k perm) ≡ sum_by (λ (place : ℕ × ℕ). copy_lower ws (lower_of rows) place.0 place.1) (enumerate_from k perm)
  sums_same rows k [] l h = refl
  sums_same rows k (d ∷ perm) l h =
      let again = sums_same rows (k + 1) perm (omega (arith, l)) (λ i x m. h (suc i) x (omega (arith, m))) in
      let one = weight_at rows k d (omega (arith, l)) (h 0 d (omega arith)) in
      sum_by-cons (λ (place : ℕ × ℕ). weight (lower_table ws rows) place.0 place.1) (k, d) (enumerate_from (k + 1) perm)
      ∙ (ap₂ ◌+◌ one again ∙ sym (sum_by-cons (λ (place : ℕ × ℕ). copy_lower ws (lower_of rows) place.0 place.1) (k, d) (enumerate_from (k + 1) perm)))

  pub bound_same : (rows : List (PairRow E)) (perm : List ℕ) → IsAssignment (sum ws) perm → assignment_bound (weight (lower_table ws rows)) perm ≡ assignment_bound (copy_lower ws (lower_of rows)) perm
  bound_same rows perm A = ap (λ (s : ℕ). (s + 1) / 2) (sums_same rows 0 perm (let l = A.long in omega (arith, l)) A.below)
