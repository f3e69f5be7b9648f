-- The rows of a journal.
use Rattle.std.proofs.Common.{◌≡◌, ◌≢◌, ◌∙◌, ℕ, zero, suc, Bool, true, false, cond, Some, None, List, [], ◌∷◌, ◌++◌, refl, sym, ap, ap₂, append_assoc}
use Rattle.std.specs.Prelude.{slice_get, eqb, ◌&&◌}
use Rattle.std.proofs.lemmas.Bool.{and_parts, eqb-true, eq-eqb}
use Rattle.std.proofs.lemmas.List.{append-nil}
use Rattle.geo_orient.specs.declared.Point.{Point}
use Rattle.edge_table.specs.declared.edge.Edge.{Edge}
use Rattle.pair_rows.specs.declared.row.Row as row
use Rattle.plan_law.specs.Books as law
use Rattle.plan_law.specs.Books.{PairRow, State, row_of, after_entry, state_after}
use Rattle.book_core.specs.declared.entry.Entry.{Entry}
use Rattle.book_core.specs.declared.entry.Entry.TheVariants as entry
use Rattle.book_core.specs.Entries.{Shown, pair_row, lines_of, rows_in}
use Rattle.worker_pool.proofs.Ordered.{same}

-- ---- the rows of the state after a journal
module _ (points : List Point) (inputs : List (List Edge)) where
  pub rows_are : (s : State Shown) (journal : List Entry) → (state_after points inputs s (lines_of journal)).rows ≡ s.rows ++ rows_in journal
  rows_are s [] = sym (append-nil s.rows)
  rows_are s (entry.Move turn edges ∷ journal) = rows_are (after_entry points inputs s (law.Move turn edges)) journal
  rows_are s (entry.Swap turn input rounds ∷ journal) = rows_are (after_entry points inputs s (law.Swap turn input rounds)) journal
  rows_are s (entry.Row turn r ∷ journal) = rows_are (after_entry points inputs s (law.Row turn (pair_row r))) journal ∙ append_assoc s.rows (pair_row r ∷ []) (rows_in journal)
  rows_are s (entry.Pack turn perm ∷ journal) = rows_are (after_entry points inputs s (law.Pack turn perm)) journal

pub rows_join : (journal more : List Entry) → rows_in (journal ++ more) ≡ rows_in journal ++ rows_in more
rows_join [] more = refl
rows_join (entry.Move turn edges ∷ journal) more = rows_join journal more
rows_join (entry.Swap turn input rounds ∷ journal) more = rows_join journal more
rows_join (entry.Row turn r ∷ journal) more = ap (λ (rs : List (PairRow Shown)). pair_row r ∷ rs) (rows_join journal more)
rows_join (entry.Pack turn perm ∷ journal) more = rows_join journal more

-- ---- a row that is found is one of the journal's
pub record IsRowOf (journal : List Entry) (i j : ℕ) (r : PairRow Shown) : Type 0 where
  pub place : ℕ
  pub turn : ℕ
  pub found : row.Row
  pub there : slice_get journal place ≡ Some (entry.Row turn found)
  pub is : pair_row found ≡ r
  pub first : found.i ≡ i
  pub second : found.j ≡ j

one_later : (x : Entry) (journal : List Entry) (i j : ℕ) (r : PairRow Shown) → IsRowOf journal i j r → IsRowOf (x ∷ journal) i j r
one_later x journal i j r R = record { place = suc R.place; turn = R.turn; found = R.found; there = R.there; is = R.is; first = R.first; second = R.second }

pub row_found : (journal : List Entry) (i j : ℕ) (r : PairRow Shown) → row_of (rows_in journal) i j ≡ Some r → IsRowOf journal i j r
row_found [] i j r e = absurd (cc)
row_found (entry.Move turn edges ∷ journal) i j r e = one_later (entry.Move turn edges) journal i j r (row_found journal i j r e)
row_found (entry.Swap turn input rounds ∷ journal) i j r e = one_later (entry.Swap turn input rounds) journal i j r (row_found journal i j r e)
row_found (entry.Pack turn perm ∷ journal) i j r e = one_later (entry.Pack turn perm) journal i j r (row_found journal i j r e)
row_found (entry.Row turn x ∷ journal) i j r e = by_test (eqb x.i i && eqb x.j j) refl e (λ e. row_found journal i j r e)
  where
    by_test : (b : Bool) → (eqb x.i i && eqb x.j j) ≡ b → cond b (Some (pair_row x)) (row_of (rows_in journal) i j) ≡ Some r → (row_of (rows_in journal) i j ≡ Some r → IsRowOf journal i j r) → IsRowOf (entry.Row turn x ∷ journal) i j r
    by_test true t e later = let p = and_parts (eqb x.i i) (eqb x.j j) t in record { place = 0; turn = turn; found = x; there = refl; is = same (pair_row x) r e; first = eqb-true x.i i p.0; second = eqb-true x.j j p.1 }
    by_test false t e later = one_later (entry.Row turn x) journal i j r (later e)

-- ---- and where the journal has one, one is found
pub row_there : (journal : List Entry) (n turn : ℕ) (found : row.Row) → slice_get journal n ≡ Some (entry.Row turn found) → row_of (rows_in journal) found.i found.j ≢ None
row_there [] n turn found e = absurd (cc)
row_there (entry.Move t edges ∷ journal) zero turn found e = absurd (cc)
row_there (entry.Move t edges ∷ journal) (suc n) turn found e = row_there journal n turn found e
row_there (entry.Swap t input rounds ∷ journal) zero turn found e = absurd (cc)
row_there (entry.Swap t input rounds ∷ journal) (suc n) turn found e = row_there journal n turn found e
row_there (entry.Pack t perm ∷ journal) zero turn found e = absurd (cc)
row_there (entry.Pack t perm ∷ journal) (suc n) turn found e = row_there journal n turn found e
row_there (entry.Row t x ∷ journal) zero turn found e = λ none. absurd (let f : Some (pair_row x) ≡ None = sym first ∙ none in cc)
  where
    is : x ≡ found
    is = cc

    passes : (eqb x.i found.i && eqb x.j found.j) ≡ true
    passes = ap₂ (λ (a b : Bool). a && b) (eq-eqb x.i found.i (ap (λ (r : row.Row). r.i) is)) (eq-eqb x.j found.j (ap (λ (r : row.Row). r.j) is))

    first : row_of (rows_in (entry.Row t x ∷ journal)) found.i found.j ≡ Some (pair_row x)
    first = ap (λ (b : Bool). cond b (Some (pair_row x)) (row_of (rows_in journal) found.i found.j)) passes
row_there (entry.Row t x ∷ journal) (suc n) turn found e = λ none. by_test (eqb x.i found.i && eqb x.j found.j) none (row_there journal n turn found e)
  where
    by_test : (b : Bool) → cond b (Some (pair_row x)) (row_of (rows_in journal) found.i found.j) ≡ None → row_of (rows_in journal) found.i found.j ≢ None → ⊥
    by_test true e again = let f : Some (pair_row x) ≡ None = e in cc
    by_test false e again = again e
