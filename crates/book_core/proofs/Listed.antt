-- The rows of a journal.
use Rattle.std.proofs.Common.{◌≡◌, ◌∙◌, ℕ, suc, ◌+◌, ◌<◌, Bool, true, false, cond, ◌&&◌, eqb, Some, None, List, [], ◌∷◌, ◌++◌, length, drop, slice_get, refl, sym, ap, arith, drop-cons, append_assoc}
use Rattle.std.proofs.lemmas.List.{append-nil}
use Rattle.std.proofs.lemmas.Option.{get_or_from_slice_get}
use Rattle.geo_orient.specs.declared.Point.{Point}
use Rattle.edge_table.specs.declared.edge.Edge.{Edge}
use Rattle.plan_law.specs.Books.{PairRow, State, row_of, after_entry, state_after}
use Rattle.book_core.specs.declared.entry.Entry.{Entry}
use Rattle.book_core.specs.declared.entry.Entry.TheVariants.{Move, Swap, Row, Pack}
use Rattle.book_core.specs.Entries.{Shown, pair_row, line_of, lines_of, rows_in}
use Rattle.book_core.specs.HeldBooks.{HeldBook, now_of}

rows_after_all : (P : List Point) (Q : List (List Edge)) (start : State Shown) (journal : List Entry) → (state_after P Q start (lines_of journal)).rows ≡ start.rows ++ rows_in journal
rows_after_all P Q start [] = sym (append-nil start.rows)
rows_after_all P Q start (Move turn edges ∷ journal) = rows_after_all P Q (after_entry P Q start (line_of (Move turn edges))) journal
rows_after_all P Q start (Swap turn input rounds ∷ journal) = rows_after_all P Q (after_entry P Q start (line_of (Swap turn input rounds))) journal
rows_after_all P Q start (Row turn r ∷ journal) = rows_after_all P Q (after_entry P Q start (line_of (Row turn r))) journal ∙ append_assoc start.rows (pair_row r ∷ []) (rows_in journal)
rows_after_all P Q start (Pack turn perm ∷ journal) = rows_after_all P Q (after_entry P Q start (line_of (Pack turn perm))) journal

pub rows_of_book : (b : HeldBook) → (now_of b).rows ≡ rows_in b.journal
rows_of_book b = rows_after_all b.problem.points b.problem.inputs _ b.journal

-- an entry that isn't the row passes it on, and one that is ends the search
passed : (entry : Entry) (journal : List Entry) (i j : ℕ) → row_of (rows_in (entry ∷ [])) i j ≡ None → row_of (rows_in (entry ∷ journal)) i j ≡ row_of (rows_in journal) i j
passed (Move turn edges) journal i j e = refl
passed (Swap turn input rounds) journal i j e = refl
passed (Row turn r) journal i j e = by_test (eqb r.i i && eqb r.j j) refl
  where
    by_test : (b : Bool) → (eqb r.i i && eqb r.j j) ≡ b → row_of (rows_in (Row turn r ∷ journal)) i j ≡ row_of (rows_in journal) i j
    by_test true t = absurd (let f : row_of (rows_in (Row turn r ∷ [])) i j ≡ Some (pair_row r) = ap (λ b. cond b (Some (pair_row r)) None) t in cc)
    by_test false t = ap (λ b. cond b (Some (pair_row r)) (row_of (rows_in journal) i j)) t
passed (Pack turn perm) journal i j e = refl

ended : (entry : Entry) (journal : List Entry) (i j : ℕ) (r : PairRow Shown) → row_of (rows_in (entry ∷ [])) i j ≡ Some r → row_of (rows_in (entry ∷ journal)) i j ≡ Some r
ended (Move turn edges) journal i j r e = absurd (cc)
ended (Swap turn input rounds) journal i j r e = absurd (cc)
ended (Row turn x) journal i j r e = by_test (eqb x.i i && eqb x.j j) refl
  where
    by_test : (b : Bool) → (eqb x.i i && eqb x.j j) ≡ b → row_of (rows_in (Row turn x ∷ journal)) i j ≡ Some r
    by_test true t = ap (λ b. cond b (Some (pair_row x)) (row_of (rows_in journal) i j)) t ∙ (sym (ap (λ b. cond b (Some (pair_row x)) None) t) ∙ e)
    by_test false t = absurd (let f : row_of (rows_in (Row turn x ∷ [])) i j ≡ None = ap (λ b. cond b (Some (pair_row x)) None) t in cc)
ended (Pack turn perm) journal i j r e = absurd (cc)

apart : (xs : List Entry) (k : ℕ) (x : Entry) → k < length xs → slice_get xs k ≡ Some x → drop k xs ≡ x ∷ drop (k + 1) xs
apart xs k x h s = drop-cons xs k x h ∙ (ap (λ y. y ∷ drop (suc k) xs) (get_or_from_slice_get xs k x x s) ∙ ap (λ n. x ∷ drop n xs) next)
  where
    next : suc k ≡ k + 1
    next = omega arith

pub row_on : (xs : List Entry) (k i j : ℕ) (x : Entry) → k < length xs → slice_get xs k ≡ Some x → row_of (rows_in (x ∷ [])) i j ≡ None → row_of (rows_in (drop k xs)) i j ≡ row_of (rows_in (drop (k + 1) xs)) i j
row_on xs k i j x h s e = ap (λ l. row_of (rows_in l) i j) (apart xs k x h s) ∙ passed x (drop (k + 1) xs) i j e

pub row_here : (xs : List Entry) (k i j : ℕ) (x : Entry) (r : PairRow Shown) → k < length xs → slice_get xs k ≡ Some x → row_of (rows_in (x ∷ [])) i j ≡ Some r → row_of (rows_in (drop k xs)) i j ≡ Some r
row_here xs k i j x r h s e = ap (λ l. row_of (rows_in l) i j) (apart xs k x h s) ∙ ended x (drop (k + 1) xs) i j r e
