-- The parts of a finished journal that have no rows.
use Rattle.std.proofs.Common.{◌≡◌, ◌∙◌, ℕ, List, [], ◌∷◌, ◌++◌, refl, ap, ap₂}
use Rattle.std.proofs.lemmas.List.{append-nil}
use Rattle.edge_table.specs.declared.edge.Edge.{Edge}
use Rattle.plan_law.specs.Books as law
use Rattle.plan_law.specs.Books.{PairRow}
use Rattle.plan_law.specs.Solving.{moves_at}
use Rattle.book_core.specs.declared.entry.Entry.{Entry}
use Rattle.book_core.specs.declared.entry.Entry.TheVariants as entry
use Rattle.book_core.specs.Entries.{Shown, rows_in}
use Rattle.worker_pool.specs.Finishes.{moves_of, IsPack}
use Rattle.worker_pool.proofs.Rows.{rows_join}
use Rattle.book_solve.specs.Solved.{plan_lines}

no_rows_of_moves : (turn : ℕ) (moves : List (List Edge)) → rows_in (moves_of turn moves) ≡ []
no_rows_of_moves turn [] = refl
no_rows_of_moves turn (move ∷ moves) = no_rows_of_moves turn moves

-- a pack is no row, and neither move nor swap
bare : (turn : ℕ) (packs : List Entry) → IsPack turn packs → (rows_in packs ≡ []) × (plan_lines packs ≡ [])
bare turn [] h = (refl, refl)
bare turn (entry.Pack t perm ∷ []) h = (refl, refl)
bare turn (entry.Pack t perm ∷ x ∷ packs) h = absurd h
bare turn (entry.Move t edges ∷ packs) h = absurd h
bare turn (entry.Swap t input rounds ∷ packs) h = absurd h
bare turn (entry.Row t r ∷ packs) h = absurd h

pub same_rows : (journal packs : List Entry) (turn : ℕ) (moves : List (List Edge)) → IsPack turn packs → rows_in (journal ++ (moves_of turn moves ++ packs)) ≡ rows_in journal
same_rows journal packs turn moves h =
    rows_join journal (moves_of turn moves ++ packs)
    ∙ (ap (λ (rs : List (PairRow Shown)). rows_in journal ++ rs) (rows_join (moves_of turn moves) packs ∙ ap₂ (λ (rs qs : List (PairRow Shown)). rs ++ qs) (no_rows_of_moves turn moves) (bare turn packs h).0) ∙ append-nil (rows_in journal))

lines_of_moves : (turn : ℕ) (moves : List (List Edge)) → plan_lines (moves_of turn moves) ≡ moves_at turn moves
lines_of_moves turn [] = refl
lines_of_moves turn (move ∷ moves) = ap (λ (lines : List (law.Entry Shown)). law.Move turn move ∷ lines) (lines_of_moves turn moves)

pub lines_at_end : (packs : List Entry) (turn : ℕ) (moves : List (List Edge)) → IsPack turn packs → plan_lines (moves_of turn moves) ++ plan_lines packs ≡ moves_at turn moves
lines_at_end packs turn moves h = ap₂ (λ (a b : List (law.Entry Shown)). a ++ b) (lines_of_moves turn moves) (bare turn packs h).1 ∙ append-nil (moves_at turn moves)
