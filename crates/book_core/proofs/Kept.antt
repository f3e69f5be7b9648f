-- What holds of a book at any time: rows are true, and no plan has a total below the bound.
use Rattle.std.proofs.Common.{◌≡◌, ℕ, ◌≤◌, List, [], ◌∷◌, length, subst}
use Rattle.std.specs.Prelude.{sum}
use Rattle.geo_orient.specs.declared.Point.{Point}
use Rattle.edge_table.specs.declared.edge.Edge.{Edge}
use Rattle.tri_theory.specs.Rounds.{total}
use Rattle.tri_check.specs.Problems.{Problem, IsProblem}
use Rattle.plan_law.specs.Books as law
use Rattle.plan_law.specs.Books.{PairRow, IsTrueRow, State, after_entry, MayBeOffered, IsLegal, IsBook, bound}
use Rattle.plan_law.proofs.Proved.{books_bound_plans}
use Rattle.pair_rows.specs.Versions.{Pruned}
use Rattle.pair_rows.proofs.RowLaws.{justified_rows_are_true}
use Rattle.book_core.specs.declared.entry.Entry.{Entry}
use Rattle.book_core.specs.declared.entry.Entry.TheVariants.{Move, Swap, Row, Pack}
use Rattle.book_core.specs.Entries.{Shown, pair_row, shown_row, IsJustifiedRow}
use Rattle.book_core.specs.HeldBooks.{HeldBook, book_of, now_of, IsOffer, IsBelowPlans, SaysTrue}
use Rattle.book_core.proofs.Following.{instance_of}

true_row : (points : List Point) (inputs : List (List Edge)) → IsProblem points inputs → (r : PairRow Shown) → IsJustifiedRow points inputs r → IsTrueRow points inputs r
true_row points inputs I r (frame, F, j) = (justified_rows_are_true Pruned points inputs frame (shown_row r) I F j).0

pub says_true : (problem : Problem) (entry : Entry) → IsProblem problem.points problem.inputs → IsOffer problem entry → SaysTrue problem entry
says_true problem (Move turn edges) I m = tt
says_true problem (Swap turn input rounds) I m = tt
says_true problem (Row turn r) I m = true_row problem.points problem.inputs I (pair_row r) m.2
says_true problem (Pack turn perm) I m = tt

-- what justifies a row may be taken for something that follows from it
module _ (J K : PairRow Shown → Type 0) (points : List Point) (inputs : List (List Edge)) (f : (r : PairRow Shown) → J r → K r) where
  offer_so : (copies : ℕ) (entry : law.Entry Shown) → MayBeOffered J (length inputs) copies entry → MayBeOffered K (length inputs) copies entry
  offer_so copies (law.Move turn edges) m = m
  offer_so copies (law.Swap turn input rounds) m = m
  offer_so copies (law.Row turn r) m = (m.0, m.1, f r m.2)
  offer_so copies (law.Pack turn perm) m = m

  legal_so : (start : State Shown) (journal : List (law.Entry Shown)) → IsLegal J points inputs start journal → IsLegal K points inputs start journal
  legal_so start [] h = h
  legal_so start (entry ∷ journal) (m, fit, h) = (offer_so (sum start.plan.weights) entry m, fit, legal_so (after_entry points inputs start entry) journal h)

pub bounds_plans : (b : HeldBook) → IsProblem b.problem.points b.problem.inputs → IsBook (IsJustifiedRow b.problem.points b.problem.inputs) b.problem.points b.problem.inputs (book_of b) → b.opening.weights ≡ b.problem.weights
    → IsBelowPlans b.problem (bound (now_of b))
bounds_plans b I B w centre schedules p =
    subst (λ ws. bound (now_of b) ≤ total ws schedules) w
    (books_bound_plans Shown (λ points inputs r. IsTrueRow points inputs r) (λ points inputs row N l h t. t) b.problem.points b.problem.inputs (book_of b) centre schedules (instance_of b.problem.points b.problem.inputs I)
    (record { opens = B.opens; legal = legal_so (IsJustifiedRow b.problem.points b.problem.inputs) (IsTrueRow b.problem.points b.problem.inputs) b.problem.points b.problem.inputs (true_row b.problem.points b.problem.inputs I) _ _ B.legal }) p)
