-- What holds of a book whose journal is legal: its state, and that no plan has a total below its bound.
use Rattle.std.proofs.Common.{◌≡◌, ◌∙◌, ℕ, ◌<◌, ◌≤◌, List, [], ◌∷◌, length, Contains, subst}
use Rattle.std.specs.Prelude.{sum}
use Rattle.std.proofs.lemmas.List.Elements.{All-contains}
use Rattle.geo_orient.specs.declared.Point.{Point}
use Rattle.edge_table.specs.declared.edge.Edge.{Edge}
use Rattle.tri_theory.specs.Rounds.{total}
use Rattle.tri_check.specs.Problems.{IsProblem}
use Rattle.pair_rows.specs.Versions.{Pruned}
use Rattle.pair_rows.proofs.RowLaws.{justified_rows_are_true}
use Rattle.plan_law.specs.Plans.{IsInstance}
use Rattle.plan_law.specs.Books as law
use Rattle.plan_law.specs.Books.{PairRow, IsTrueRow, row_of, lower_of, State, bound, opening_state, after_entry, state_after, MayBeOffered, IsLegal, IsBook}
use Rattle.plan_law.specs.BookLaws.{IsState}
use Rattle.plan_law.proofs.Proved.{books_keep_plans, journals_keep_weights, books_bound_plans}
use Rattle.plan_moves.proofs.Lowered.{instance_of}
use Rattle.book_core.specs.Entries.{Shown, shown_row, lines_of, IsJustifiedRow}
use Rattle.book_core.specs.HeldBooks.{HeldBook, book_of, now_of, IsBelowPlans}
use Rattle.book_cert.specs.Laws.{IsLegalBook}

-- ---- a bound is below all plans
true_row : (points : List Point) (inputs : List (List Edge)) → IsProblem points inputs → (r : PairRow Shown) → IsJustifiedRow points inputs r → IsTrueRow points inputs r
true_row points inputs I r (frame, F, j) = (justified_rows_are_true Pruned points inputs frame (shown_row r) I F j).0

-- where justified rows are true, a legal journal is one of true rows
module _ (J K : PairRow Shown → Type 0) (points : List Point) (inputs : List (List Edge)) (f : (r : PairRow Shown) → J r → K r) where
  offer_so : (copies : ℕ) (entry : law.Entry Shown) → MayBeOffered J (length inputs) copies entry → MayBeOffered K (length inputs) copies entry
  offer_so copies (law.Move turn edges) m = m
  offer_so copies (law.Swap turn input rounds) m = m
  offer_so copies (law.Row turn r) m = (m.0, m.1, f r m.2)
  offer_so copies (law.Pack turn perm) m = m

  legal_so : (start : State Shown) (journal : List (law.Entry Shown)) → IsLegal J points inputs start journal → IsLegal K points inputs start journal
  legal_so start [] h = h
  legal_so start (entry ∷ journal) (m, fit, h) = (offer_so (sum start.plan.weights) entry m, fit, legal_so (after_entry points inputs start entry) journal h)

pub bounds_plans : (b : HeldBook) → IsLegalBook b → IsBelowPlans b.problem (bound (now_of b))
bounds_plans b (I, w, B) centre lists p =
    subst (λ ws. bound (now_of b) ≤ total ws lists) w
    (books_bound_plans Shown (λ points inputs r. IsTrueRow points inputs r) (λ points inputs row N l h t. t) b.problem.points b.problem.inputs (book_of b) centre lists (instance_of b.problem.points b.problem.inputs I)
    (record { opens = B.opens; legal = legal_so (IsJustifiedRow b.problem.points b.problem.inputs) (IsTrueRow b.problem.points b.problem.inputs) b.problem.points b.problem.inputs (true_row b.problem.points b.problem.inputs I) (opening_state b.opening) (lines_of b.journal) B.legal }) p)

-- ---- the parts of a book
module _ (b : HeldBook) (L : IsLegalBook b) where
  pub is_instance : IsInstance b.problem.points b.problem.inputs
  is_instance = instance_of b.problem.points b.problem.inputs L.0

  pub is_state : IsState (IsJustifiedRow b.problem.points b.problem.inputs) b.problem.points b.problem.inputs (now_of b)
  is_state = books_keep_plans Shown (λ points inputs r. IsJustifiedRow points inputs r) b.problem.points b.problem.inputs (book_of b) is_instance L.2

  pub weights_kept : (now_of b).plan.weights ≡ b.problem.weights
  weights_kept = journals_keep_weights Shown b.problem.points b.problem.inputs (opening_state b.opening) (lines_of b.journal) ∙ L.1

  -- each row is of two inputs
  pub ordered : (x : PairRow Shown) → Contains (now_of b).rows x → (x.low < x.high) × (x.high < length b.problem.inputs)
  ordered x c = let h = All-contains (λ (r : PairRow Shown). (r.low < r.high) × (r.high < length b.problem.inputs) × IsJustifiedRow b.problem.points b.problem.inputs r) (now_of b).rows x is_state.are_justified c in (h.0, h.1)
