-- A book with one entry more.
use Rattle.std.proofs.Common.{◌≡◌, ◌∙◌, ◌+◌, cond, List, [], ◌∷◌, ◌++◌, length, sym, ap, subst}
use Rattle.std.specs.Prelude.{sum}
use Rattle.std.proofs.lemmas.List.{map-append}
use Rattle.std.proofs.lemmas.List.Sums.{sum_by_push}
use Rattle.geo_orient.specs.declared.Point.{Point}
use Rattle.edge_table.specs.declared.edge.Edge.{Edge}
use Rattle.plan_law.specs.Books as law
use Rattle.plan_law.specs.Books.{State, is_plan_entry, opening_state, after_entry, state_after, MayBeOffered, IsFit, IsLegal, IsBook, front, bound}
use Rattle.plan_law.specs.Worlds.{with_entry}
use Rattle.plan_law.proofs.Books.{state_append}
use Rattle.plan_law.proofs.Proved.{journals_grow, journals_keep_weights}
use Rattle.book_core.specs.declared.entry.Entry.{Entry}
use Rattle.book_core.specs.Entries.{Shown, line_of, lines_of, IsJustifiedRow}
use Rattle.book_core.specs.HeldBooks.{HeldBook, book_of, now_of, front_of, IsOffer, with_line}

-- the plan has the weights of the instance at any time
pub weights_now : (b : HeldBook) → b.opening.weights ≡ b.problem.weights → (now_of b).plan.weights ≡ b.problem.weights
weights_now b e = journals_keep_weights Shown b.problem.points b.problem.inputs (opening_state b.opening) (lines_of b.journal) ∙ e

module _ (b : HeldBook) (entry : Entry) where
  abbrev P : List Point
  P = b.problem.points

  abbrev Q : List (List Edge)
  Q = b.problem.inputs

  abbrev J : law.PairRow Shown → Type 0
  J = IsJustifiedRow b.problem.points b.problem.inputs

  lines_grow : lines_of (b.journal ++ entry ∷ []) ≡ lines_of b.journal ++ line_of entry ∷ []
  lines_grow = map-append line_of b.journal (entry ∷ [])

  pub book_grows : book_of (with_line b entry) ≡ with_entry (book_of b) (line_of entry)
  book_grows = ap (λ j. record { opening = b.opening; journal = j }) lines_grow

  pub now_grows : now_of (with_line b entry) ≡ after_entry P Q (now_of b) (line_of entry)
  now_grows = ap (state_after P Q (opening_state b.opening)) lines_grow ∙ state_append Shown J P Q (opening_state b.opening) (lines_of b.journal) (line_of entry ∷ [])

  pub weights_after : b.opening.weights ≡ b.problem.weights → (after_entry P Q (now_of b) (line_of entry)).plan.weights ≡ (now_of b).plan.weights
  weights_after e = journals_keep_weights Shown P Q (now_of b) (line_of entry ∷ [])

  pub legal_grows : b.opening.weights ≡ b.problem.weights → IsBook J P Q (book_of b) → IsOffer b.problem entry → IsFit P Q (now_of b) (line_of entry) → IsBook J P Q (book_of (with_line b entry))
  legal_grows e B m f = record {
    opens = B.opens;
    legal = subst (IsLegal J P Q (opening_state b.opening)) (sym lines_grow)
        (journals_grow Shown (λ points inputs r. IsJustifiedRow points inputs r) P Q (opening_state b.opening) (lines_of b.journal) (line_of entry) B.legal (subst (λ ws. MayBeOffered J (length Q) (sum ws) (line_of entry)) (sym e) m) f);
  }

  pub front_grows : front_of (with_line b entry) ≡ front_of b + cond (is_plan_entry (line_of entry)) 1 0
  front_grows = ap (λ j. front j) lines_grow ∙ sum_by_push (λ x. cond (is_plan_entry x) 1 0) (lines_of b.journal) (line_of entry)
