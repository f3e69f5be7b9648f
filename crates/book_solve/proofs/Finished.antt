-- The turns of a run and its finish leave a solved book.
use Rattle.std.proofs.Common.{◌≡◌, ◌≢◌, ◌∙◌, ◌⊎◌, inl, inr, ℕ, zero, suc, Some, List, ◌++◌, length, sym, ap, subst}
use Rattle.std.specs.Prelude.{slice_get, filter}
use Rattle.std.proofs.lemmas.List.{map-append}
use Rattle.std.proofs.lemmas.List.Elements.{filter-append}
use Rattle.tri_check.specs.Problems.{Problem}
use Rattle.flip_cnf.specs.HeldFrames.{HeldFrame}
use Rattle.plan_law.specs.Plans.{Plan}
use Rattle.plan_law.specs.Books as law
use Rattle.plan_law.specs.Books.{PairRow, row_of, is_plan_entry, opening_state}
use Rattle.plan_law.specs.Solving.{turns_of, AreLines}
use Rattle.plan_core.specs.HeldPlans.{HeldPlan}
use Rattle.book_core.specs.declared.entry.Entry.{Entry}
use Rattle.book_core.specs.Entries.{Shown, line_of, lines_of, rows_in}
use Rattle.book_core.specs.HeldBooks.{HeldBook, ground_of, now_of}
use Rattle.worker_pool.specs.declared.limits.Limits.{Limits}
use Rattle.worker_pool.specs.declared.outcome.Outcome.{Outcome}
use Rattle.worker_pool.specs.declared.outcome.Outcome.TheVariants.{NoMemory}
use Rattle.worker_pool.specs.Jobs.{order_of}
use Rattle.worker_pool.specs.Runs.{AreTurns, IsCompared, HaveRows}
use Rattle.worker_pool.specs.Finishes.{moves_of, IsFinished}
use Rattle.worker_pool.proofs.Compared.{row_owned, have_rows}
use Rattle.worker_pool.proofs.Rows.{IsRowOf, rows_are, row_found}
use Rattle.book_solve.specs.declared.order.Order.{Order}
use Rattle.book_solve.specs.Solved.{IsOpeningPlan, limits_of, turns_for, plan_lines, HasEarnedRow, AreLinesBy, IsSolvedBook}
use Rattle.book_solve.specs.Crews.{AreTurnsBy, IsRun}
use Rattle.book_solve.specs.Laws.{TurnsAndFinishSolve}
use Rattle.book_solve.proofs.Rows.{same_rows, lines_at_end}
use Rattle.book_solve.proofs.Turns.{are_lines}
use Rattle.book_solve.proofs.InOrder.{are_lines_in_order}
use Rattle.book_solve.proofs.OfWorkers.{are_lines_of_workers}

lines_join : (journal more : List Entry) → plan_lines (journal ++ more) ≡ plan_lines journal ++ plan_lines more
lines_join journal more = ap (filter is_plan_entry) (map-append line_of journal more) ∙ filter-append is_plan_entry (lines_of journal) (lines_of more)

-- ---- what holds however many workers took the turns
module _ (limits : Limits) (frame : HeldFrame) (ground : HeldPlan) (journal : List Entry) (outcomes : List Outcome) where
  turns_are : (workers : ℕ) → AreTurnsBy workers limits frame ground journal outcomes → AreTurns limits frame ground journal outcomes
  turns_are zero R = R.turns
  turns_are (suc n) R = R.turns

  others_are : (workers : ℕ) → AreTurnsBy workers limits frame ground journal outcomes → length outcomes ≡ turns_of (order_of limits) ground.problem.inputs → ((u : ℕ) → slice_get outcomes u ≢ Some NoMemory)
      → AreLinesBy workers (order_of limits) ground.problem.points ground.problem.inputs ground.plan (plan_lines journal)
  others_are zero R count memory = are_lines_in_order limits frame ground journal outcomes R count memory
  others_are (suc n) R count memory = are_lines_of_workers (suc n) limits frame ground journal outcomes R count memory

-- ---- the book after the turns and the finish
module _ (order : Order) (run end : HeldBook) (outcomes : List Outcome) where
  abbrev Solves : Problem → Type 0
  Solves problem = IsRun problem order run outcomes → ((u : ℕ) → slice_get outcomes u ≢ Some NoMemory) → IsFinished (turns_of (turns_for problem order) problem.inputs) run end → IsSolvedBook problem order end

  solves : Solves run.problem
  solves R memory F = record {
    problem_is = ap (λ (q : HeldPlan). q.problem) F.of_ground;
    opens = subst (IsOpeningPlan run.problem order.flips) (sym opening) R.opens;
    lines = plan_lines run.journal;
    made = F.moves;
    journal =
        ap plan_lines F.appended
        ∙ (lines_join run.journal (moves_of last F.moves ++ F.packs)
        ∙ ap (λ (lines : List (law.Entry Shown)). plan_lines run.journal ++ lines) (lines_join (moves_of last F.moves) F.packs ∙ lines_at_end F.packs last F.moves F.pack));
    answers = subst (λ (plan : Plan). AreLines (turns_for run.problem order) run.problem.points run.problem.inputs plan (plan_lines run.journal) F.moves (now_of end).plan) (sym opening) (are_lines (limits_of run.problem order) R.frame (ground_of run) run.journal outcomes turns F.moves (now_of end).plan R.one_each F.settles);
    others = subst (λ (plan : Plan). AreLinesBy order.workers (turns_for run.problem order) run.problem.points run.problem.inputs plan (plan_lines run.journal)) (sym opening) (others_are (limits_of run.problem order) R.frame (ground_of run) run.journal outcomes order.workers R.turns R.one_each memory);
    settled = F.settled;
    rows = λ i j up below. has_row i j (rows.each i j up below);
    best = F.best;
  }
    where
      turns : AreTurns (limits_of run.problem order) R.frame (ground_of run) run.journal outcomes
      turns = turns_are (limits_of run.problem order) R.frame (ground_of run) run.journal outcomes order.workers R.turns

      last : ℕ
      last = turns_of (turns_for run.problem order) run.problem.inputs

      opening : end.opening ≡ run.opening
      opening = ap (λ (q : HeldPlan). q.plan) F.of_ground

      end_rows : (now_of end).rows ≡ rows_in run.journal
      end_rows = rows_are end.problem.points end.problem.inputs (opening_state end.opening) end.journal ∙ (ap rows_in F.appended ∙ same_rows run.journal F.packs last F.moves F.pack)

      rows : HaveRows (limits_of run.problem order) (ground_of run) run.journal outcomes
      rows = have_rows (limits_of run.problem order) R.frame (ground_of run) run.journal outcomes turns R.one_each

      run_rows : (now_of run).rows ≡ rows_in run.journal
      run_rows = rows_are run.problem.points run.problem.inputs (opening_state run.opening) run.journal

      by_row : (i j : ℕ) (r : PairRow Shown) → row_of (now_of run).rows i j ≡ Some r → IsRowOf run.journal i j r → HasEarnedRow run.problem end i j
      by_row i j r e F = (
        F.found,
        ap (λ (rows : List (PairRow Shown)). row_of rows i j) (end_rows ∙ sym run_rows) ∙ (e ∙ ap Some (sym F.is)),
        (R.frame, R.framed, (row_owned (limits_of run.problem order) R.frame (ground_of run) run.journal outcomes turns F.place F.turn F.found F.there).earned),
      )

      has_row : (i j : ℕ) → IsCompared (limits_of run.problem order) (ground_of run) run.journal outcomes i j → HasEarnedRow run.problem end i j
      has_row i j C = by_end C.ends
        where
          by_end : ((r : PairRow Shown) × (row_of (now_of run).rows i j ≡ Some r)) ⊎ (slice_get outcomes C.turn ≡ Some NoMemory) → HasEarnedRow run.problem end i j
          by_end (inl (r, e)) = by_row i j r e (row_found run.journal i j r (ap (λ (rows : List (PairRow Shown)). row_of rows i j) (sym run_rows) ∙ e))
          by_end (inr e) = absurd (memory C.turn e)

pub turns_and_finish_solve : TurnsAndFinishSolve
turns_and_finish_solve problem order run end outcomes is R = subst (Solves order run end outcomes) R.problem_is (solves order run end outcomes) R
