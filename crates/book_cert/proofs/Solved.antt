-- The solution and the certificate of a solved book are what is written.
use Rattle.std.proofs.Common.{◌≡◌, ◌∙◌, List, ◌++◌, length, map, sym, ap, ap₂, subst}
use Rattle.std.proofs.lemmas.List.{length-map}
use Rattle.std.proofs.lemmas.Slice.Zip.{AllZip-long}
use Rattle.geo_orient.specs.declared.Point.{Point}
use Rattle.edge_table.specs.declared.edge.Edge.{Edge}
use Rattle.tri_theory.specs.Rounds.{total}
use Rattle.tri_check.specs.Problems.{Problem}
use Rattle.flip_list_law.specs.FlipLists.{IsFlipList, grouped}
use Rattle.pair_rows.specs.Rows.{IsEarnedFor}
use Rattle.plan_law.specs.Plans.{Plan}
use Rattle.plan_law.specs.Books.{lower_of, opening_state, IsLegal}
use Rattle.plan_law.specs.Solving.{turns_of, moves_at, plan_after_all}
use Rattle.plan_law.proofs.Proved.{plans_have_schedules, lines_are_legal}
use Rattle.book_core.specs.Entries.{Shown, pair_row, lines_of, IsJustifiedRow}
use Rattle.book_core.specs.HeldBooks.{HeldBook, now_of, IsBelowPlans}
use Rattle.solution_json.specs.declared.solution.Solution.{Solution}
use Rattle.cert_text.specs.declared.cert.Cert.{Cert}
use Rattle.book_solve.specs.declared.order.Order.{Order}
use Rattle.book_solve.specs.Solved.{log_budget, turns_for, IsSolvedBook}
use Rattle.book_cert.specs.Certificates.{entries_of, IsSolutionOf, IsCertificateOf}
use Rattle.book_cert.specs.Written.{IsReplayable, HasBestAssignment, IsWritten}
use Rattle.book_cert.specs.Laws.{IsLegalBook, SolvedBooksAreWritten}
use Rattle.book_cert.proofs.Books.{bounds_plans, is_instance, is_state, weights_kept, ordered}
use Rattle.book_cert.proofs.Journals.{plan_by_steps}
use Rattle.book_cert.proofs.ByPair.{in_pairs, same_lower, rows_in_order, rows_have}
use Rattle.book_cert.proofs.Bests.{same_best, same_bound}

module _ (b : HeldBook) (L : IsLegalBook b) (s : Solution) (c : Cert) (S : IsSolutionOf b s) (C : IsCertificateOf b c) where
  abbrev points : List Point
  points = b.problem.points

  abbrev inputs : List (List Edge)
  inputs = b.problem.inputs

  abbrev plan : Plan
  plan = (now_of b).plan

  as_many : length s.lists ≡ length inputs
  as_many = ap (λ (l : List (List (List Edge))). length l) S.lists ∙ (length-map plan.lists grouped ∙ AllZip-long (λ input flips. IsFlipList points input flips plan.centre) inputs plan.lists (is_state b L).is_plan.lead)

  total_is : c.total ≡ total b.problem.weights s.lists
  total_is = C.total ∙ (sym (plans_have_schedules points inputs plan (is_instance b L) (is_state b L).is_plan).1 ∙ ap₂ total (weights_kept b L) (sym S.lists))

  lower_is : lower_of (now_of b).rows ≡ lower_of (map pair_row c.rows)
  lower_is = sym (same_lower (length inputs) (now_of b).rows (ordered b L)) ∙ ap lower_of (sym C.rows)

  module _ (order : Order) (H : IsSolvedBook b.problem order b) where
    journal_is : entries_of c ≡ H.lines ++ moves_at (turns_of (turns_for b.problem order) inputs) H.made
    journal_is = C.journal ∙ H.journal

    replayable : IsReplayable b.problem b.opening plan s c
    replayable = record {
      version = C.version;
      named = record { solution_uid = S.uid; certificate_uid = C.uid; lists = as_many; inputs = C.inputs; copies = C.copies };
      legal = subst (IsLegal (IsJustifiedRow points inputs) points inputs (opening_state b.opening)) (sym journal_is)
          (lines_are_legal Shown (λ of_points of_inputs r. IsJustifiedRow of_points of_inputs r) (turns_for b.problem order) points inputs b.opening plan H.lines H.made (is_instance b L) H.opens.is_plan H.answers);
      leads = plan_by_steps points inputs (opening_state b.opening) (lines_of b.journal) ∙ ap (plan_after_all points inputs b.opening) (sym C.journal);
      lists = S.lists;
      first_total = C.opening;
      last_total = C.total;
      rounds = total_is;
    }

    has_best : HasBestAssignment b.problem (log_budget (length inputs)) c
    has_best = record {
      in_order = rows_in_order (length inputs) (now_of b).rows c.rows C.rows (λ p h. let o = in_pairs (length inputs) p h in let f = H.rows p.0 p.1 o.0 o.1 in (pair_row f.0, f.1));
      earned = rows_have (length inputs) (now_of b).rows c.rows C.rows (IsEarnedFor 3 points inputs (log_budget (length inputs))) H.rows;
      best = same_best plan.weights b.problem.weights (lower_of (now_of b).rows) (lower_of (map pair_row c.rows)) (now_of b).assignment c.perm (weights_kept b L) lower_is (sym C.perm) H.best;
      bound = C.bound ∙ same_bound plan.weights b.problem.weights (lower_of (now_of b).rows) (lower_of (map pair_row c.rows)) (now_of b).assignment c.perm (weights_kept b L) lower_is (sym C.perm);
    }

    pub written : IsWritten b.problem order s c
    written = record {
      opening = b.opening;
      end = plan;
      lines = H.lines;
      made = H.made;
      opens = H.opens;
      replayable = replayable;
      settled = H.settled;
      best = has_best;
      answers = record { journal = journal_is; answers = H.answers };
      others = H.others;
      below = subst (IsBelowPlans b.problem) (sym C.bound) (bounds_plans b L);
    }

pub solved_books_are_written : SolvedBooksAreWritten
solved_books_are_written problem order b s c L H S C =
    subst (λ (p : Problem). IsWritten p order s c) H.problem_is (written b L s c S C order (subst (λ (p : Problem). IsSolvedBook p order b) (sym H.problem_is) H))
