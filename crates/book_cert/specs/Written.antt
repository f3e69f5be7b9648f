-- What a solver writes for an instance: a solution and its certificate.
use Rattle.std.specs.Prelude.{◌≡◌, ℕ, List, ◌++◌, length, map, sum, All}
use Rattle.edge_table.specs.declared.edge.Edge.{Edge}
use Rattle.tri_theory.specs.Rounds.{total}
use Rattle.tri_check.specs.Problems.{Problem}
use Rattle.assignment_law.specs.Assignments.{IsBest}
use Rattle.bound_law.specs.Copies.{copy_lower}
use Rattle.pair_rows.specs.declared.row.Row.{Row}
use Rattle.pair_rows.specs.Rows.{IsEarnedFor}
use Rattle.plan_law.specs.Plans.{Plan, plan_total, schedules, IsSettled}
use Rattle.plan_law.specs.Books as law
use Rattle.plan_law.specs.Books.{opening_state, lower_of, IsLegal}
use Rattle.plan_law.specs.Jobs.{pairs}
use Rattle.plan_law.specs.Solving.{turns_of, moves_at, plan_after_all, AreLines}
use Rattle.book_core.specs.Entries.{Shown, pair_row, IsJustifiedRow}
use Rattle.book_core.specs.HeldBooks.{IsBelowPlans}
use Rattle.solution_json.specs.declared.solution.Solution.{Solution}
use Rattle.cert_text.specs.declared.cert.Cert.{Cert}
use Rattle.verify_core.specs.Faults.{AreNamed, bound_by}
use Rattle.book_solve.specs.declared.order.Order.{Order}
use Rattle.book_solve.specs.Solved.{IsOpeningPlan, log_budget, turns_for, AreLinesBy}
use Rattle.book_cert.specs.Certificates.{entries_of}

-- a replayable book: the solution and the certificate are the instance's, the journal is legal from the opening, the lists are the schedules of the plan to which it leads, and the totals are those of both
pub record IsReplayable (instance : Problem) (opening end : Plan) (s : Solution) (c : Cert) : Type 0 where
  pub version : c.version ≡ 3
  pub named : AreNamed instance s c
  pub legal : IsLegal (IsJustifiedRow instance.points instance.inputs) instance.points instance.inputs (opening_state opening) (entries_of c)
  pub leads : end ≡ plan_after_all instance.points instance.inputs opening (entries_of c)
  pub lists : s.lists ≡ schedules end
  pub first_total : c.opening ≡ plan_total opening
  pub last_total : c.total ≡ plan_total end
  pub rounds : c.total ≡ total instance.weights s.lists

-- a best assignment over earned rows: each two inputs have one row, in order, each was earned with the budget, no assignment of the copies has a greater sum under them, and the bound is its half, rounded up
pub record HasBestAssignment (instance : Problem) (budget : ℕ) (c : Cert) : Type 0 where
  pub in_order : map (λ (r : Row). (r.i, r.j)) c.rows ≡ pairs (length instance.inputs)
  pub earned : All (IsEarnedFor 3 instance.points instance.inputs budget) c.rows
  pub best : IsBest (copy_lower instance.weights (lower_of (map pair_row c.rows))) (sum instance.weights) c.perm
  pub bound : c.bound ≡ bound_by instance.weights c.rows c.perm

-- each journal line is the better answer of an improver's turn on the plan before it, or, at the end, a move of settling
pub record AreAnswersThenSettling (instance : Problem) (order : Order) (opening end : Plan) (lines : List (law.Entry Shown)) (made : List (List Edge)) (c : Cert) : Type 0 where
  pub journal : entries_of c ≡ lines ++ moves_at (turns_of (turns_for instance order) instance.inputs) made
  pub answers : AreLines (turns_for instance order) instance.points instance.inputs opening lines made end

-- what is written for an instance and an order
pub record IsWritten (instance : Problem) (order : Order) (s : Solution) (c : Cert) : Type 0 where
  pub opening : Plan
  pub end : Plan
  pub lines : List (law.Entry Shown)
  pub made : List (List Edge)
  pub opens : IsOpeningPlan instance order.flips opening
  pub replayable : IsReplayable instance opening end s c
  pub settled : IsSettled instance.points end
  pub best : HasBestAssignment instance (log_budget (length instance.inputs)) c
  pub answers : AreAnswersThenSettling instance order opening end lines made c
  -- where no worker is asked for, the turns ascend, and none is missed: an improver's turn without a line has no better answer on the plan after the lines of lower turns. With workers each such turn has none on the plan after some lines, or came too late with it, as few do
  pub others : AreLinesBy order.workers (turns_for instance order) instance.points instance.inputs opening lines
  -- no plan of the instance has a total below the bound
  pub below : IsBelowPlans instance c.bound
