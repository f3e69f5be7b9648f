-- What a solver is asked for, and the book that it leaves.
use Rattle.std.specs.Prelude.{◌≡◌, ℕ, zero, suc, ◌<◌, ◌/◌, min, max, Some, List, ◌++◌, length, map, filter}
use Rattle.edge_table.specs.declared.edge.Edge.{Edge}
use Rattle.geo_orient.specs.declared.Point.{Point}
use Rattle.tri_check.specs.Problems.{Problem}
use Rattle.flip_list_law.specs.FlipLists.{flipped_edges}
use Rattle.lawson_law.specs.LawsonRuns.{IsOpening}
use Rattle.lawson_start.specs.Starts.{AreWithin}
use Rattle.pair_rows.specs.declared.row.Row as row
use Rattle.pair_rows.specs.Rows.{IsEarnedFor}
use Rattle.plan_law.specs.Plans.{Plan, IsPlanOf, IsSettled}
use Rattle.plan_law.specs.Books as law
use Rattle.plan_law.specs.Books.{is_plan_entry, row_of}
use Rattle.plan_law.specs.Jobs.{pair_count}
use Rattle.plan_law.specs.Solving as turn
use Rattle.plan_law.specs.Solving.{turns_of, moves_at, AreLines, AreLinesInOrder, AreLinesOfWorkers}
use Rattle.book_core.specs.declared.entry.Entry.{Entry}
use Rattle.book_core.specs.Entries.{Shown, pair_row, lines_of}
use Rattle.book_core.specs.HeldBooks.{HeldBook, now_of}
use Rattle.worker_pool.specs.declared.limits.Limits.{Limits}
use Rattle.worker_pool.specs.Jobs.{order_of}
use Rattle.worker_pool.specs.Outcomes.{IsBestAt}
use Rattle.book_solve.specs.declared.order.Order.{Order}

-- the opening of an instance as a plan: the list of each input is its run, and no run has more flips than the budget
pub record IsOpeningPlan (problem : Problem) (budget : ℕ) (plan : Plan) : Type 0 where
  pub is_plan : IsPlanOf problem.points problem.inputs plan
  pub weights : plan.weights ≡ problem.weights
  pub runs : IsOpening problem.points problem.inputs (map flipped_edges plan.lists) plan.centre
  pub within : AreWithin problem.points problem.inputs budget

-- what the log of one search may cost, where there are m inputs: 50,000, or less where the searches of all pairs together would pass 20,000,000
abbrev pub log_budget : ℕ → ℕ
log_budget m = min 50_000 (20_000_000 / max 1 (pair_count m))

-- the limits of the turns, and the turns as the laws of runs know them
abbrev pub limits_of : Problem → Order → Limits
limits_of problem order = record { seed = order.seed; turns = order.turns; budget = log_budget (length problem.inputs) }

abbrev pub turns_for : Problem → Order → turn.Order
turns_for problem order = order_of (limits_of problem order)

-- the moves and swaps of a journal
abbrev pub plan_lines : List Entry → List (law.Entry Shown)
plan_lines journal = filter is_plan_entry (lines_of journal)

-- two inputs have a row in the book, which was earned for certificates of version 3
abbrev pub HasEarnedRow : Problem → HeldBook → ℕ → ℕ → Type 0
HasEarnedRow problem b i j = (found : row.Row) × (row_of (now_of b).rows i j ≡ Some (pair_row found)) × IsEarnedFor 3 problem.points problem.inputs (log_budget (length problem.inputs)) found

-- where no worker is asked for, the turns of the lines ascend, and none is missed; with workers, few turns without a line came too late
abbrev pub AreLinesBy : ℕ → turn.Order → List Point → List (List Edge) → Plan → List (law.Entry Shown) → Type 0
AreLinesBy zero order points inputs opening lines = AreLinesInOrder order points inputs opening lines
AreLinesBy (suc n) order points inputs opening lines = AreLinesOfWorkers (suc n) order points inputs opening lines

-- the book of an instance after all turns and after its finish. Each of its moves and swaps is the better answer of an improver's turn on the plan before it, or, at the end, a move of settling. An improver's turn without one had no better answer on the plan that it saw, which is on one thread the plan that the lower turns left, or, with workers, came too late with it, as few do. The plan is settled, each two inputs have an earned row, and no assignment has a greater bound
pub record IsSolvedBook (problem : Problem) (order : Order) (b : HeldBook) : Type 0 where
  pub problem_is : b.problem ≡ problem
  pub opens : IsOpeningPlan problem order.flips b.opening
  pub lines : List (law.Entry Shown)
  pub made : List (List Edge)
  pub journal : plan_lines b.journal ≡ lines ++ moves_at (turns_of (turns_for problem order) problem.inputs) made
  pub answers : AreLines (turns_for problem order) problem.points problem.inputs b.opening lines made (now_of b).plan
  pub others : AreLinesBy order.workers (turns_for problem order) problem.points problem.inputs b.opening lines
  pub settled : IsSettled problem.points (now_of b).plan
  pub rows : (i j : ℕ) → i < j → j < length problem.inputs → HasEarnedRow problem b i j
  pub best : IsBestAt (now_of b) (now_of b).assignment
