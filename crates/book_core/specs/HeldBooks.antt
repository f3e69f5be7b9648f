-- What is seen of a book, and what holds of its parts.
use Rattle.std.specs.Prelude.{◌≡◌, ℕ, ◌≤◌, List, [], ◌∷◌, ◌++◌, length, sum}
use Rattle.edge_table.specs.declared.edge.Edge.{Edge}
use Rattle.tri_theory.specs.Rounds.{IsPlan, total}
use Rattle.bound_law.specs.Bounds.{input_at}
use Rattle.tri_check.specs.Problems.{Problem, IsProblem}
use Rattle.plan_law.specs.Plans.{Plan, plan_total}
use Rattle.plan_law.specs.Books as law
use Rattle.plan_law.specs.Books.{State, MayBeOffered, IsBook, state_of, front, bound, row_of}
use Rattle.plan_law.specs.Worlds as worlds
use Rattle.plan_law.specs.Worlds.{IsStale, IsAccepted, IsUnfit, lower_table}
use Rattle.plan_core.specs.declared.fault.SwapFault.{SwapFault}
use Rattle.plan_core.specs.HeldPlans.{HeldPlan}
use Rattle.pair_rows.specs.Rows.{IsTrue}
use Rattle.book_core.specs.declared.entry.Entry.{Entry}
use Rattle.book_core.specs.declared.entry.Entry.TheVariants.{Swap, Row}
use Rattle.book_core.specs.declared.refusal.Refusal.{Refusal}
use Rattle.book_core.specs.declared.refusal.Refusal.TheVariants.{Stale, BadMove, BadSwap, NotBetter, Taken, NoRise, OutOfMemory}
use Rattle.book_core.specs.Entries.{Shown, line_of, lines_of, IsJustifiedRow}
use Rattle.book_core.specs.PlanSteps.{IsAstray}

-- an instance, the plan with which the book was opened, and the journal
pub record HeldBook : Type 0 where
  pub problem : Problem
  pub opening : Plan
  pub journal : List Entry

abbrev pub book_of : HeldBook → law.Book Shown
book_of b = record { opening = b.opening; journal = lines_of b.journal }

-- the state after the whole journal
abbrev pub now_of : HeldBook → State Shown
now_of b = state_of b.problem.points b.problem.inputs (book_of b)

abbrev pub front_of : HeldBook → ℕ
front_of b = front (lines_of b.journal)

-- what never changes of a book: its opening plan with the instance
abbrev pub ground_of : HeldBook → HeldPlan
ground_of b = record { problem = b.problem; plan = b.opening; spare = 0 }

-- an entry that may be offered to a book of this instance
abbrev pub IsOffer : Problem → Entry → Type 0
IsOffer problem entry = MayBeOffered (IsJustifiedRow problem.points problem.inputs) (length problem.inputs) (sum problem.weights) (line_of entry)

-- no plan of the instance has a total below n
abbrev pub IsBelowPlans : Problem → ℕ → Type 0
IsBelowPlans problem n = (centre : List Edge) (schedules : List (List (List Edge))) → IsPlan problem.points problem.inputs centre schedules → n ≤ total problem.weights schedules

-- what a row says of its two inputs is true
abbrev pub SaysTrue : Problem → Entry → Type 0
SaysTrue problem (Row turn r) = IsTrue problem.points problem.inputs r
SaysTrue problem _ = Unit {0}

-- a book as it is opened
abbrev pub opened : Problem → Plan → HeldBook
opened problem plan = record { problem = problem; opening = plan; journal = [] }

-- the entry stands at the end of the journal
abbrev pub with_line : HeldBook → Entry → HeldBook
with_line b entry = record { problem = b.problem; opening = b.opening; journal = b.journal ++ entry ∷ [] }

abbrev pub Accepts : HeldBook → ℕ → Entry → ℕ → ℕ → Type 0
Accepts b base entry place saved = IsAccepted b.problem.points b.problem.inputs (book_of b) base (line_of entry) place saved

abbrev pub Stales : HeldBook → ℕ → Entry → Type 0
Stales b base entry = IsStale (book_of b) base (line_of entry)

abbrev pub Unfit : HeldBook → Entry → worlds.Refusal → Type 0
Unfit b entry refusal = IsUnfit b.problem.points b.problem.inputs (now_of b) (line_of entry) refusal

-- the rounds of a swap have a fault, or end elsewhere
abbrev pub SwapsAstray : HeldBook → Entry → SwapFault → Type 0
SwapsAstray b (Swap turn input rounds) fault = IsAstray b.problem.points (input_at b.problem.inputs input) rounds (now_of b).plan.centre fault
SwapsAstray b _ fault = ⊥

-- why the book doesn't take an entry that was built at the front `base`
abbrev pub Refuses : HeldBook → ℕ → Entry → Refusal → Type 0
Refuses b base entry (Stale said is) = Stales b base entry × (said ≡ base) × (is ≡ front_of b)
Refuses b base entry (BadMove place) = (¬ Stales b base entry) × Unfit b entry (worlds.BadMove place)
Refuses b base entry (BadSwap fault) = (¬ Stales b base entry) × SwapsAstray b entry fault
Refuses b base entry (NotBetter held given) = (¬ Stales b base entry) × Unfit b entry (worlds.NotBetter held given)
Refuses b base entry (Taken low high) = Unfit b entry (worlds.Taken low high)
Refuses b base entry (NoRise held given) = Unfit b entry (worlds.NoRise held given)
Refuses b base entry OutOfMemory = Unit {0}

-- the parts of a book are the state after its journal, which is legal
pub record IsHeldBook (b : HeldBook) (plan : Plan) (table : List (List ℕ)) (perm : List ℕ) : Type 0 where
  pub is_problem : IsProblem b.problem.points b.problem.inputs
  pub weighed : b.opening.weights ≡ b.problem.weights
  pub is_book : IsBook (IsJustifiedRow b.problem.points b.problem.inputs) b.problem.points b.problem.inputs (book_of b)
  pub plan_is : plan ≡ (now_of b).plan
  pub table_is : table ≡ lower_table b.problem.weights (now_of b).rows
  pub perm_is : perm ≡ (now_of b).assignment

-- and so are its numbers
pub record AreNumbers (b : HeldBook) (opened front limit : ℕ) : Type 0 where
  pub opened_is : opened ≡ plan_total b.opening
  pub front_is : front ≡ front_of b
  pub limit_is : limit ≡ bound (now_of b)
