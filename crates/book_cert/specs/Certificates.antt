-- The solution that the plan of a book is, and the certificate that shows what the book holds.
use Rattle.std.specs.Prelude.{◌≡◌, ℕ, List, [], ◌∷◌, Option, Some, None, length, map, flat_map, sum}
use Rattle.plan_law.specs.Plans.{plan_total, schedules}
use Rattle.plan_law.specs.Books as law
use Rattle.plan_law.specs.Books.{PairRow, row_of, bound}
use Rattle.plan_law.specs.Jobs.{pairs}
use Rattle.book_core.specs.Entries.{Shown, pair_row}
use Rattle.book_core.specs.HeldBooks.{HeldBook, now_of}
use Rattle.solution_json.specs.declared.solution.Solution.{Solution}
use Rattle.cert_text.specs.declared.journal.JournalLine.{JournalLine}
use Rattle.cert_text.specs.declared.journal.JournalLine.TheVariants.{Move, Swap}
use Rattle.cert_text.specs.declared.cert.Cert.{Cert}
use Rattle.book_solve.specs.Solved.{plan_lines}

-- the lines of a certificate's journal, as entries
abbrev pub entry_of : JournalLine → law.Entry Shown
entry_of (Move turn edges) = law.Move turn edges
entry_of (Swap turn input rounds) = law.Swap turn input rounds

abbrev pub entries_of : Cert → List (law.Entry Shown)
entries_of c = map entry_of c.journal

-- one row, or none
abbrev pub if_some : Option (PairRow Shown) → List (PairRow Shown)
if_some None = []
if_some (Some row) = row ∷ []

-- the rows of the pairs of m inputs, in the order of the pairs
abbrev pub rows_by_pair : ℕ → List (PairRow Shown) → List (PairRow Shown)
rows_by_pair m rows = flat_map (λ pair. if_some (row_of rows pair.0 pair.1)) (pairs m)

-- the lists of the solution are the schedules of the book's plan
pub record IsSolutionOf (b : HeldBook) (s : Solution) : Type 0 where
  pub uid : s.uid ≡ b.problem.uid
  pub lists : s.lists ≡ schedules (now_of b).plan

-- the certificate has the totals of the opening and of the plan, the bound, the moves and swaps of the journal, the rows in the order of their pairs, and the assignment
pub record IsCertificateOf (b : HeldBook) (c : Cert) : Type 0 where
  pub version : c.version ≡ 3
  pub uid : c.uid ≡ b.problem.uid
  pub inputs : c.inputs ≡ length b.problem.inputs
  pub copies : c.copies ≡ sum b.problem.weights
  pub opening : c.opening ≡ plan_total b.opening
  pub total : c.total ≡ plan_total (now_of b).plan
  pub bound : c.bound ≡ bound (now_of b)
  pub journal : entries_of c ≡ plan_lines b.journal
  pub rows : map pair_row c.rows ≡ rows_by_pair (length b.problem.inputs) (now_of b).rows
  pub perm : c.perm ≡ (now_of b).assignment
