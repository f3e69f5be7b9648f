-- What is known of the turns without a line, with workers and without.
use Rattle.std.proofs.Common.{◌≡◌, ◌<◌, ℕ, zero, suc, List, subst, arith}
use Rattle.edge_table.specs.declared.edge.Edge.{Edge}
use Rattle.geo_orient.specs.declared.Point.{Point}
use Rattle.plan_law.specs.Plans.{Plan}
use Rattle.plan_law.specs.Books as law
use Rattle.plan_law.specs.Solving as turn
use Rattle.plan_law.specs.Solving.{AreLinesInOrder, AreLinesOfWorkers}
use Rattle.book_core.specs.Entries.{Shown}
use Rattle.book_solve.specs.Solved.{AreLinesBy}

module _ (order : turn.Order) (points : List Point) (inputs : List (List Edge)) (opening : Plan) (lines : List (law.Entry Shown)) where
  -- where no worker is asked for
  pub lines_in_order : (n : ℕ) → AreLinesBy n order points inputs opening lines → n ≡ 0 → AreLinesInOrder order points inputs opening lines
  lines_in_order n others none = subst (λ m. AreLinesBy m order points inputs opening lines) none others

  not_positive : 0 < 0 → ⊥
  not_positive less = omega arith

  pub lines_of_workers : (n : ℕ) → AreLinesBy n order points inputs opening lines → 0 < n → AreLinesOfWorkers n order points inputs opening lines
  lines_of_workers zero others less = absurd (not_positive less)
  lines_of_workers (suc n) others less = others
