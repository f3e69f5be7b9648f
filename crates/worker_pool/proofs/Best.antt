-- What is best under a table of lower bounds has the greatest bound under the rows.
use Rattle.std.proofs.Common.{◌≡◌, ℕ, ◌+◌, ◌/◌, ◌≤◌, List, length, sym, subst, arith}
use Rattle.std.specs.Prelude.{sum}
use Rattle.assignment_law.specs.Assignments.{IsAssignment, assignment_sum, HasGreatestSum, IsBest}
use Rattle.bound_law.specs.Copies.{copy_lower}
use Rattle.match_bound.specs.Tables.{weight}
use Rattle.plan_law.specs.Books.{PairRow, lower_of}
use Rattle.plan_law.specs.Worlds.{lower_table}
use Rattle.book_core.specs.Entries.{Shown}
use Rattle.book_core.proofs.Tables.{bound_same, length_table}

pub best_of : (ws : List ℕ) (rows : List (PairRow Shown)) (perm : List ℕ) → HasGreatestSum (weight (lower_table ws rows)) (length (lower_table ws rows)) perm → IsBest (copy_lower ws (lower_of rows)) (sum ws) perm
best_of ws rows perm h = by_count (length (lower_table ws rows)) (length_table ws rows) h
  where
    halves : (s t : ℕ) → s ≤ t → (s + 1) / 2 ≤ (t + 1) / 2
    halves s t l = omega (arith, l)

    by_count : (k : ℕ) → k ≡ sum ws → HasGreatestSum (weight (lower_table ws rows)) k perm → IsBest (copy_lower ws (lower_of rows)) (sum ws) perm
    by_count k e g =
        let A : IsAssignment (sum ws) perm = subst (λ (m : ℕ). IsAssignment m perm) e g.0 in (
          A,
          λ other B. let l = halves (assignment_sum (weight (lower_table ws rows)) other) (assignment_sum (weight (lower_table ws rows)) perm) (g.1 other (subst (λ (m : ℕ). IsAssignment m other) (sym e) B)) in
              let x = bound_same ws rows other B in let y = bound_same ws rows perm A in omega (arith, l, x, y),
        )
