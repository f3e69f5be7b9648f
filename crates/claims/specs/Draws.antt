-- What contracts see of a counter of turns and of its seats, and which numbers were drawn.
use Rattle.std.specs.Prelude.{◌≡◌, ℕ, List, length, cond, not, nat_lt, ◌==◌, sum_by, count_by}
use Rattle.atomic_table.specs.Seated.{TableId}

-- which counter it is, how many of its numbers are turns, and how many seats were made
pub record CounterView : Type 0 where
  pub table : TableId
  pub turns : ℕ
  pub seats : ℕ

-- of which counter it is, and the numbers that it drew, in order
pub record SeatView : Type 0 where
  pub table : TableId
  pub numbers : List ℕ

abbrev pub IsSeatOf : CounterView → SeatView → Type 0
IsSeatOf counter seat = seat.table ≡ counter.table

-- how often the number stands in the list
abbrev pub times : ℕ → List ℕ → ℕ
times x numbers = count_by (λ y. y == x) numbers

-- how many numbers of the list are late: they are no turns, since there are only so many
abbrev pub late : ℕ → List ℕ → ℕ
late turns numbers = count_by (λ y. not (nat_lt y turns)) numbers

-- 1 where the number is below n, and else 0
abbrev pub once_below : ℕ → ℕ → ℕ
once_below n x = cond (nat_lt x n) 1 0

-- how many numbers the seats drew together, and how many of them are late
abbrev pub draws_of : List SeatView → ℕ
draws_of seats = sum_by (λ s. length s.numbers) seats

abbrev pub late_draws : ℕ → List SeatView → ℕ
late_draws turns seats = sum_by (λ s. late turns s.numbers) seats

-- each number below n stands in the seats' lists exactly once, and no other number stands there
abbrev pub EachOnceBelow : ℕ → List SeatView → Type 0
EachOnceBelow n seats = (x : ℕ) → sum_by (λ s. times x s.numbers) seats ≡ once_below n x
