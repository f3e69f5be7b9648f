-- The rule of the counter's table, which holds between any two steps, and what each step does to the views of the seats.
use Rattle.std.specs.Prelude.{◌≡◌, ℕ, ◌+◌, ◌-◌, ◌≤◌, List, [], ◌∷◌, ◌++◌, length, sum_by}
use mathlib.Core.Option.{some}
use lib.ListN.{get_elem?}
use Rattle.atomic_table.specs.Table.{State, Me, Step}
use Rattle.claims.specs.declared.claims_rule.View.{View}
use Rattle.claims.specs.declared.claims_rule.Extent.{Extent}
use Rattle.claims.specs.Draws.{times, late, once_below}

abbrev pub seat_view : ℕ → List ℕ → View
seat_view seats numbers = record { seats = seats; numbers = numbers }

-- A view has no more late numbers than seats: who drew a late number draws no more. A view that is spent has no number
abbrev pub IsInBounds : ℕ → View → Type 0
IsInBounds turns v = (late turns v.numbers ≤ v.seats) × (v.seats ≡ 0 → v.numbers ≡ [])

pub record Keeps (k : Extent) (s : State (Unit {0}) View) : Type 0 where
  pub word : ℕ
  pub words : s.words ≡ word ∷ []
  pub few : (k.seats ≤ 16) × (k.turns ≤ 2000000)
  -- the seats for which the views stand are those of `make`
  pub seats : sum_by (λ (v : View). v.seats) s.views ≡ k.seats
  -- each number below the word stands in one view's list, once
  pub once : (x : ℕ) → sum_by (λ (v : View). times x v.numbers) s.views ≡ once_below word x
  pub count : sum_by (λ (v : View). length v.numbers) s.views ≡ word
  pub over : sum_by (λ (v : View). late k.turns v.numbers) s.views ≡ word - k.turns
  pub bounds : (seat : ℕ) (v : View) → get_elem? s.views seat ≡ some v → IsInBounds k.turns v

-- the first seat stands for all
abbrev pub first_view : Extent → View
first_view k = seat_view k.seats []

-- a draw puts the number found at the end of the list
abbrev pub Draws : Step (Unit {0}) → Me (Unit {0}) View → ℕ → Me (Unit {0}) View → Type 0
Draws st m n m' = (m'.0 ≡ seat_view m.0.seats (m.0.numbers ++ n ∷ [])) × (m'.1 ≡ m.1)

-- a split leaves a seat with one seat less, which the new one has
abbrev pub without_one_seat : View → View
without_one_seat v = seat_view (v.seats - 1) v.numbers

abbrev pub of_one_seat : View → View
of_one_seat v = seat_view 1 []

-- a join puts the two lists together
abbrev pub of_both : View → View → View
of_both v w = seat_view (v.seats + w.seats) (v.numbers ++ w.numbers)

abbrev pub spent : View
spent = seat_view 0 []
