-- Which turns a list has.
use Rattle.std.specs.Prelude.{ℕ, ◌<◌, List, All, Contains, sum_by}
use mathlib.Core.List.{IsPrefix}
use Rattle.vcell.specs.Passes.{PassView}
use Rattle.claims.specs.Draws.{SeatView, times}

-- the list has each turn among the numbers
abbrev pub HasTurnsOf : ℕ → List ℕ → List ℕ → Type 0
HasTurnsOf turns numbers list = (x : ℕ) → x < turns → 0 < times x numbers → Contains list x

-- whatever list begins with all that the passes have seen has each turn that the seats drew
abbrev pub HasTurns : ℕ → List SeatView → List (PassView ℕ ℕ) → Type 0
HasTurns turns seats passes = (list : List ℕ) → All (λ p. IsPrefix p.seen list) passes → (x : ℕ) → x < turns → 0 < sum_by (λ s. times x s.numbers) seats → Contains list x
