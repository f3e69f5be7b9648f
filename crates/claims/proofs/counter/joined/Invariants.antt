use Rattle.std.proofs.Common.{◌≡◌, ℕ, ◌+◌, [], length, All}
use Rattle.std.specs.Prelude.{sum_by}
use Rattle.claims.specs.Draws.{times, late, draws_of, late_draws}
use Rattle.claims.proofs.counter.joined.Given as goal

abbrev pub invariant-loop-other : goal.invariant-loop-other
invariant-loop-other l =
    (l.kept.table_id ≡ l.shared.table_id)
    × (l.kept.me.1 ≡ [])
    × All (λ s. s.table ≡ l.shared.table_id) l.seats.items
    × (l.kept.me.0.seats + length l.seats.items ≡ length l.fn.seats.items)
    × (length l.kept.me.0.numbers + draws_of l.seats.items ≡ draws_of l.fn.seats.items)
    × ((n : ℕ) → late n l.kept.me.0.numbers + late_draws n l.seats.items ≡ late_draws n l.fn.seats.items)
    × ((x : ℕ) → times x l.kept.me.0.numbers + sum_by (λ s. times x s.numbers) l.seats.items ≡ sum_by (λ s. times x s.numbers) l.fn.seats.items)

abbrev pub decreases-loop-other : goal.decreases-loop-other
decreases-loop-other l = length l.seats.items
