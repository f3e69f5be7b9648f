use Rattle.std.proofs.Common.{◌≡◌, ◌+◌, [], length, All}
use Rattle.claims.proofs.counter.Claims.make.Given as goal

abbrev pub invariant-loop : goal.invariant-loop
invariant-loop l =
    (length l.list.items + 1 ≡ l.counter)
    × (l.first.me.0.seats + l.counter ≡ l.fn.seats + 1)
    × (l.first.me.0.numbers ≡ [])
    × (l.first.me.1 ≡ [])
    × (l.first.table_id ≡ l.table.shared.table_id)
    × (l.fn.seats ≡ l.list.spare + length l.list.items)
    × All (λ s. (s.table ≡ l.table.shared.table_id) × (s.numbers ≡ [])) l.list.items
