use Rattle.std.proofs.Common.{◌≡◌, ◌<◌, All}
use Rattle.claims.proofs.tests.two_turns_are_drawn_and_the_third_draw_is_late.Given as goal

abbrev pub invariant-loop : goal.invariant-loop
invariant-loop g l = (l.seat.table ≡ l.claims-inside.table.shared.table_id) × All (λ n. n < l.claims-inside.table.shared.key.turns) l.seat.numbers
