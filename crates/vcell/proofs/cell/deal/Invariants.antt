use Rattle.std.proofs.Common.{◌≡◌, ◌+◌, [], length, All}
use Rattle.vcell.specs.declared.lock_rule.Stage.TheVariants.{Idle}
use Rattle.vcell.specs.Steps.{IsNewPass}
use Rattle.vcell.proofs.cell.deal.Given as goal

abbrev pub invariant-loop : goal.invariant-loop
invariant-loop g l =
    (length l.list.items + 1 ≡ l.counter)
    × (l.first.me.0.seats + l.counter ≡ l.fn.seats + 1)
    × (l.first.me.0.made ≡ 0)
    × (l.first.me.0.last ≡ l.initial.first.me.0.last)
    × (l.first.me.0.stage ≡ Idle)
    × (l.first.me.1 ≡ [])
    × (l.first.table_id ≡ l.shared.table_id)
    × (l.fn.seats ≡ l.list.spare + length l.list.items)
    × All (IsNewPass g.V.Grows.entries g.V.Grows.ground l.shared.table_id l.initial.first.me.0.last) l.list.items
