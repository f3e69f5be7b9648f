use Rattle.std.proofs.Common.{◌≡◌, ◌+◌, List, [], length, All}
use mathlib.Core.List.{IsPrefix}
use Rattle.std.specs.Prelude.{sum_by}
use Rattle.vcell.specs.Steps.{BeginsAll}
use Rattle.vcell.specs.declared.lock_rule.Stage.TheVariants.{Idle}
use Rattle.vcell.proofs.cell.joined.Given as goal

abbrev pub invariant-loop-other : goal.invariant-loop-other
invariant-loop-other g l =
    (l.kept.table_id ≡ l.shared.table_id)
    × (l.kept.me.1 ≡ [])
    × (l.kept.me.0.stage ≡ Idle)
    × All (λ p. p.table ≡ l.shared.table_id) l.passes.items
    × (l.kept.me.0.seats + length l.passes.items ≡ length l.fn.passes.items)
    × (l.kept.me.0.made + sum_by (λ p. p.made) l.passes.items ≡ sum_by (λ p. p.made) l.fn.passes.items)
    × ((xs : List g.row.V-Entry.Denot) → BeginsAll g.V.Grows.entries xs l.kept.me.0 → All (λ p. IsPrefix p.seen xs) l.passes.items → All (λ p. IsPrefix p.seen xs) l.fn.passes.items)

abbrev pub decreases-loop-other : goal.decreases-loop-other
decreases-loop-other g l = length l.passes.items
