use Rattle.std.proofs.Common.{◌-◌, ◌≤◌}
use Rattle.round_pack.specs.Groups.{AreEmptySets}
use Rattle.round_pack.proofs.group.empty_sets.Given as goal

abbrev pub invariant-loop-left : goal.invariant-loop-left
invariant-loop-left l = record { within : l.left ≤ l.count; empty : AreEmptySets l.sets.items (l.count - l.left) }

abbrev pub decreases-loop-left : goal.decreases-loop-left
decreases-loop-left l = l.left
