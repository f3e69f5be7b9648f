use Rattle.std.proofs.Common.{◌≡◌, ◌≤◌, ◌*◌}
use Rattle.std.specs.List.{sum_by, range_with_len}
use Rattle.pruned_cnf.specs.Sizes.{crossing_count}
use Rattle.pruned_cnf.proofs.sizing.crossings_from.Given as goal

abbrev pub invariant-loop-i : goal.invariant-loop-i
invariant-loop-i l = (l.count ≡ sum_by (crossing_count l.query) (range_with_len l.t l.i)) × (l.count ≤ l.i * 16_777_216)
