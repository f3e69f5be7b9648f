use Rattle.std.proofs.Common.{◌≡◌, ◌≤◌, length, take}
use Rattle.std.specs.List.{filter}
use Rattle.pruned_cnf.specs.Sizes.{is_live_pair}
use Rattle.pruned_cnf.proofs.sizing.crossings_at.Given as goal

abbrev pub invariant-loop-m : goal.invariant-loop-m
invariant-loop-m l = (l.count ≡ length (filter (is_live_pair l.query l.t) (take l.m l.query.frame.crossings))) × (l.count ≤ l.m)
