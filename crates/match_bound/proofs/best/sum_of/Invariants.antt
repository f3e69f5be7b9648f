use Rattle.std.proofs.Common.{◌≡◌, ◌≤◌, ◌*◌}
use Rattle.match_bound.specs.Tables.{weight}
use Rattle.match_bound.proofs.Sums.{sum_before}
use Rattle.match_bound.proofs.best.sum_of.Given as goal

abbrev pub invariant-loop-i : goal.invariant-loop-i
invariant-loop-i l = record {
  sum : l.sum ≡ sum_before (weight l.w) l.perm l.i;
  small : l.sum ≤ l.i * 4294967295;
}
