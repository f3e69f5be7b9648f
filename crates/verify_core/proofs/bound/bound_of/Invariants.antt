use Rattle.std.proofs.Common.{◌≡◌, ◌≤◌, ◌*◌, map}
use Rattle.bound_law.specs.Copies.{copy_lower}
use Rattle.plan_law.specs.Books.{lower_of}
use Rattle.match_bound.proofs.Sums.{sum_before}
use Rattle.verify_core.specs.Faults.{pair_row}
use Rattle.verify_core.proofs.bound.bound_of.Given as goal

abbrev pub invariant-loop-c : goal.invariant-loop-c
invariant-loop-c l = record {
  sum : l.sum ≡ sum_before (copy_lower l.inst.weights (lower_of (map pair_row l.rows))) l.perm l.c;
  small : l.sum ≤ l.c * 4294967295;
}
