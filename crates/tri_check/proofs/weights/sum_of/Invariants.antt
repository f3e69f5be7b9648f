use Rattle.std.proofs.Common.{◌≡◌, ◌*◌, ◌≤◌, sum, take}
use Rattle.tri_check.proofs.weights.sum_of.Given as goal

abbrev pub invariant-loop-w : goal.invariant-loop-w
invariant-loop-w l = (l.total ≡ sum (take l.w-index l.numbers)) × (l.total ≤ 16 * l.w-index)
