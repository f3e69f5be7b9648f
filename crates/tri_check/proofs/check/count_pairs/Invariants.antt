use Rattle.std.proofs.Common.{◌≡◌, sum, map, length, take}
use Rattle.tri_check.proofs.check.count_pairs.Given as goal

abbrev pub invariant-loop-t : goal.invariant-loop-t
invariant-loop-t l = l.total ≡ sum (map (λ pairs. length pairs) (take l.t l.inputs))
