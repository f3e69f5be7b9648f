use Rattle.std.proofs.Common.{◌≡◌, ◌≤◌, ◌*◌, take}
use Rattle.std.specs.List.{sum_by}
use Rattle.pruned_cnf.specs.Sizes.{size_of_flip}
use Rattle.pruned_cnf.proofs.sizing.flips_at.Given as goal

abbrev pub invariant-loop-n : goal.invariant-loop-n
invariant-loop-n l = (l.count ≡ sum_by (size_of_flip l.query l.t) (take l.n l.query.frame.flips)) × (l.count ≤ l.n * 12)
