use Rattle.std.proofs.Common.{◌≤◌, take}
use Rattle.std.specs.List.{All}
use Rattle.pruned_cnf.proofs.query.most.Given as goal

abbrev pub invariant-loop-i : goal.invariant-loop-i
invariant-loop-i l = All (λ d. d ≤ l.most) (take l.i l.digits) × (l.most ≤ 32)
