use Rattle.std.proofs.Common.{◌≡◌, replicate}
use Rattle.match_bound.proofs.table.Weights.make.Given as goal

abbrev pub invariant-loop : goal.invariant-loop
invariant-loop l = (l.rows.items ≡ replicate l.counter (replicate l.m 0))
