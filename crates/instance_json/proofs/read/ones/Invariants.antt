use Rattle.std.proofs.Common.{◌≡◌, replicate, pos}
use Rattle.instance_json.proofs.read.ones.Given as goal

-- so many ones so far
abbrev pub invariant-loop : goal.invariant-loop
invariant-loop l = l.ones ≡ replicate l.counter (pos 1)
