use Rattle.std.proofs.Common.{◌≡◌, ◌++◌, map, take}
use Rattle.sweep_law.specs.Boundaries.{pairs_with}
use Rattle.gen_instance.specs.Generated.{raw_pair}
use Rattle.gen_instance.proofs.sweep.list_pairs.Given as goal

-- the pairs so far
abbrev pub invariant-loop-r : goal.invariant-loop-r
invariant-loop-r l = l.pairs ≡ l.initial.pairs ++ map raw_pair (pairs_with l.p (take l.r-index l.before))
