use Rattle.std.proofs.Common.{◌≡◌, length, take}
use Rattle.solution_json.specs.Edges.{pairs_within}
use Rattle.solution_json.proofs.edges.pair_count.Given as goal

-- the pairs so far
abbrev pub invariant-loop-i : goal.invariant-loop-i
invariant-loop-i l = l.count ≡ length (pairs_within (take l.i l.raw))
