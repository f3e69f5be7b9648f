use Rattle.std.proofs.Common.{◌≡◌, take}
use Rattle.half_edges.proofs.sides.edges_of.Given as goal

abbrev pub invariant-loop-i : goal.invariant-loop-i
invariant-loop-i l = l.edges.items ≡ take l.i l.t.edges
