use Rattle.std.proofs.Common.{Contains, take}
use Rattle.edge_table.specs.declared.edge.Edge.{Edge}
use Rattle.plan_core.proofs.swap.first_outside.Given as goal

-- the centre has the edges so far
abbrev pub invariant-loop-i : goal.invariant-loop-i
invariant-loop-i l = (e : Edge) → Contains (take l.i l.end.edges) e → Contains l.centre.edges e
