use Rattle.std.proofs.Common.{◌≡◌, map, take}
use Rattle.side_table.specs.declared.side.Side.{Side}
use Rattle.half_edges.proofs.sides.ends_of.Given as goal

abbrev pub invariant-loop-i : goal.invariant-loop-i
invariant-loop-i l = l.ends.items ≡ map (λ (s : Side). (s.from, s.to)) (take l.i l.sides)
