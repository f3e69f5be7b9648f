use Rattle.std.proofs.Common.{◌≡◌, take, Contains}
use Rattle.half_edges.specs.declared.half.HalfEdge.{HalfEdge}
use Rattle.half_edges.specs.Graphs.{ways_of, IsHalf}
use Rattle.half_edges.proofs.build.halves_of.Given as goal

-- the half edges on the first ways
abbrev pub invariant-loop-i : goal.invariant-loop-i
invariant-loop-i l = record {
  ways : ways_of l.halves.items ≡ take l.i l.ways;
  halves : (h : HalfEdge) → Contains l.halves.items h → IsHalf l.mesh.points l.mesh.edges l.ways h;
}
