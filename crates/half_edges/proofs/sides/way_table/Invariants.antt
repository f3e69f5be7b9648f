use Rattle.std.proofs.Common.{ℕ, ◌<◌, slice_index_or}
use Rattle.edge_table.specs.declared.edge.Edge.{Edge}
use Rattle.tri_theory.specs.Triangulations.{AreJoined}
use Rattle.side_table.specs.Sides.{HasSide, IsOrderedSides}
use Rattle.flip_mesh.specs.Build.{GoesBothWays}
use Rattle.half_edges.proofs.sides.way_table.Given as goal

abbrev pub invariant-loop-i : goal.invariant-loop-i
invariant-loop-i l = record {
  ordered : IsOrderedSides l.table;
  joined : (x y : ℕ) → HasSide l.table x y → AreJoined l.t.edges x y;
  there : (k : ℕ) (d : Edge) → k < l.i → GoesBothWays l.table (slice_index_or l.t.edges k d);
}
