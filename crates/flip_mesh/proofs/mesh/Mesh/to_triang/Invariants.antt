use Rattle.std.proofs.Common.{ℕ, ◌<◌, Contains, slice_index_or}
use Rattle.edge_table.specs.declared.edge.Edge.{Edge}
use Rattle.edge_table.specs.Edges.{IsAscending}
use Rattle.side_table.specs.declared.side.Side.{Side}
use Rattle.flip_mesh.specs.Sides.{edges_of}
use Rattle.flip_mesh.proofs.mesh.Mesh.to_triang.Given as goal

abbrev pub invariant-loop-i : goal.invariant-loop-i
invariant-loop-i l = record {
  ascending : IsAscending l.edges;
  members : (e : Edge) → Contains l.edges e → Contains (edges_of l.sides.items) e;
  all : (k : ℕ) (d : Side) → k < l.i → (slice_index_or l.sides.items k d).from < (slice_index_or l.sides.items k d).to
      → Contains l.edges ((slice_index_or l.sides.items k d).from, (slice_index_or l.sides.items k d).to);
}
