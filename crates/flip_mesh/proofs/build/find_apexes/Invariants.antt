use Rattle.std.proofs.Common.{ℕ, ◌<◌, ◌≡◌, slice_index_or, length}
use Rattle.side_table.specs.declared.side.Side.{Side}
use Rattle.flip_mesh.specs.Answers.{IsApex}
use Rattle.flip_mesh.specs.Places.{AreBegins}
use Rattle.flip_mesh.specs.Build.{AreWays}
use Rattle.flip_mesh.proofs.build.find_apexes.Given as goal

abbrev pub invariant-loop-i : goal.invariant-loop-i
invariant-loop-i l = record {
  ways : AreWays l.items.items l.t.edges;
  begins : AreBegins l.items.items (length l.t.points) l.begins;
  length : length l.items.items ≡ l.i-end;
  done : (k : ℕ) (d : Side) → k < l.i → IsApex l.t.points l.t.edges (slice_index_or l.items.items k d).from (slice_index_or l.items.items k d).to (slice_index_or l.items.items k d).apex;
}
