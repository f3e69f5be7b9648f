use Rattle.std.proofs.Common.{IfSome}
use Rattle.flip_mesh.specs.Build.{IsCorner, SeenFrom}
use Rattle.flip_mesh.proofs.build.apex_from.Given as goal

-- the best corner so far, and none of those that were seen is nearer
abbrev pub invariant-loop-i : goal.invariant-loop-i
invariant-loop-i l = record {
  corner : IfSome l.best (IsCorner l.t.points l.t.edges l.u l.v);
  nearest : SeenFrom l.t.points l.t.edges l.items l.u l.v l.initial.i l.i l.best;
}
