use Rattle.lawson_start.specs.Steps.{AreBadBefore}
use Rattle.lawson_start.proofs.bad.bad_edges.Given as goal

abbrev pub invariant-loop-i : goal.invariant-loop-i
invariant-loop-i l = AreBadBefore l.t.points l.t.edges l.bad l.i
