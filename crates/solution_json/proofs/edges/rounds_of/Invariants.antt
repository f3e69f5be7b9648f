use Rattle.std.proofs.Common.{drop}
use Rattle.std.specs.List.{AllZip}
use Rattle.json_value.proofs.Steps.{Reading}
use Rattle.solution_json.specs.Edges.{NamesEdge, IsEdgeOf}
use Rattle.solution_json.proofs.edges.rounds_of.Given as goal

-- the place counts the pairs of the rounds so far
abbrev pub invariant-loop-i : goal.invariant-loop-i
invariant-loop-i l = Reading NamesEdge (AllZip IsEdgeOf) (λ pairs. pairs) l.raw (drop l.i l.raw) l.rounds l.place
