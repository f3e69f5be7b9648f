use Rattle.std.proofs.Common.{drop}
use Rattle.std.specs.List.{AllZip}
use Rattle.json_value.proofs.Steps.{Reading}
use Rattle.solution_json.specs.Edges.{NamesEdge, IsEdgeOf, pairs_within}
use Rattle.solution_json.proofs.edges.lists_of.Given as goal

-- the place counts the pairs of the lists so far
abbrev pub invariant-loop-raw : goal.invariant-loop-raw
invariant-loop-raw l = Reading NamesEdge (AllZip (AllZip IsEdgeOf)) pairs_within l.raws (drop l.raw-index l.raws) l.lists l.place
