use Rattle.std.proofs.Common.{◌≡◌, [], ◌∷◌, drop}
use Rattle.json_value.proofs.Steps.{Reading}
use Rattle.solution_json.specs.Edges.{NamesEdge, IsEdgeOf}
use Rattle.solution_json.proofs.edges.round_of.Given as goal

-- each pair names one edge
abbrev pub invariant-loop-i : goal.invariant-loop-i
invariant-loop-i l =
    (l.place ≡ l.i) × Reading NamesEdge IsEdgeOf (λ pair. pair ∷ []) l.pairs (drop l.i l.pairs) l.edges l.place
