-- Formulas to which clauses are added group by group.
use Rattle.std.specs.Prelude.{ℕ, ◌+◌, true, false, List, [], ◌∷◌, map, filter}
use Rattle.edge_table.specs.declared.edge.Edge.{Edge}
use Rattle.edge_table.specs.Edges.{is_edge, is_member}
use Rattle.log_law.specs.declared.Lit.{Lit}
use Rattle.log_law.specs.Clauses.{Clause}
use Rattle.formula_law.specs.Frames.{Pair, Frame}
use Rattle.formula_law.specs.Formula.{literal, there, made, demands, leave_clause, come_clause}

-- s is there before round t and after it
abbrev pub stays : Frame → ℕ → Edge → List Lit
stays F t s = literal (there F t s) true ∷ literal (there F (t + 1) s) true ∷ []

-- what flip g asks where it is made in round t
abbrev pub asked : Frame → ℕ → ℕ → Pair → List Clause
asked F k t g = map (λ demand. literal (made F k t g) false ∷ demand ∷ []) (demands F (there F) t g)

-- after t rounds e is there, or not, as the edges say
abbrev pub told_by : Frame → ℕ → List Edge → Edge → Clause
told_by F t edges e = literal (there F t e) (is_member edges e) ∷ []

-- after t rounds not both segments of g are there
abbrev pub not_both : Frame → ℕ → Pair → Clause
not_both F t g = literal (there F t g.0) false ∷ literal (there F t g.1) false ∷ []

-- e isn't there before round t, or is there after it, or one of these flips from e is made
abbrev pub leaving : Frame → ℕ → ℕ → Edge → List Pair → Clause
leaving F k t e flips = literal (there F t e) false ∷ literal (there F (t + 1) e) true ∷ map (λ g. literal (made F k t g) true) (filter (λ g. is_edge e g.0) flips)

-- e is there before round t, or isn't there after it, or one of these flips to e is made
abbrev pub coming : Frame → ℕ → ℕ → Edge → List Pair → Clause
coming F k t e flips = literal (there F t e) true ∷ literal (there F (t + 1) e) false ∷ map (λ g. literal (made F k t g) true) (filter (λ g. is_edge e g.1) flips)

-- both clauses of e
abbrev pub changes : Frame → ℕ → ℕ → Edge → List Clause
changes F k t e = leave_clause F (there F) (made F k) t e ∷ come_clause F (there F) (made F k) t e ∷ []
