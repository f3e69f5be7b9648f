-- The groups of clauses of a pruned formula, and what is added for one element of a list.
use Rattle.std.specs.Prelude.{ℕ, ◌+◌, Bool, true, false, not, cond, ◌&&◌, List, [], ◌∷◌, ◌++◌, map, filter}
use Rattle.edge_table.specs.declared.edge.Edge.{Edge}
use Rattle.edge_table.specs.Edges.{is_edge}
use Rattle.log_law.specs.declared.Lit.{Lit}
use Rattle.log_law.specs.Clauses.{Clause}
use Rattle.formula_law.specs.Frames.{Pair}
use Rattle.formula_law.specs.Formula.{literal}
use Rattle.formula_law.specs.PrunedFormula.{if_live, live_demands, live_layer_clauses, live_crossing_clauses, live_flip_clauses, live_change_clauses}
use Rattle.formula_parts.specs.Building.{asks}
use Rattle.pruned_cnf.specs.declared.writing.chains.Change.{Change}
use Rattle.pruned_cnf.specs.declared.writing.chains.Change.TheVariants.{Leave, Come}
use Rattle.pruned_cnf.specs.Queries.{Query, live_in, is_live_flip_in, flip_in}

abbrev pub layer_in : Query → ℕ → List Edge → List Clause
layer_in q t edges = live_layer_clauses q.frame (live_in q) q.rounds t edges

abbrev pub crossings_in : Query → ℕ → List Clause
crossings_in q t = live_crossing_clauses q.frame (live_in q) q.rounds t

abbrev pub flips_in : Query → ℕ → List Clause
flips_in q t = live_flip_clauses q.frame (live_in q) q.rounds t

abbrev pub changes_in : Query → ℕ → List Clause
changes_in q t = live_change_clauses q.frame (live_in q) q.rounds t

-- whether e is there after t rounds, where it can be
abbrev pub place_literal : Query → ℕ → Edge → Bool → List Lit
place_literal q t e sign = if_live q.frame (live_in q) q.rounds t e sign

-- that flip g is made in round t, where it can be
abbrev pub flip_literal : Query → ℕ → Pair → List Lit
flip_literal q t g = cond (is_live_flip_in q t g) (literal (flip_in q t g) true ∷ []) []

-- after t rounds not both segments of g are there
abbrev pub not_both : Query → ℕ → Pair → Clause
not_both q t g = place_literal q t g.0 false ++ place_literal q t g.1 false

-- the same, where both can be there
abbrev pub crossing_clause : Query → ℕ → Pair → List Clause
crossing_clause q t g = cond (live_in q t g.0 && live_in q t g.1) (not_both q t g ∷ []) []

-- s is there before round t and after it
abbrev pub stays : Query → ℕ → Edge → List Lit
stays q t s = place_literal q t s true ++ place_literal q (t + 1) s true

abbrev pub demands_in : Query → ℕ → Pair → List Lit
demands_in q t g = live_demands q.frame (live_in q) q.rounds t g

-- what flip g asks where it is made in round t, where it can be
abbrev pub asked : Query → ℕ → Pair → List Clause
asked q t g = cond (is_live_flip_in q t g) (map (asks (literal (flip_in q t g) false)) (demands_in q t g)) []

-- ---- a segment leaves by a flip from it, and comes by a flip to it
abbrev pub changed : Change → Pair → Edge
changed Leave g = g.0
changed Come g = g.1

abbrev pub is_change_of : Change → Edge → Pair → Bool
is_change_of change e g = is_edge e (changed change g)

abbrev pub comes : Change → Bool
comes Leave = false
comes Come = true

-- after how many rounds the segment is there that leaves in round t, or comes
abbrev pub layer_of : ℕ → Change → ℕ
layer_of t Leave = t
layer_of t Come = t + 1

-- the flips of round t by which e changes so
abbrev pub changing_flips : Query → ℕ → Change → Edge → List Lit
changing_flips q t change e = map (λ g. literal (flip_in q t g) true) (filter (λ g. is_change_of change e g && is_live_flip_in q t g) q.frame.flips)

-- e doesn't change so in round t, or by one of these flips
abbrev pub change_clause : Query → ℕ → Change → Edge → Clause
change_clause q t change e = place_literal q t e (comes change) ++ place_literal q (t + 1) e (not (comes change)) ++ changing_flips q t change e

-- the same, where e can be there
abbrev pub change_of : Query → ℕ → Change → Edge → List Clause
change_of q t change e = cond (live_in q (layer_of t change) e) (change_clause q t change e ∷ []) []
