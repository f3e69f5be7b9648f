-- How many clauses each layer and each round of a pruned formula has.
use Rattle.std.specs.Prelude.{ℕ, ◌+◌, Bool, ◌&&◌, cond, length}
use Rattle.edge_table.specs.declared.edge.Edge.{Edge}
use Rattle.formula_law.specs.Frames.{Pair}
use Rattle.formula_law.specs.PrunedFormula.{live_crossing_clauses, live_flip_clauses, live_change_clauses}
use Rattle.pruned_cnf.specs.Queries.{Query, live_in, is_live_flip_in}

abbrev pub crossing_count : Query → ℕ → ℕ
crossing_count q t = length (live_crossing_clauses q.frame (live_in q) q.rounds t)

abbrev pub flip_count : Query → ℕ → ℕ
flip_count q t = length (live_flip_clauses q.frame (live_in q) q.rounds t)

abbrev pub change_count : Query → ℕ → ℕ
change_count q t = length (live_change_clauses q.frame (live_in q) q.rounds t)

-- both segments can be there
abbrev pub is_live_pair : Query → ℕ → Pair → Bool
is_live_pair q t g = live_in q t g.0 && live_in q t g.1

-- the clauses of one flip: of its twelve demands, one falls away where its edge can't be there after the round, and one where its image can't be there before
abbrev pub size_of_flip : Query → ℕ → Pair → ℕ
size_of_flip q t g = cond (is_live_flip_in q t g) (10 + cond (live_in q (t + 1) g.0) 1 0 + cond (live_in q t g.1) 1 0) 0

-- the clauses of one segment: one where it can be there before the round, and one where it can be there after it
abbrev pub size_of_change : Query → ℕ → Edge → ℕ
size_of_change q t e = cond (live_in q t e) 1 0 + cond (live_in q (t + 1) e) 1 0
