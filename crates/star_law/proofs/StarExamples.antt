-- The star formula on the pentagon and the square: how many clauses and variables it has, and its clauses one by one. Small stars.
use Rattle.std.proofs.Common.{◌≡◌, ℕ, Bool, true, false, cond, List, [], ◌∷◌, length, get_or, refl}
use Rattle.std.specs.List.{list_any, list_all}
use Rattle.edge_table.specs.declared.edge.Edge.{Edge}
use Rattle.log_law.specs.declared.Lit.{Lit}
use Rattle.formula_law.specs.Formula.{literal}
use Rattle.star_law.specs.Legs.{Leg}
use Rattle.star_law.specs.StarFormula.{star_formula, star_clause_count, star_variable_count, hub_of, leg_rounds}
use Rattle.star_law.specs.Splits.{splits}
use Rattle.star_law.specs.StarRows.{Pairs, ManyPoints, StarRow, triple_budget, split_budget}
use Rattle.star_law.specs.Stars.{rest_of, star_bound}
use Rattle.formula_law.proofs.FormulaTests.{square, A, B, pentagon, at_0, at_1}

abbrev at_2 : List Edge
at_2 = (0, 1) ∷ (0, 2) ∷ (0, 4) ∷ (1, 2) ∷ (2, 3) ∷ (2, 4) ∷ (3, 4) ∷ []

abbrev leg : List Edge → ℕ → Leg
leg from rounds = record { from = from; rounds = rounds }

pentagon_clauses : length (star_formula pentagon (leg at_0 1) (leg at_1 0) (leg at_2 1)) ≡ 325
pentagon_clauses = refl

pentagon_count : star_clause_count pentagon 2 ≡ 325
pentagon_count = refl

pentagon_variables : star_variable_count pentagon 2 ≡ 50
pentagon_variables = refl

abbrev on : ℕ → Lit
on n = literal n true

abbrev off : ℕ → Lit
off n = literal n false

-- all 48 clauses of a small star, group by group
square_star :
    star_formula square (leg A 0) (leg A 0) (leg B 1)
    ≡ (on 1 ∷ []) ∷ (on 2 ∷ []) ∷ (on 3 ∷ []) ∷ (on 4 ∷ []) ∷ (off 5 ∷ []) ∷ (on 6 ∷ [])
    ∷ (on 1 ∷ []) ∷ (on 2 ∷ []) ∷ (on 3 ∷ []) ∷ (on 4 ∷ []) ∷ (off 5 ∷ []) ∷ (on 6 ∷ [])
    ∷ (on 7 ∷ []) ∷ (off 8 ∷ []) ∷ (on 9 ∷ []) ∷ (on 10 ∷ []) ∷ (on 11 ∷ []) ∷ (on 12 ∷ [])
    ∷ (off 2 ∷ off 5 ∷ []) ∷ (off 8 ∷ off 11 ∷ [])
    ∷ (off 13 ∷ on 8 ∷ []) ∷ (off 13 ∷ off 2 ∷ []) ∷ (off 13 ∷ off 11 ∷ []) ∷ (off 13 ∷ on 5 ∷ [])
    ∷ (off 13 ∷ on 7 ∷ []) ∷ (off 13 ∷ on 1 ∷ []) ∷ (off 13 ∷ on 9 ∷ []) ∷ (off 13 ∷ on 3 ∷ [])
    ∷ (off 13 ∷ on 10 ∷ []) ∷ (off 13 ∷ on 4 ∷ []) ∷ (off 13 ∷ on 12 ∷ []) ∷ (off 13 ∷ on 6 ∷ [])
    ∷ (off 14 ∷ on 11 ∷ []) ∷ (off 14 ∷ off 5 ∷ []) ∷ (off 14 ∷ off 8 ∷ []) ∷ (off 14 ∷ on 2 ∷ [])
    ∷ (off 14 ∷ on 7 ∷ []) ∷ (off 14 ∷ on 1 ∷ []) ∷ (off 14 ∷ on 9 ∷ []) ∷ (off 14 ∷ on 3 ∷ [])
    ∷ (off 14 ∷ on 10 ∷ []) ∷ (off 14 ∷ on 4 ∷ []) ∷ (off 14 ∷ on 12 ∷ []) ∷ (off 14 ∷ on 6 ∷ [])
    ∷ (off 7 ∷ on 1 ∷ []) ∷ (on 7 ∷ off 1 ∷ [])
    ∷ (off 8 ∷ on 2 ∷ on 13 ∷ []) ∷ (on 8 ∷ off 2 ∷ on 14 ∷ [])
    ∷ (off 9 ∷ on 3 ∷ []) ∷ (on 9 ∷ off 3 ∷ [])
    ∷ (off 10 ∷ on 4 ∷ []) ∷ (on 10 ∷ off 4 ∷ [])
    ∷ (off 11 ∷ on 5 ∷ on 14 ∷ []) ∷ (on 11 ∷ off 5 ∷ on 13 ∷ [])
    ∷ (off 12 ∷ on 6 ∷ []) ∷ (on 12 ∷ off 6 ∷ []) ∷ []
square_star = refl

splits_of_two : splits 2 ≡ (0, 0, 2) ∷ (0, 1, 1) ∷ (0, 2, 0) ∷ (1, 0, 1) ∷ (1, 1, 0) ∷ (2, 0, 0) ∷ []
splits_of_two = refl

-- its hub is A, its last leg begins at B and flips (1, 3) to (0, 2)
abbrev truth : ℕ → Bool
truth n = get_or (true ∷ true ∷ true ∷ true ∷ true ∷ false ∷ true ∷ true ∷ false ∷ true ∷ true ∷ true ∷ true ∷ false ∷ true ∷ []) n false

abbrev same : Bool → Bool → Bool
same b c = cond b c (cond c false true)

square_model : list_all (λ c. list_any (λ l. same (truth l.var) l.on) c) (star_formula square (leg A 0) (leg A 0) (leg B 1)) ≡ true
square_model = refl

square_hub : hub_of square truth ≡ A
square_hub = refl

square_rounds : leg_rounds square 1 truth (leg B 1, 0) ≡ ((1, 3) ∷ []) ∷ []
square_rounds = refl

-- ---- stars
abbrev row : ℕ → ℕ → ℕ → ℕ → StarRow
row c d e lower = record { first = c; second = d; third = e; lower = lower; evidence = Pairs; end = ManyPoints 65 }

rest : rest_of 7 (row 0 1 2 3 ∷ row 3 4 5 2 ∷ []) ≡ 6 ∷ []
rest = refl

rest_between : rest_of 5 (row 0 2 4 3 ∷ []) ≡ 1 ∷ 3 ∷ []
rest_between = refl

-- one row of all copies: its number
all_in_one : star_bound (λ c d. 1) 3 (row 0 1 2 1 ∷ []) [] ≡ 1
all_in_one = refl

-- a row with 3, and two copies that need one round from each other: 3 + (1 + 1) / 2
one_and_two : star_bound (λ c d. 1) 5 (row 0 2 4 3 ∷ []) (3 ∷ 1 ∷ []) ≡ 4
one_and_two = refl

-- the budgets of one triple, and of each of the six splits of 2
whole_budget : triple_budget 1 ≡ 50_000
whole_budget = refl

sixth_budget : split_budget 50_000 2 ≡ 8_333
sixth_budget = refl
