-- What a search for a model holds, and what each call does to it.
use Rattle.std.specs.Prelude.{◌≡◌, ◌≢◌, ℕ, ◌<◌, ◌≤◌, None, List, ◌++◌, length, All, Any, Contains}
use Rattle.log_law.specs.declared.Lit.{Lit}
use Rattle.log_law.specs.Clauses.{Clause, IsVariable, IsClause}
use Rattle.log_law.specs.Units.{IsLitTrue, IsUnassigned}
use Rattle.log_law.specs.declared.Step.{Step}
use Rattle.log_law.specs.Trails.{literals, IsTrail}
use Rattle.log_law.specs.SearchLaws.{IsFresh}

-- a number of variables, the clauses of the formula and then the learnt ones, the literals that are true, and the present level
pub record Search : Type 0 where
  pub variables : ℕ
  pub clauses : List Clause
  pub trail : List Step
  pub level : ℕ

pub record IsSearch (search : Search) : Type 0 where
  pub clauses_fit : All (IsClause search.variables) search.clauses
  pub few : length search.clauses ≤ 4_000_000_000
  pub in_range : All (λ step. IsVariable search.variables step.literal.var) search.trail
  pub trail : IsTrail search.clauses search.trail search.level

-- the trail has gone on by steps of this level that have reasons
abbrev pub GoesOn : ℕ → List Step → List Step → Type 0
GoesOn level before after = (steps : List Step) × (after ≡ before ++ steps) × All (λ step. (step.level ≡ level) × (step.reason ≢ None)) steps

-- what a clause must be to be learnt: none of its literals is true, and one is unassigned. Above level 0 another is unassigned too, or was made false at this level
pub record MayLearn (search : Search) (clause : Clause) : Type 0 where
  pub fits : IsClause search.variables clause
  pub untrue : All (λ l. ¬ IsLitTrue (literals search.trail) l) clause
  pub free : Any (IsUnassigned (literals search.trail)) clause
  pub second : 0 < search.level → (k : Lit) × (l : Lit) × Contains clause k × Contains clause l × (k ≢ l) × IsFresh search.trail search.level k × IsFresh search.trail search.level l
