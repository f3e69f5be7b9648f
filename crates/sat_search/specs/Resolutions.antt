-- A resolution on its way back along the trail, kept as places on it.
use Rattle.std.specs.Prelude.{◌≡◌, ◌⊎◌, ℕ, ◌<◌, List, [], ◌∷◌, ◌++◌, map, reverse, length, All, AllPairs, Contains}
use Rattle.log_law.specs.Logs.{clause_at}
use Rattle.log_law.specs.Trails.{step_at, reason_at, negated_at, Resolved}
use Rattle.sat_state.specs.Searches.{Search}

-- the literals that there are now are false by the steps at the pending places, which the way back hasn't come to, and at those that it leaves as they are, the last first. The reasons that were used are listed, the last on the trail first
pub record IsResolving (search : Search) (conflict : ℕ) (pending left reasons : List ℕ) : Type 0 where
  pub pending_within : All (λ place. place < length search.trail) pending
  pub left_within : All (λ place. place < length search.trail) left
  pub descending : AllPairs (λ later earlier. earlier < later) left
  pub before_left : (p q : ℕ) → Contains pending p → Contains left q → p < q
  pub used : List ℕ
  pub before_used : (p q : ℕ) → Contains pending p → Contains used q → p < q
  pub listed : reverse reasons ≡ map (reason_at search.trail) used
  pub resolved : Resolved search.clauses search.trail (clause_at search.clauses conflict) used (negated_at search.trail (left ++ pending))

-- one place is left, of the present level, and the pending ones are of lower levels
pub record IsLast (search : Search) (pending left : List ℕ) : Type 0 where
  pub place : ℕ
  pub only : left ≡ place ∷ []
  pub at_level : (step_at search.trail place).level ≡ search.level
  pub lower : All (λ p. (step_at search.trail p).level < search.level) pending

-- above level 0 one place that is left is of the present level and the others are lower, and at level 0 none is left
abbrev pub IsResolved : Search → List ℕ → Type 0
IsResolved search left =
    ((0 < search.level) × ((place : ℕ) × Contains left place × ((step_at search.trail place).level ≡ search.level) × ((other : ℕ) → Contains left other → (other ≡ place) ⊎ ((step_at search.trail other).level < search.level))))
    ⊎ ((search.level ≡ 0) × (left ≡ []))
