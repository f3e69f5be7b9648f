-- What a resolution leaves, as places on the trail, and its laws. Each is the contract of a function of the crate, so each is proved.
use Rattle.std.specs.Prelude.{◌≡◌, ◌≢◌, ◌⊎◌, ◌↔◌, ℕ, ◌<◌, None, List, [], ◌∷◌, length, All, AllPairs, Contains}
use Rattle.log_law.specs.Clauses.{Clause}
use Rattle.log_law.specs.Logs.{clause_at}
use Rattle.log_law.specs.Trails.{Step, step_at, reason_at, Names, negated_at, IsTrail, Resolved, IsAsserting}
use Rattle.log_law.specs.SearchLaws.{IsConflict}

-- the places of the steps that falsify a clause begin a resolution
abbrev pub PlacesBegin : Type 0
PlacesBegin =
    (clauses : List Clause) (trail : List Step) (level conflict : ℕ) (places : List ℕ) → IsTrail clauses trail level → IsConflict clauses trail conflict
    → ((place : ℕ) → Contains places place ↔ ((place < length trail) × Names (clause_at clauses conflict) (step_at trail place).literal.var))
    → Resolved clauses trail (clause_at clauses conflict) [] (negated_at trail places)

-- to go back over a step, take its place out and put in those of the earlier steps that its reason names
abbrev pub PlacesGoBack : Type 0
PlacesGoBack =
    (clauses : List Clause) (trail : List Step) (level conflict place : ℕ) (used places next : List ℕ) → IsTrail clauses trail level
    → Resolved clauses trail (clause_at clauses conflict) used (negated_at trail places) → All (λ p. p < length trail) places
    → Contains places place → All (λ later. place < later) used → (step_at trail place).reason ≢ None
    → ((p : ℕ) → Contains next p ↔ ((Contains places p × (p ≢ place)) ⊎ ((p < place) × Names (clause_at clauses (reason_at trail place)) (step_at trail p).literal.var)))
    → Resolved clauses trail (clause_at clauses conflict) (place ∷ used) (negated_at trail next)

-- one place of the level, and the others lower
abbrev pub PlacesAssert : Type 0
PlacesAssert =
    (clauses : List Clause) (trail : List Step) (level place : ℕ) (places : List ℕ) → IsTrail clauses trail level → All (λ p. p < length trail) places
    → Contains places place → (step_at trail place).level ≡ level
    → ((other : ℕ) → Contains places other → (other ≡ place) ⊎ ((step_at trail other).level < level))
    → IsAsserting trail level (negated_at trail places) place

-- where no place stands twice, no variable is named twice
abbrev pub PlacesAreApart : Type 0
PlacesAreApart =
    (clauses : List Clause) (trail : List Step) (level : ℕ) (places : List ℕ) → IsTrail clauses trail level → All (λ p. p < length trail) places
    → AllPairs (λ p q. p ≢ q) places → AllPairs (λ k l. k.var ≢ l.var) (negated_at trail places)
