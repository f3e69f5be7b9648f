-- Star rows: how many rounds three copies need together, with what shows it.
use Rattle.std.specs.Prelude.{◌≡◌, ◌≢◌, ℕ, ◌+◌, ◌/◌, ◌<◌, ◌≤◌, min, List, [], ◌∷◌, length, All, AllPairs}
use Rattle.std.specs.List.{AllZip}
use Rattle.geo_orient.specs.declared.Point.{Point}
use Rattle.edge_table.specs.declared.edge.Edge.{Edge}
use Rattle.tri_theory.specs.Triangulations.{IsTriangulation}
use Rattle.tri_theory.specs.Rounds.{IsSchedule}
use Rattle.bound_law.specs.Bounds.{input_at}
use Rattle.log_law.specs.Clauses.{Formula}
use Rattle.log_law.specs.Logs.{Line, AllFollow, Refutes}
use Rattle.log_law.specs.Budgets.{IsRefutation, IsSpent}
use Rattle.formula_law.specs.Frames.{Frame}
use Rattle.star_law.specs.StarFormula.{star, star_clause_count}
use Rattle.star_law.specs.Splits.{Split, split_sum, splits, leg_of, IsLowerOfThree}

-- why three copies need so many rounds together: pairs of them do, or a log for each split of n refutes its formula
pub data Evidence : Type 0 where
  Pairs : Evidence
  Refuted : (n : ℕ) → (logs : List (List Line)) → Evidence

-- why the bound isn't higher: the legs of a split meet, the search for them was given up after lines that follow, their formula has too many clauses, or there are too many points
pub data End : Type 0 where
  Met : (split : Split) → (legs : List (List (List Edge))) → End
  Spent : (split : Split) → (log : List Line) → End
  TooLarge : (split : Split) → (clauses : ℕ) → End
  ManyPoints : (count : ℕ) → End

pub record StarRow : Type 0 where
  pub first : ℕ
  pub second : ℕ
  pub third : ℕ
  pub lower : ℕ
  pub evidence : Evidence
  pub end : End

-- ---- budgets

-- the budget of each of so many triples
abbrev pub triple_budget : ℕ → ℕ
triple_budget triples = min 50_000 (20_000_000 / triples)

-- the budget of each split of n
abbrev pub split_budget : ℕ → ℕ → ℕ
split_budget budget n = budget / length (splits n)

-- ---- evidence and ends

-- so many rounds, each naming an edge once, that lead to the hub
pub record AreLegRounds (points : List Point) (from : List Edge) (k : ℕ) (rounds : List (List Edge)) (hub : List Edge) : Type 0 where
  pub count : length rounds ≡ k
  pub distinct : All (λ round. AllPairs ◌≢◌ round) rounds
  pub schedule : IsSchedule points from rounds hub

module _ (points : List Point) (F : Frame) (A B C : List Edge) where
  -- what holds of the formula of a split, which can be built: there are at most 64 points, and it has at most 400,000 clauses
  abbrev pub OfBuilt : Split → (Formula → Type 0) → Type 0
  OfBuilt split P = (length points ≤ 64) × (star_clause_count F (split_sum split) ≤ 400_000) × P (star F (leg_of A split.0) (leg_of B split.1) (leg_of C split.2))

  -- three schedules of the split's lengths to one triangulation
  abbrev pub AreMet : Split → List (List (List Edge)) → Type 0
  AreMet split (f ∷ g ∷ h ∷ []) = (hub : List Edge) × IsTriangulation points hub × AreLegRounds points A split.0 f hub × AreLegRounds points B split.1 g hub × AreLegRounds points C split.2 h hub
  AreMet split _ = ⊥

  -- `pairs` is half of the sum of the three pairs' lower bounds, rounded up
  abbrev pub IsEvidence : ℕ → ℕ → Evidence → Type 0
  IsEvidence pairs lower Pairs = lower ≡ pairs
  IsEvidence pairs lower (Refuted n logs) = (lower ≡ n + 1) × AllZip (λ split log. OfBuilt split (λ formula. Refutes formula log)) (splits n) logs

  abbrev pub IsEnd : ℕ → End → Type 0
  IsEnd lower (Met split legs) = (split_sum split ≡ lower) × AreMet split legs
  IsEnd lower (Spent split log) = (split_sum split ≡ lower) × OfBuilt split (λ formula. AllFollow formula log)
  IsEnd lower (TooLarge split clauses) = (split_sum split ≡ lower) × (length points ≤ 64) × (clauses ≡ star_clause_count F lower) × (400_000 < clauses)
  IsEnd lower (ManyPoints n) = (64 < n) × (n ≡ length points)

  -- the lines of each log that refutes are new, and their cost is within the budget of a split
  abbrev pub EarnsEvidence : ℕ → Evidence → Type 0
  EarnsEvidence budget Pairs = Unit {0}
  EarnsEvidence budget (Refuted n logs) = AllZip (λ split log. OfBuilt split (λ formula. IsRefutation formula (split_budget budget n) log)) (splits n) logs

  -- the lines of a search that was given up are new, and the last one went over the budget of its split
  abbrev pub EarnsEnd : ℕ → End → Type 0
  EarnsEnd budget (Met split legs) = Unit {0}
  EarnsEnd budget (Spent split log) = OfBuilt split (λ formula. IsSpent formula (split_budget budget (split_sum split)) log)
  EarnsEnd budget (TooLarge split clauses) = Unit {0}
  EarnsEnd budget (ManyPoints n) = Unit {0}

-- ---- rows

-- half of the sum of the lower bounds of the row's pairs, rounded up
abbrev pub half_of_pairs : (ℕ → ℕ → ℕ) → StarRow → ℕ
half_of_pairs lower row = (lower row.first row.second + lower row.second row.third + lower row.first row.third + 1) / 2

-- the row is one of three copies, in order, and its evidence and its end are what they say
pub record IsJustified (points : List Point) (F : Frame) (copies : List (List Edge)) (lower : ℕ → ℕ → ℕ) (row : StarRow) : Type 0 where
  pub first : row.first < row.second
  pub second : row.second < row.third
  pub third : row.third < length copies
  pub evidence : IsEvidence points F (input_at copies row.first) (input_at copies row.second) (input_at copies row.third) (half_of_pairs lower row) row.lower row.evidence
  pub end : IsEnd points F (input_at copies row.first) (input_at copies row.second) (input_at copies row.third) row.lower row.end

-- and it was earned with a budget: it says no less than its pairs, and each line of a log is new and paid for
pub record IsEarned (points : List Point) (F : Frame) (copies : List (List Edge)) (lower : ℕ → ℕ → ℕ) (budget : ℕ) (row : StarRow) : Type 0 where
  pub justified : IsJustified points F copies lower row
  pub no_less : half_of_pairs lower row ≤ row.lower
  pub evidence : EarnsEvidence points F (input_at copies row.first) (input_at copies row.second) (input_at copies row.third) budget row.evidence
  pub end : EarnsEnd points F (input_at copies row.first) (input_at copies row.second) (input_at copies row.third) budget row.end

-- the three copies need so many rounds together
abbrev pub IsTrue : List Point → List (List Edge) → StarRow → Type 0
IsTrue points copies row = IsLowerOfThree points (input_at copies row.first) (input_at copies row.second) (input_at copies row.third) row.lower
