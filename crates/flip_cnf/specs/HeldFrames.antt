-- The frame of a list of points as it is held, and what its calls answer.
use Rattle.std.specs.Prelude.{◌≡◌, ℕ, ◌<◌, ◌≤◌, ⊤, Bool, Option, Some, None, List, length, All}
use Rattle.geo_orient.specs.declared.Point.{Point}
use Rattle.edge_table.specs.declared.edge.Edge.{Edge}
use Rattle.edge_table.specs.Edges.{IsAscending}
use Rattle.tri_theory.specs.Rounds.{IsSchedule}
use Rattle.log_law.specs.Clauses.{Clause, Formula, IsModel}
use Rattle.formula_law.specs.Frames.{Frame, IsFrame}
use Rattle.formula_law.specs.Formula.{formula, clause_count, rounds_of}
use Rattle.formula_law.specs.RefutationLaws.{whole, pruned}
use Rattle.formula_law.specs.PrunedFormula.{live_between, pruned_formula, live_rounds_of}
use Rattle.flip_cnf.specs.declared.fault.BuildFault.{BuildFault}
use Rattle.flip_cnf.specs.declared.fault.BuildFault.TheVariants.{ManyPoints, TooLarge, OutOfMemory}

-- the segments, crossings and flips of few points, or the number of many
pub data HeldFrame : Type 0 where
  Listed : Frame → HeldFrame
  Many : ℕ → HeldFrame

-- what is held of these points: the lists of their frame where they are at most 64, and else their number
abbrev pub IsHeldFrame : List Point → HeldFrame → Type 0
IsHeldFrame points (Listed F) = (length points ≤ 64) × IsFrame points F
IsHeldFrame points (Many n) = (64 < length points) × (n ≡ length points)

-- the number of clauses of k rounds, of few points
abbrev pub size_of : HeldFrame → ℕ → Option ℕ
size_of (Listed F) k = Some (clause_count F k)
size_of (Many n) k = None

-- the formula of k rounds from A to B, of few points and with at most 400,000 clauses
abbrev pub IsBuilt : HeldFrame → List Edge → List Edge → ℕ → Formula → Type 0
IsBuilt (Listed F) A B k built = (clause_count F k ≤ 400_000) × (built ≡ whole F A B k)
IsBuilt (Many n) A B k built = ⊥

-- why there is none: more than 64 points, with their number; else more than 400,000 clauses, with their number; or there is no memory
abbrev pub IsBuildFault : List Point → HeldFrame → ℕ → BuildFault → Type 0
IsBuildFault points (Listed F) k (ManyPoints n) = ⊥
IsBuildFault points (Listed F) k (TooLarge n) = (400_000 < n) × (n ≡ clause_count F k)
IsBuildFault points (Listed F) k OutOfMemory = ⊤
IsBuildFault points (Many m) k (ManyPoints n) = (64 < n) × (n ≡ length points)
IsBuildFault points (Many m) k (TooLarge n) = ⊥
IsBuildFault points (Many m) k OutOfMemory = ⊤

-- some assignment satisfies all clauses
abbrev pub HasModel : List Clause → Type 0
HasModel clauses = (truth : ℕ → Bool) × IsModel truth clauses

-- the assignment is a model of the formula of k rounds from A to B, of few points
abbrev pub Satisfies : HeldFrame → List Edge → List Edge → ℕ → (ℕ → Bool) → Type 0
Satisfies (Listed F) A B k truth = IsModel truth (formula F A B k)
Satisfies (Many n) A B k truth = ⊥

-- the rounds that the assignment tells, of few points
abbrev pub AreTold : HeldFrame → (ℕ → Bool) → ℕ → List (List Edge) → Type 0
AreTold (Listed F) truth k rounds = rounds ≡ rounds_of F truth k
AreTold (Many n) truth k rounds = ⊥

-- ---- the pruned formula
-- of k rounds from A to B: its variables are those of the places that a schedule may use
module _ (points : List Point) (A B : List Edge) (k : ℕ) where
  abbrev pub pruned_clauses : Frame → List Clause
  pruned_clauses F = pruned_formula F (live_between points A B k) A B k

  -- the number of its clauses, of few points
  abbrev pub pruned_size_of : HeldFrame → Option ℕ
  pruned_size_of (Listed F) = Some (length (pruned_clauses F))
  pruned_size_of (Many n) = None

  -- the formula, of few points and with at most 400,000 clauses
  abbrev pub IsPrunedBuilt : HeldFrame → Formula → Type 0
  IsPrunedBuilt (Listed F) built = (length (pruned_clauses F) ≤ 400_000) × (built ≡ pruned F (live_between points A B k) A B k)
  IsPrunedBuilt (Many n) built = ⊥

  -- why there is none: more than 64 points, with their number; else more than 400,000 clauses, with their number; or there is no memory
  abbrev pub IsPrunedFault : HeldFrame → BuildFault → Type 0
  IsPrunedFault (Listed F) (ManyPoints n) = ⊥
  IsPrunedFault (Listed F) (TooLarge n) = (400_000 < n) × (n ≡ length (pruned_clauses F))
  IsPrunedFault (Listed F) OutOfMemory = ⊤
  IsPrunedFault (Many m) (ManyPoints n) = (64 < n) × (n ≡ length points)
  IsPrunedFault (Many m) (TooLarge n) = ⊥
  IsPrunedFault (Many m) OutOfMemory = ⊤

  -- the assignment is a model of it, of few points
  abbrev pub SatisfiesPruned : HeldFrame → (ℕ → Bool) → Type 0
  SatisfiesPruned (Listed F) truth = IsModel truth (pruned_clauses F)
  SatisfiesPruned (Many n) truth = ⊥

  -- the rounds that the assignment tells, of few points
  abbrev pub AreToldByPruned : HeldFrame → (ℕ → Bool) → List (List Edge) → Type 0
  AreToldByPruned (Listed F) truth rounds = rounds ≡ live_rounds_of F (live_between points A B k) truth k
  AreToldByPruned (Many n) truth rounds = ⊥

-- k rounds, each in edge order, that lead from A to B
pub record AreRounds (points : List Point) (A B : List Edge) (k : ℕ) (rounds : List (List Edge)) : Type 0 where
  pub count : length rounds ≡ k
  pub ascending : All IsAscending rounds
  pub schedule : IsSchedule points A rounds B
