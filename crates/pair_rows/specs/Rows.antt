-- Rows: what is known of how many rounds two inputs are apart, with what shows it.
use Rattle.std.specs.Prelude.{◌≡◌, ◌≢◌, ℕ, ◌+◌, ◌<◌, ◌≤◌, List, [], length, All, AllPairs, Contains}
use Rattle.geo_orient.specs.declared.Point.{Point}
use Rattle.edge_table.specs.declared.edge.Edge.{Edge}
use Rattle.edge_table.specs.Edges.{IsAscending}
use Rattle.tri_theory.specs.Rounds.{IsSchedule, Within}
use Rattle.crossing_law.specs.Digits.{digits}
use Rattle.bound_law.specs.Bounds.{input_at}
use Rattle.log_law.specs.Clauses.{Formula}
use Rattle.log_law.specs.Logs.{Refutes, AllFollow}
use Rattle.cross_bound.specs.declared.bound.CrossBound.{CrossBound}
use Rattle.cross_bound.specs.declared.bound.CrossBound.TheVariants.{Same, Crossed}
use Rattle.cross_bound.specs.Bounds.{edges_of_both, crossed_by_other, IsCrossBound}
use Rattle.flip_cnf.specs.HeldFrames.{HeldFrame, IsHeldFrame}
use Rattle.flip_cnf.specs.declared.fault.BuildFault.TheVariants as build
use Rattle.sat_search.specs.Answers.{IsRefutation, IsSpent}
use Rattle.pair_rows.specs.declared.row.Evidence.{Evidence}
use Rattle.pair_rows.specs.declared.row.Evidence.TheVariants.{Nothing, Crosses, Refuted}
use Rattle.pair_rows.specs.declared.row.End.{End}
use Rattle.pair_rows.specs.declared.row.End.TheVariants.{Met, Spent, TooLarge, ManyPoints}
use Rattle.pair_rows.specs.declared.row.Row.{Row}
use Rattle.pair_rows.specs.Versions.{FormulaKind, formula_kind, IsFormulaOf, IsFormulaFault}

-- so many rounds that lead from A to B, none of which names an edge twice
pub record AreMet (points : List Point) (A B : List Edge) (k : ℕ) (rounds : List (List Edge)) : Type 0 where
  pub count : length rounds ≡ k
  pub distinct : All (λ round. AllPairs ◌≢◌ round) rounds
  pub schedule : IsSchedule points A rounds B

module _ (kind : FormulaKind) (points : List Point) (frame : HeldFrame) (A B : List Edge) where
  -- what holds of the formula of k rounds from A to B, which can be built
  abbrev pub OfBuilt : ℕ → (Formula → Type 0) → Type 0
  OfBuilt k P = (built : Formula) × IsFormulaOf kind points frame A B k built × P built

  -- what shows that fewer rounds than the lower bound don't lead from A to B: nothing, an edge of one that the members of the other cross, or a log that refutes the formula of one round fewer
  abbrev pub IsEvidence : ℕ → Evidence → Type 0
  IsEvidence lower Nothing = lower ≡ 0
  IsEvidence lower (Crosses from edge count) = Contains (edges_of_both A B) (from, edge) × (count ≡ crossed_by_other points A B (from, edge)) × (lower ≡ digits count)
  IsEvidence lower (Refuted k log) = (lower ≡ k + 1) × OfBuilt k (λ built. Refutes built log)

  -- why the bound isn't higher: as many rounds lead from A to B, the search for them was given up after lines that follow, or their formula has too many clauses, or there are too many points
  abbrev pub IsEnd : ℕ → End → Type 0
  IsEnd lower (Met rounds) = AreMet points A B lower rounds
  IsEnd lower (Spent k log) = (k ≡ lower) × OfBuilt k (λ built. AllFollow built log)
  IsEnd lower (TooLarge k clauses) = (k ≡ lower) × IsFormulaFault kind points frame A B k (build.TooLarge clauses)
  IsEnd lower (ManyPoints n) = IsFormulaFault kind points frame A B lower (build.ManyPoints n)

  -- the lines of a log that refutes are new, and their cost is within the budget
  abbrev pub EarnsEvidence : ℕ → Evidence → Type 0
  EarnsEvidence budget Nothing = Unit {0}
  EarnsEvidence budget (Crosses from edge count) = Unit {0}
  EarnsEvidence budget (Refuted k log) = OfBuilt k (λ built. IsRefutation built budget log)

  -- the lines of a search that was given up are new, and the last one went over the budget
  abbrev pub EarnsEnd : ℕ → End → Type 0
  EarnsEnd budget (Met rounds) = Unit {0}
  EarnsEnd budget (Spent k log) = OfBuilt k (λ built. IsSpent built budget log)
  EarnsEnd budget (TooLarge k clauses) = Unit {0}
  EarnsEnd budget (ManyPoints n) = Unit {0}

-- the number of rounds that a bound by crossings keeps two triangulations apart
abbrev pub least_rounds : CrossBound → ℕ
least_rounds Same = 0
least_rounds (Crossed from edge count lower) = lower

-- a lower bound begins as the bound by crossings: until a formula is refuted, the evidence is that of the bound
abbrev pub BeginsAtCrossBound : List Point → List Edge → List Edge → ℕ → Evidence → Type 0
BeginsAtCrossBound points A B lower Nothing = IsCrossBound points A B Same
BeginsAtCrossBound points A B lower (Crosses from edge count) = IsCrossBound points A B (Crossed from edge count lower)
BeginsAtCrossBound points A B lower (Refuted k log) = A ≢ B

-- the row is one of two inputs, the lower one first, and its evidence and its end are what they say, with formulas of one kind and the lists of a frame
pub record IsJustified (kind : FormulaKind) (points : List Point) (inputs : List (List Edge)) (frame : HeldFrame) (row : Row) : Type 0 where
  pub ordered : row.i < row.j
  pub within : row.j < length inputs
  pub evidence : IsEvidence kind points frame (input_at inputs row.i) (input_at inputs row.j) row.lower row.evidence
  pub end : IsEnd kind points frame (input_at inputs row.i) (input_at inputs row.j) row.lower row.end

-- and it was earned with a budget: equal inputs need nothing, others begin at the bound by crossings, and each line of a log is new and paid for
pub record IsEarned (kind : FormulaKind) (points : List Point) (inputs : List (List Edge)) (frame : HeldFrame) (budget : ℕ) (row : Row) : Type 0 where
  pub justified : IsJustified kind points inputs frame row
  pub equal : input_at inputs row.i ≡ input_at inputs row.j → (row.lower ≡ 0) × (row.evidence ≡ Nothing) × (row.end ≡ Met [])
  pub other : (bound : CrossBound) → IsCrossBound points (input_at inputs row.i) (input_at inputs row.j) bound → least_rounds bound ≤ row.lower
  pub evidence : EarnsEvidence kind points frame (input_at inputs row.i) (input_at inputs row.j) budget row.evidence
  pub end : EarnsEnd kind points frame (input_at inputs row.i) (input_at inputs row.j) budget row.end

-- the same with the formula of a version, and with a frame of the points. They have one
abbrev pub IsJustifiedFor : ℕ → List Point → List (List Edge) → Row → Type 0
IsJustifiedFor version points inputs row = (frame : HeldFrame) × IsHeldFrame points frame × IsJustified (formula_kind version) points inputs frame row

abbrev pub IsEarnedFor : ℕ → List Point → List (List Edge) → ℕ → Row → Type 0
IsEarnedFor version points inputs budget row = (frame : HeldFrame) × IsHeldFrame points frame × IsEarned (formula_kind version) points inputs frame budget row

-- where the end is met, the edges of each round are in edge order
abbrev pub MetAscends : End → Type 0
MetAscends (Met rounds) = All IsAscending rounds
MetAscends end = Unit {0}

-- fewer rounds than the lower bound don't lead from the one input to the other
abbrev pub IsTrue : List Point → List (List Edge) → Row → Type 0
IsTrue points inputs row = (k : ℕ) → k < row.lower → ¬ Within points (input_at inputs row.i) (input_at inputs row.j) k

-- the lower bound is the exact distance: as many rounds lead there, and no fewer
abbrev pub IsExact : List Point → List (List Edge) → Row → Type 0
IsExact points inputs row = Within points (input_at inputs row.i) (input_at inputs row.j) row.lower × IsTrue points inputs row

-- where the end is met, it is
abbrev pub MetIsExact : List Point → List (List Edge) → Row → Type 0
MetIsExact points inputs row = (rounds : List (List Edge)) → row.end ≡ Met rounds → IsExact points inputs row

-- the row's bound begins as the bound by crossings of the two inputs
abbrev pub IsFromCrossBound : List Point → List (List Edge) → Row → Type 0
IsFromCrossBound points inputs row = BeginsAtCrossBound points (input_at inputs row.i) (input_at inputs row.j) row.lower row.evidence
