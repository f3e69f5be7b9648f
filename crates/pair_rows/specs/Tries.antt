-- What a try of a number of rounds comes to with the pruned formula, and what tries lead to.
use Rattle.std.specs.Prelude.{◌≡◌, ◌≢◌, ℕ, ◌≤◌, List}
use Rattle.geo_orient.specs.declared.Point.{Point}
use Rattle.edge_table.specs.declared.edge.Edge.{Edge}
use Rattle.bound_law.specs.Bounds.{input_at}
use Rattle.cross_bound.specs.declared.bound.CrossBound.{CrossBound}
use Rattle.cross_bound.specs.Bounds.{IsCrossBound}
use Rattle.flip_cnf.specs.HeldFrames.{HeldFrame}
use Rattle.sat_search.specs.Answers.{IsRefutation}
use Rattle.pair_rows.specs.declared.proving.Tried.{Tried}
use Rattle.pair_rows.specs.declared.proving.Tried.TheVariants.{Refuted, Ended}
use Rattle.pair_rows.specs.declared.row.Evidence.{Evidence}
use Rattle.pair_rows.specs.declared.row.Row.{Row}
use Rattle.pair_rows.specs.Versions.{Pruned}
use Rattle.pair_rows.specs.Rows.{OfBuilt, IsEvidence, IsEnd, EarnsEvidence, EarnsEnd, MetAscends, least_rounds, BeginsAtCrossBound}

-- a log that refutes the formula of k rounds within the budget, or an end that a row with the lower bound k earns
abbrev pub IsTried : List Point → HeldFrame → List Edge → List Edge → ℕ → ℕ → Tried → Type 0
IsTried points frame A B budget k (Refuted log) = OfBuilt Pruned points frame A B k (λ built. IsRefutation built budget log)
IsTried points frame A B budget k (Ended end) = IsEnd Pruned points frame A B k end × EarnsEnd Pruned points frame A B budget end × MetAscends end

-- a lower bound of two that differ, which its evidence shows and earns, from the bound by crossings up
pub record IsBound (points : List Point) (frame : HeldFrame) (A B : List Edge) (budget lower : ℕ) (evidence : Evidence) : Type 0 where
  pub differ : A ≢ B
  pub shown : IsEvidence Pruned points frame A B lower evidence
  pub earned : EarnsEvidence Pruned points frame A B budget evidence
  pub least : (bound : CrossBound) → IsCrossBound points A B bound → least_rounds bound ≤ lower
  pub begins : BeginsAtCrossBound points A B lower evidence

-- a row of these inputs with such a bound and an end that it earns
pub record IsClimbed (points : List Point) (inputs : List (List Edge)) (frame : HeldFrame) (budget i j : ℕ) (row : Row) : Type 0 where
  pub first : row.i ≡ i
  pub second : row.j ≡ j
  pub bound : IsBound points frame (input_at inputs i) (input_at inputs j) budget row.lower row.evidence
  pub end : IsEnd Pruned points frame (input_at inputs i) (input_at inputs j) row.lower row.end
  pub earned : EarnsEnd Pruned points frame (input_at inputs i) (input_at inputs j) budget row.end
  pub ascends : MetAscends row.end
