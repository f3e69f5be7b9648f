-- Edges that flip together in one round, and rounds of such edges.
use Rattle.std.specs.Prelude.{◌≡◌, ◌≢◌, ◌⊎◌, ℕ, List, All, AllPairs, Contains}
use Rattle.geo_orient.specs.declared.Point.{Point}
use Rattle.edge_table.specs.declared.edge.Edge.{Edge}
use Rattle.edge_table.specs.Edges.{edge}
use Rattle.tri_theory.specs.Triangulations.{AreJoined, IsEmptyTriangle}
use Rattle.tri_theory.specs.Flips.{Flips}
use Rattle.tri_theory.specs.Rounds.{IsSchedule}

-- no edge is named twice
abbrev pub HasNoRepeats : List Edge → Type 0
HasNoRepeats es = AllPairs ◌≢◌ es

-- edges that can flip together: each of them flips, none is named twice, and no empty triangle has two sides among them
pub record AreIndependent (points : List Point) (edges es : List Edge) : Type 0 where
  pub flips : (e : Edge) → Contains es e → Flips points edges e
  pub distinct : HasNoRepeats es
  pub apart : (a b c : ℕ) → IsEmptyTriangle points edges a b c → AreJoined es a b → ¬ AreJoined es b c

-- rounds that lead from one edge set to another, none of which names an edge twice
pub record AreRoundsOf (points : List Point) (from : List Edge) (rounds : List (List Edge)) (to : List Edge) : Type 0 where
  pub distinct : All HasNoRepeats rounds
  pub leads : IsSchedule points from rounds to

-- e is a side of the triangle a, b, c
abbrev pub IsSide : ℕ → ℕ → ℕ → Edge → Type 0
IsSide a b c e = (e ≡ edge a b) ⊎ ((e ≡ edge b c) ⊎ (e ≡ edge c a))

-- e and f are sides of one empty triangle
abbrev pub ShareTriangle : List Point → List Edge → Edge → Edge → Type 0
ShareTriangle points edges e f = (a b c : ℕ) × IsEmptyTriangle points edges a b c × IsSide a b c e × IsSide a b c f
