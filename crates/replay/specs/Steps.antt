-- What the steps of a replay have done.
use Rattle.std.specs.Prelude.{◌≡◌, ◌≢◌, ◌⊎◌, ℕ, List, take, Contains, Option, None, Some, slice_get, cond, nat_lt}
use Rattle.geo_orient.specs.declared.Point.{Point}
use Rattle.edge_table.specs.declared.edge.Edge.{Edge}
use Rattle.edge_table.specs.Edges.{edge}
use Rattle.tri_theory.specs.Flips.{Flips}
use Rattle.flip_mesh.specs.declared.mesh.Quad.{Quad}
use Rattle.replay.specs.declared.fault.ReplayFault.{ReplayFault}
use Rattle.replay.specs.declared.fault.ReplayFault.TheVariants.{Round, OutOfMemory}
use Rattle.replay.specs.Independent.{AreIndependent, ShareTriangle}
use Rattle.replay.specs.Faults.{round_of, IsFaultIn}

-- f is one of the four sides of the quadrilateral
abbrev pub IsOuterSide : Quad → Edge → Type 0
IsOuterSide q f = (f ≡ edge q.a q.b) ⊎ ((f ≡ edge q.b q.c) ⊎ ((f ≡ edge q.c q.d) ⊎ (f ≡ edge q.d q.a)))

-- each side of the quadrilateral joins two points
pub record AreCornersApart (q : Quad) : Type 0 where
  pub ab : q.a ≢ q.b
  pub bc : q.b ≢ q.c
  pub cd : q.c ≢ q.d
  pub da : q.d ≢ q.a

-- f stands at this place, and is the first in the list of those with P
pub record IsFirstAt (P : Edge → Type 0) (es : List Edge) (i : ℕ) (f : Edge) : Type 0 where
  pub there : slice_get es i ≡ Some f
  pub holds : P f
  pub first : (g : Edge) → Contains (take i es) g → ¬ P g

-- the place of the first in the list of those with P, where there is one
abbrev pub IsFirstPlace : (Edge → Type 0) → List Edge → Option ℕ → Type 0
IsFirstPlace P es None = (f : Edge) → Contains es f → ¬ P f
IsFirstPlace P es (Some i) = (f : Edge) × IsFirstAt P es i f

-- the lower of two places, where there is one
abbrev pub earlier : Option ℕ → Option ℕ → Option ℕ
earlier None b = b
earlier (Some i) None = Some i
earlier (Some i) (Some j) = cond (nat_lt i j) (Some i) (Some j)

-- e can be taken after the edges before it: it flips, and shares no triangle with them
pub record IsEdgeTaken (points : List Point) (edges before : List Edge) (e : Edge) : Type 0 where
  pub flips : Flips points edges e
  pub fresh : ¬ Contains before e
  pub apart : (f : Edge) → Contains before f → ¬ ShareTriangle points edges e f

-- all edges of a round are taken, and can flip together
pub record AreTaken (points : List Point) (edges round taken : List Edge) : Type 0 where
  pub all_taken : taken ≡ round
  pub independent : AreIndependent points edges round

-- the round with the place r is refused for its first fault, or there is no memory
abbrev pub IsRoundRefusal : List Point → List Edge → ℕ → List Edge → ReplayFault → Type 0
IsRoundRefusal points edges r round (Round fault) = (round_of fault ≡ r) × IsFaultIn points edges round fault
IsRoundRefusal points edges r round OutOfMemory = Unit {0}
