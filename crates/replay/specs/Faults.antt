-- What is wrong with rounds that are no schedule, and which fault is the first.
use Rattle.std.specs.Prelude.{◌≡◌, ℕ, List, Contains, Some, slice_get, take}
use Rattle.geo_orient.specs.declared.Point.{Point}
use Rattle.edge_table.specs.declared.edge.Edge.{Edge}
use Rattle.tri_theory.specs.Flips.{Flips}
use Rattle.replay.specs.declared.fault.RoundFault.{RoundFault}
use Rattle.replay.specs.declared.fault.RoundFault.TheVariants.{NotEdge, Twice, NotConvex, SharedTriangle}
use Rattle.replay.specs.declared.fault.ReplayFault.{ReplayFault}
use Rattle.replay.specs.declared.fault.ReplayFault.TheVariants.{Round, OutOfMemory}
use Rattle.replay.specs.Independent.{AreIndependent, AreRoundsOf, ShareTriangle}

-- the place of the round that a fault is in
abbrev pub round_of : RoundFault → ℕ
round_of (NotEdge r e) = r
round_of (Twice r e) = r
round_of (NotConvex r e) = r
round_of (SharedTriangle r e f) = r

-- the edge that has a fault
abbrev pub edge_at_fault : RoundFault → Edge
edge_at_fault (NotEdge r e) = e
edge_at_fault (Twice r e) = e
edge_at_fault (NotConvex r e) = e
edge_at_fault (SharedTriangle r e f) = e

-- e is the first in the list of those with P
pub record IsFirstWith (P : Edge → Type 0) (es : List Edge) (e : Edge) : Type 0 where
  pub place : ℕ
  pub there : slice_get es place ≡ Some e
  pub holds : P e
  pub first : (f : Edge) → Contains (take place es) f → ¬ P f

-- what is wrong with an edge of a round, where the edges that stand before it can flip together: it isn't a member; else it stands before; else it doesn't flip; else it shares a triangle with an edge that stands before, the first of which is named
abbrev pub IsFaultAfter : List Point → List Edge → List Edge → RoundFault → Type 0
IsFaultAfter points edges before (NotEdge r e) = ¬ Contains edges e
IsFaultAfter points edges before (Twice r e) = Contains edges e × Contains before e
IsFaultAfter points edges before (NotConvex r e) = Contains edges e × ¬ Contains before e × ¬ Flips points edges e
IsFaultAfter points edges before (SharedTriangle r e f) = Contains edges e × ¬ Contains before e × Flips points edges e × IsFirstWith (ShareTriangle points edges e) before f

-- the fault is the first one in a round: the edges that stand before have none, so they can flip together
pub record IsFaultIn (points : List Point) (edges round : List Edge) (fault : RoundFault) : Type 0 where
  pub place : ℕ
  pub there : slice_get round place ≡ Some (edge_at_fault fault)
  pub before : AreIndependent points edges (take place round)
  pub fault_after : IsFaultAfter points edges (take place round) fault

-- the fault is the first one: the rounds before its round have none, so they lead from the start to some edge set, in which it is the first one in its round
pub record IsFirstFault (points : List Point) (start : List Edge) (rounds : List (List Edge)) (fault : RoundFault) : Type 0 where
  pub edges : List Edge
  pub before : AreRoundsOf points start (take (round_of fault) rounds) edges
  pub round : List Edge
  pub there : slice_get rounds (round_of fault) ≡ Some round
  pub fault_in : IsFaultIn points edges round fault

-- a refusal names the first fault, or there is no memory
abbrev pub IsRefusal : List Point → List Edge → List (List Edge) → ReplayFault → Type 0
IsRefusal points start rounds (Round fault) = IsFirstFault points start rounds fault
IsRefusal points start rounds OutOfMemory = Unit {0}
