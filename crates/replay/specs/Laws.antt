-- The laws of first faults. Each is the contract of a function of the crate, so each is proved.
use Rattle.std.specs.Prelude.{◌≡◌, ◌≢◌, List}
use Rattle.geo_orient.specs.declared.Point.{Point}
use Rattle.edge_table.specs.declared.edge.Edge.{Edge}
use Rattle.tri_theory.specs.Points.{ArePlaced}
use Rattle.tri_theory.specs.Triangulations.{IsTriangulation}
use Rattle.tri_theory.specs.Rounds.{IsPlan}
use Rattle.tri_check.specs.Problems.{IsProblem}
use Rattle.replay.specs.declared.fault.RoundFault.{RoundFault}
use Rattle.replay.specs.declared.fault.ScoreFault.{ScoreFault}
use Rattle.replay.specs.declared.fault.ScoreFault.TheVariants.{OutOfMemory}
use Rattle.replay.specs.Independent.{AreRoundsOf}
use Rattle.replay.specs.Faults.{IsFirstFault}
use Rattle.replay.specs.Scores.{AreAllDistinct, IsScoreFault}

-- rounds lead to one edge set at most
abbrev pub EndsAreUnique : Type 0
EndsAreUnique = (points : List Point) (start : List Edge) (rounds : List (List Edge)) (a b : List Edge) → AreRoundsOf points start rounds a → AreRoundsOf points start rounds b → a ≡ b

-- rounds that lead on have no fault
abbrev pub SchedulesHaveNoFault : Type 0
SchedulesHaveNoFault =
    (points : List Point) (start to : List Edge) (rounds : List (List Edge)) (fault : RoundFault) → ArePlaced points → IsTriangulation points start → AreRoundsOf points start rounds to
    → ¬ IsFirstFault points start rounds fault

-- and others one first fault at most
abbrev pub FirstFaultsAreUnique : Type 0
FirstFaultsAreUnique =
    (points : List Point) (start : List Edge) (rounds : List (List Edge)) (f g : RoundFault) → ArePlaced points → IsTriangulation points start → IsFirstFault points start rounds f → IsFirstFault points start rounds g
    → f ≡ g

-- a plan whose rounds name no edge twice has no fault but want of memory
abbrev pub PlansHaveNoFault : Type 0
PlansHaveNoFault =
    (points : List Point) (inputs : List (List Edge)) (centre : List Edge) (lists : List (List (List Edge))) (fault : ScoreFault) → IsProblem points inputs → IsPlan points inputs centre lists → AreAllDistinct lists → fault ≢ OutOfMemory
    → ¬ IsScoreFault points inputs lists fault

-- and other lists have one first fault at most
abbrev pub ScoreFaultsAreUnique : Type 0
ScoreFaultsAreUnique =
    (points : List Point) (inputs : List (List Edge)) (lists : List (List (List Edge))) (f g : ScoreFault) → IsProblem points inputs → f ≢ OutOfMemory → g ≢ OutOfMemory → IsScoreFault points inputs lists f → IsScoreFault points inputs lists g
    → f ≡ g
