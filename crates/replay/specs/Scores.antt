-- Which lists of rounds are no plan of an instance, and which fault is the first.
use Rattle.std.specs.Prelude.{◌≡◌, ◌≢◌, ℕ, ◌<◌, List, length, Some, slice_get, All}
use Rattle.geo_orient.specs.declared.Point.{Point}
use Rattle.edge_table.specs.declared.edge.Edge.{Edge}
use Rattle.replay.specs.declared.fault.ScoreFault.{ScoreFault}
use Rattle.replay.specs.declared.fault.ScoreFault.TheVariants.{InputCount, Round, NoCommonCentre, OutOfMemory}
use Rattle.replay.specs.declared.fault.RoundFault.{RoundFault}
use Rattle.replay.specs.Independent.{HasNoRepeats, AreRoundsOf}
use Rattle.replay.specs.Faults.{IsFirstFault}

-- the rounds of the list with the place t lead from the input with that place to the edge set
pub record LeadsTo (points : List Point) (inputs : List (List Edge)) (lists : List (List (List Edge))) (t : ℕ) (end : List Edge) : Type 0 where
  pub input : List Edge
  pub rounds : List (List Edge)
  pub input_there : slice_get inputs t ≡ Some input
  pub rounds_there : slice_get lists t ≡ Some rounds
  pub leads : AreRoundsOf points input rounds end

-- the first fault of the list with the place t
pub record HasFirstFault (points : List Point) (inputs : List (List Edge)) (lists : List (List (List Edge))) (t : ℕ) (fault : RoundFault) : Type 0 where
  pub input : List Edge
  pub rounds : List (List Edge)
  pub input_there : slice_get inputs t ≡ Some input
  pub rounds_there : slice_get lists t ≡ Some rounds
  pub first_fault : IsFirstFault points input rounds fault

-- each list before the place t leads somewhere
abbrev pub AllLead : List Point → List (List Edge) → List (List (List Edge)) → ℕ → Type 0
AllLead points inputs lists t = (k : ℕ) → k < t → (end : List Edge) × LeadsTo points inputs lists k end

-- the list with the place t leads elsewhere than the first one, and all lists before it lead where the first one does
pub record EndsApart (points : List Point) (inputs : List (List Edge)) (lists : List (List (List Edge))) (t : ℕ) : Type 0 where
  pub centre : List Edge
  pub first : LeadsTo points inputs lists 0 centre
  pub before : (k : ℕ) → k < t → LeadsTo points inputs lists k centre
  pub end : List Edge
  pub here : LeadsTo points inputs lists t end
  pub apart : end ≢ centre

-- the first fault: another number of lists than of inputs; else the first list with a fault in its rounds; else the first list whose end isn't that of the first one; or there is no memory
abbrev pub IsScoreFault : List Point → List (List Edge) → List (List (List Edge)) → ScoreFault → Type 0
IsScoreFault points inputs lists (InputCount said is) = (said ≡ length lists) × (is ≡ length inputs) × (said ≢ is)
IsScoreFault points inputs lists (Round t fault) = (length lists ≡ length inputs) × AllLead points inputs lists t × HasFirstFault points inputs lists t fault
IsScoreFault points inputs lists (NoCommonCentre t) = (length lists ≡ length inputs) × AllLead points inputs lists (length inputs) × EndsApart points inputs lists t
IsScoreFault points inputs lists OutOfMemory = Unit {0}

-- no round of any list names an edge twice
abbrev pub AreAllDistinct : List (List (List Edge)) → Type 0
AreAllDistinct lists = All (λ rounds. All HasNoRepeats rounds) lists
