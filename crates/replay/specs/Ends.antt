-- What the steps of a score have found.
use Rattle.std.specs.Prelude.{◌≡◌, ◌≢◌, ℕ, ◌<◌, List, Option, None, Some}
use Rattle.std.specs.List.{AllZip}
use Rattle.geo_orient.specs.declared.Point.{Point}
use Rattle.edge_table.specs.declared.edge.Edge.{Edge}
use Rattle.replay.specs.declared.fault.ScoreFault.{ScoreFault}
use Rattle.replay.specs.declared.fault.ScoreFault.TheVariants.{InputCount, Round, NoCommonCentre, OutOfMemory}
use Rattle.replay.specs.Independent.{AreRoundsOf}
use Rattle.replay.specs.Scores.{LeadsTo, HasFirstFault, EndsApart}

-- the list with the place t is refused for its first fault, or there is no memory
abbrev pub IsEndFault : List Point → List (List Edge) → List (List (List Edge)) → ℕ → ScoreFault → Type 0
IsEndFault points inputs lists t (InputCount said is) = ⊥
IsEndFault points inputs lists t (Round k fault) = (k ≡ t) × HasFirstFault points inputs lists t fault
IsEndFault points inputs lists t (NoCommonCentre k) = ⊥
IsEndFault points inputs lists t OutOfMemory = Unit {0}

-- all lists lead to the edge set, and there are as many of them as inputs
abbrev pub IsCentre : List Point → List (List Edge) → List (List (List Edge)) → List Edge → Type 0
IsCentre points inputs lists centre = AllZip (λ input rounds. AreRoundsOf points input rounds centre) inputs lists

-- the first list before the place t whose end isn't the centre, where there is one
abbrev pub IsApart : List Point → List (List Edge) → List (List (List Edge)) → ℕ → List Edge → Option ℕ → Type 0
IsApart points inputs lists t centre None = (k : ℕ) → k < t → LeadsTo points inputs lists k centre
IsApart points inputs lists t centre (Some s) = EndsApart points inputs lists s

-- the old answer where there is one, else t where the ends differ
abbrev pub IsNextApart : Option ℕ → ℕ → List Edge → List Edge → Option ℕ → Type 0
IsNextApart (Some s) t end centre new = new ≡ Some s
IsNextApart None t end centre None = end ≡ centre
IsNextApart None t end centre (Some s) = (s ≡ t) × (end ≢ centre)
