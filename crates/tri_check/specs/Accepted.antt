-- What the validator answers.
use Rattle.std.specs.Prelude.{◌≡◌, ⊤, ℕ, ℤ, pos, List, map}
use Rattle.std.specs.List.{AllZip}
use Rattle.geo_orient.specs.declared.Point.{Point}
use Rattle.tri_check.specs.declared.raw.RawPair.{RawPair}
use Rattle.tri_check.specs.declared.fault.CheckFault.{CheckFault}
use Rattle.tri_check.specs.declared.fault.CheckFault.TheVariants as fault
use Rattle.tri_check.specs.Problems.{Problem}
use Rattle.tri_check.specs.Faults.{IsCompletedInput, IsFirstFault, IsValid}

-- the raw values have no fault; the name, the points and the weights are kept, and each input becomes what its pairs stand for
pub record IsAccepted (name : List ℕ) (listed : List Point) (raw : List (List RawPair)) (counts : List ℤ) (problem : Problem) : Type 0 where
  pub uid : problem.uid ≡ name
  pub points : problem.points ≡ listed
  pub inputs : AllZip (IsCompletedInput listed) raw problem.inputs
  pub weights : counts ≡ map pos problem.weights
  pub valid : IsValid listed raw counts

-- a refusal names the first fault, or says that memory is wanting; then it says nothing of the values
abbrev pub IsRefusal : List Point → List (List RawPair) → List ℤ → CheckFault → Type 0
IsRefusal points inputs weights (fault.Bad b) = IsFirstFault points inputs weights b
IsRefusal points inputs weights fault.OutOfMemory = ⊤
