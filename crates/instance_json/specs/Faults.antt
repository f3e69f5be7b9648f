-- What keeps a text from being an instance, and which fault is the first.
use Rattle.std.specs.Prelude.{◌≡◌, ◌≢◌, ⊤, ℕ, List, [], ◌∷◌, length, Some, None, slice_get}
use Rattle.std.specs.declared.cmp.Ordering.TheVariants.{Less}
use Rattle.std.specs.Ordering.{nat_cmp}
use Rattle.std.specs.Cmp.Lexicographic.{slice_cmp}
use Rattle.serde_json.specs.Data.{Data}
use Rattle.serde_json.specs.Find.{get, as_object}
use Rattle.json_value.specs.Values.{IsText, IsWhole, IsFirstOther, elements}
use Rattle.instance_json.specs.Members.{name_of, number_of, IsNeeded, IsAt, HasType, numbers_of}
use Rattle.instance_json.specs.declared.fault.Member.{Member}
use Rattle.instance_json.specs.declared.fault.Member.TheVariants.{PointsX, PointsY, Triangulations, Weights}
use Rattle.instance_json.specs.declared.fault.Form.{Form}
use Rattle.instance_json.specs.declared.fault.Form.TheVariants.{NotJson, NotObject, Missing, WrongType, NotInteger, LengthMismatch, WeightCount}
use Rattle.instance_json.specs.declared.fault.InstanceFault.{InstanceFault}
use Rattle.instance_json.specs.declared.fault.InstanceFault.TheVariants as faults

-- the value of a text has the fault
abbrev pub HoldsIn : Data → Form → Type 0
HoldsIn d NotJson = ⊥
HoldsIn d NotObject = as_object d ≡ None
HoldsIn d (Missing m) = IsNeeded m × (get (name_of m) d ≡ None)
HoldsIn d (WrongType m) = (v : Data) × IsAt d m v × ¬ HasType m v
HoldsIn d (NotInteger m place) = (v e : Data) × IsAt d m v × (slice_get (numbers_of m v) place ≡ Some e) × ¬ IsWhole e
HoldsIn d (LengthMismatch x y) = (xs ys : Data) × IsAt d PointsX xs × IsAt d PointsY ys × (x ≡ length (elements xs)) × (y ≡ length (elements ys)) × (x ≢ y)
HoldsIn d (WeightCount w m) = (ws inputs : Data) × IsAt d Weights ws × IsAt d Triangulations inputs × (w ≡ length (elements ws)) × (m ≡ length (elements inputs)) × (w ≢ m)

-- the bytes have the fault: they are no text of JSON, or the value that they spell has it
abbrev pub Holds : List ℕ → Form → Type 0
Holds bytes NotJson = (d : Data) → ¬ IsText bytes d
Holds bytes f = (d : Data) × IsText bytes d × HoldsIn d f

-- the place of a fault among all faults: the number of its kind, then its member and its place
abbrev pub place_of : Form → List ℕ
place_of NotJson = 1 ∷ []
place_of NotObject = 2 ∷ []
place_of (Missing m) = 3 ∷ number_of m ∷ []
place_of (WrongType m) = 4 ∷ number_of m ∷ []
place_of (NotInteger m place) = 5 ∷ number_of m ∷ place ∷ []
place_of (LengthMismatch x y) = 6 ∷ []
place_of (WeightCount w m) = 7 ∷ []

-- the one fault is looked for before the other
abbrev pub IsEarlier : Form → Form → Type 0
IsEarlier g f = slice_cmp nat_cmp (place_of g) (place_of f) ≡ Less

-- the value of a text has the fault, and no earlier one
pub record IsFirstIn (d : Data) (f : Form) : Type 0 where
  pub holds : HoldsIn d f
  pub first : (g : Form) → IsEarlier g f → ¬ HoldsIn d g

-- the bytes have the fault, and no earlier one
pub record IsFirstFormFault (bytes : List ℕ) (f : Form) : Type 0 where
  pub holds : Holds bytes f
  pub first : (g : Form) → IsEarlier g f → ¬ Holds bytes g

-- why the value of a text is refused; want of memory is free
abbrev pub OnFaultIn : Data → InstanceFault → Type 0
OnFaultIn d (faults.Form f) = IsFirstIn d f
OnFaultIn d faults.OutOfMemory = ⊤

-- why the bytes are refused; want of memory is free
abbrev pub OnFault : List ℕ → InstanceFault → Type 0
OnFault bytes (faults.Form f) = IsFirstFormFault bytes f
OnFault bytes faults.OutOfMemory = ⊤

-- the bytes have the form of an instance
abbrev pub HasForm : List ℕ → Type 0
HasForm bytes = (f : Form) → ¬ Holds bytes f

-- the fault names the first of the member's numbers that is not whole; want of memory is free
abbrev pub IsOther : Member → List Data → InstanceFault → Type 0
IsOther m ds (faults.Form f) = (place : ℕ) × (f ≡ NotInteger m place) × IsFirstOther ds place
IsOther m ds faults.OutOfMemory = ⊤
