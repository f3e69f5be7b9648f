-- What keeps a text from being a solution, and which fault is the first.
use Rattle.std.specs.Prelude.{◌≡◌, ⊤, ℕ, ◌+◌, ◌*◌, List, [], ◌∷◌, Some, None, slice_get}
use Rattle.std.specs.declared.cmp.Ordering.TheVariants.{Less}
use Rattle.std.specs.Ordering.{nat_cmp}
use Rattle.std.specs.Cmp.Lexicographic.{slice_cmp}
use Rattle.serde_json.specs.Data.{Data}
use Rattle.serde_json.specs.Find.{get, as_object}
use Rattle.json_value.specs.Values.{IsText, IsWhole, IsFirstNot, IsFirstOther}
use Rattle.json_value.specs.declared.text.NumberFault.{NumberFault}
use Rattle.json_value.specs.declared.text.NumberFault.TheVariants as numbers
use Rattle.tri_check.specs.declared.raw.RawPair.{RawPair}
use Rattle.solution_json.specs.Edges.{IsEdgePair, NamesEdge}
use Rattle.solution_json.specs.declared.edges.PairFault.{PairFault}
use Rattle.solution_json.specs.declared.edges.PairFault.TheVariants as pairs
use Rattle.solution_json.specs.Members.{name_of, number_of, IsAt, HasType, pairs_of_flips, numbers_of_flips}
use Rattle.solution_json.specs.declared.fault.SolMember.TheVariants.{Flips}
use Rattle.solution_json.specs.declared.fault.SolForm.{SolForm}
use Rattle.solution_json.specs.declared.fault.SolForm.TheVariants.{NotJson, NotObject, Missing, WrongType, NotInteger, BadPair}
use Rattle.solution_json.specs.declared.fault.SolutionFault.{SolutionFault}
use Rattle.solution_json.specs.declared.fault.SolutionFault.TheVariants as faults

-- the value of a text has the fault
abbrev pub HoldsIn : Data → SolForm → Type 0
HoldsIn d NotJson = ⊥
HoldsIn d NotObject = as_object d ≡ None
HoldsIn d (Missing m) = get (name_of m) d ≡ None
HoldsIn d (WrongType m) = (v : Data) × IsAt d m v × ¬ HasType m v
HoldsIn d (NotInteger place) = (v e : Data) × IsAt d Flips v × (slice_get (numbers_of_flips v) place ≡ Some e) × ¬ IsWhole e
HoldsIn d (BadPair place) = (v p : Data) × (k : ℕ) × IsAt d Flips v × (slice_get (pairs_of_flips v) k ≡ Some p) × (¬ IsEdgePair p) × (place ≡ 2 * k)

-- the bytes have the fault: they are no text of JSON, or the value that they spell has it
abbrev pub Holds : List ℕ → SolForm → Type 0
Holds bytes NotJson = (d : Data) → ¬ IsText bytes d
Holds bytes f = (d : Data) × IsText bytes d × HoldsIn d f

-- the place of a fault among all faults: the number of its kind, then its member or its place
abbrev pub place_of : SolForm → List ℕ
place_of NotJson = 1 ∷ []
place_of NotObject = 2 ∷ []
place_of (Missing m) = 3 ∷ number_of m ∷ []
place_of (WrongType m) = 4 ∷ number_of m ∷ []
place_of (NotInteger place) = 5 ∷ place ∷ []
place_of (BadPair place) = 6 ∷ place ∷ []

-- the one fault is looked for before the other
abbrev pub IsEarlier : SolForm → SolForm → Type 0
IsEarlier g f = slice_cmp nat_cmp (place_of g) (place_of f) ≡ Less

-- the value of a text has the fault, and no earlier one
pub record IsFirstIn (d : Data) (f : SolForm) : Type 0 where
  pub holds : HoldsIn d f
  pub first : (g : SolForm) → IsEarlier g f → ¬ HoldsIn d g

-- the bytes have the fault, and no earlier one
pub record IsFirstSolFault (bytes : List ℕ) (f : SolForm) : Type 0 where
  pub holds : Holds bytes f
  pub first : (g : SolForm) → IsEarlier g f → ¬ Holds bytes g

-- why the value of a text is refused; want of memory is free
abbrev pub OnFaultIn : Data → SolutionFault → Type 0
OnFaultIn d (faults.Form f) = IsFirstIn d f
OnFaultIn d faults.OutOfMemory = ⊤

-- why the bytes are refused; want of memory is free
abbrev pub OnFault : List ℕ → SolutionFault → Type 0
OnFault bytes (faults.Form f) = IsFirstSolFault bytes f
OnFault bytes faults.OutOfMemory = ⊤

-- the bytes have the form of a solution
abbrev pub HasForm : List ℕ → Type 0
HasForm bytes = (f : SolForm) → ¬ Holds bytes f

-- ---- faults of the flips, with so many numbers or pairs before
-- the fault names the number that the other one names
abbrev pub IsNumberFault : NumberFault → ℕ → SolutionFault → Type 0
IsNumberFault e before (faults.Form f) = (k : ℕ) × (e ≡ numbers.NotInteger k) × (f ≡ NotInteger (before + k))
IsNumberFault e before faults.OutOfMemory = ⊤

-- the fault names the pair that the other one names
abbrev pub IsPairFault : PairFault → ℕ → SolutionFault → Type 0
IsPairFault e before (faults.Form f) = (k : ℕ) × (e ≡ pairs.BadPair k) × (f ≡ BadPair (2 * (before + k)))
IsPairFault e before faults.OutOfMemory = ⊤

-- the fault names the first of the values that is no whole number
abbrev pub OnNumbers : SolutionFault → List Data → Type 0
OnNumbers (faults.Form f) ds = (k : ℕ) × (f ≡ NotInteger k) × IsFirstOther ds k
OnNumbers faults.OutOfMemory ds = ⊤

-- the fault names the first number of the first of the pairs that names no edge
abbrev pub OnPairs : SolutionFault → List RawPair → Type 0
OnPairs (faults.Form f) ps = (k : ℕ) × (f ≡ BadPair (2 * k)) × IsFirstNot NamesEdge ps k
OnPairs faults.OutOfMemory ps = ⊤
