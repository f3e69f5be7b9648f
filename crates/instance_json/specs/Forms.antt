-- The raw instance that a text spells.
use Rattle.std.specs.Prelude.{◌≡◌, ℕ, ℤ, pos, List, length, map, replicate, Option, Some, None, ⊤}
use Rattle.std.specs.List.{AllZip}
use Rattle.serde_json.specs.Data.{Data}
use Rattle.serde_json.specs.Find.{get, as_str}
use Rattle.tri_check.specs.declared.raw.RawInstance.{RawInstance}
use Rattle.json_value.specs.Values.{IsText, IsNumber, IsList, IsPairOf, Lists}
use Rattle.instance_json.specs.Members.{name_of, IsAt}
use Rattle.instance_json.specs.declared.fault.Member.TheVariants.{Uid, PointsX, PointsY, Triangulations, Weights}

-- ---- the weights, which may be missing
-- the value is the list of these elements; where there is no value, there is no list
abbrev pub IsListIfAny : Option Data → Option (List Data) → Type 0
IsListIfAny None None = ⊤
IsListIfAny None (Some es) = ⊥
IsListIfAny (Some v) None = ⊥
IsListIfAny (Some v) (Some es) = IsList v es

-- the elements are the weights; where there is no list, each of so many inputs weighs 1
abbrev pub WeighInputs : Option (List Data) → ℕ → List ℤ → Type 0
WeighInputs None m weights = weights ≡ replicate m (pos 1)
WeighInputs (Some es) m weights = AllZip IsNumber es weights

-- the value lists the weights; where there is none, each of so many inputs weighs 1
abbrev pub IsWeights : Option Data → ℕ → List ℤ → Type 0
IsWeights None m weights = weights ≡ replicate m (pos 1)
IsWeights (Some v) m weights = Lists IsNumber v weights

-- ---- the whole

-- the value of a text has these values at its members, the last if any
pub record HasMembers (d u x y t : Data) (w : Option Data) : Type 0 where
  pub uid : IsAt d Uid u
  pub xs : IsAt d PointsX x
  pub ys : IsAt d PointsY y
  pub inputs : IsAt d Triangulations t
  pub weights : get (name_of Weights) d ≡ w

-- the value of a text has this string and these lists at its members, the last if any
pub record HasLists (d : Data) (u : List ℕ) (x y t : List Data) (w : Option (List Data)) : Type 0 where
  pub uid : (v : Data) × IsAt d Uid v × (as_str v ≡ Some u)
  pub xs : (v : Data) × IsAt d PointsX v × IsList v x
  pub ys : (v : Data) × IsAt d PointsY v × IsList v y
  pub inputs : (v : Data) × IsAt d Triangulations v × IsList v t
  pub weights : IsListIfAny (get (name_of Weights) d) w

-- the value of a text spells the raw instance: its name, the x and the y of its points, the pairs of its inputs, and their weights, each 1 where the text has none
pub record IsRaw (d : Data) (raw : RawInstance) : Type 0 where
  pub uid : (v : Data) × IsAt d Uid v × (as_str v ≡ Some raw.uid)
  pub xs : (v : Data) × IsAt d PointsX v × Lists IsNumber v (map (λ p. p.x) raw.points)
  pub ys : (v : Data) × IsAt d PointsY v × Lists IsNumber v (map (λ p. p.y) raw.points)
  pub inputs : (v : Data) × IsAt d Triangulations v × Lists (Lists IsPairOf) v raw.inputs
  pub weights : IsWeights (get (name_of Weights) d) (length raw.inputs) raw.weights

-- the bytes spell the raw instance
pub record Spells (bytes : List ℕ) (raw : RawInstance) : Type 0 where
  pub value : Data
  pub text : IsText bytes value
  pub is : IsRaw value raw

-- a text spells one raw instance at most
abbrev pub TextsSpellOnce : Type 0
TextsSpellOnce = (bytes : List ℕ) (r s : RawInstance) → Spells bytes r → Spells bytes s → r ≡ s
