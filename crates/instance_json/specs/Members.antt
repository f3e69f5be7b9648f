-- The members of an instance's object: their names, types and numbers.
use Rattle.std.specs.Prelude.{◌≡◌, ◌≢◌, ℕ, List, [], codes, Some}
use Rattle.serde_json.specs.Data.{Data}
use Rattle.serde_json.specs.Find.{get, as_str}
use Rattle.json_value.specs.Values.{IsList, IsListOf, IsPair, elements, numbers_of_lists}
use Rattle.instance_json.specs.declared.fault.Member.{Member}
use Rattle.instance_json.specs.declared.fault.Member.TheVariants.{Uid, PointsX, PointsY, Triangulations, Weights}

abbrev pub name_of : Member → List ℕ
name_of Uid = codes "instance_uid"
name_of PointsX = codes "points_x"
name_of PointsY = codes "points_y"
name_of Triangulations = codes "triangulations"
name_of Weights = codes "x_weights"

-- the order in which members are looked for
abbrev pub number_of : Member → ℕ
number_of Uid = 0
number_of PointsX = 1
number_of PointsY = 2
number_of Triangulations = 3
number_of Weights = 4

-- the object may not lack the member
abbrev pub IsNeeded : Member → Type 0
IsNeeded m = m ≢ Weights

-- the object has this value at the member
abbrev pub IsAt : Data → Member → Data → Type 0
IsAt d m v = get (name_of m) d ≡ Some v

-- the value has the type that the member wants
abbrev pub HasType : Member → Data → Type 0
HasType Uid v = (text : List ℕ) × (as_str v ≡ Some text)
HasType PointsX v = (es : List Data) × IsList v es
HasType PointsY v = (es : List Data) × IsList v es
HasType Triangulations v = IsListOf (IsListOf IsPair) v
HasType Weights v = (es : List Data) × IsList v es

-- the elements of the value that are to be whole numbers, in the order of the text
abbrev pub numbers_of : Member → Data → List Data
numbers_of Uid v = []
numbers_of PointsX v = elements v
numbers_of PointsY v = elements v
numbers_of Triangulations v = numbers_of_lists v
numbers_of Weights v = elements v
