-- The members of a solution's object: their names and types, and the pairs and numbers of its flips.
use Rattle.std.specs.Prelude.{◌≡◌, ℕ, List, codes, Some}
use Rattle.std.specs.List.{flat_map}
use Rattle.serde_json.specs.Data.{Data}
use Rattle.serde_json.specs.Find.{get, as_str}
use Rattle.json_value.specs.Values.{IsListOf, IsPair, elements, numbers_of_lists}
use Rattle.solution_json.specs.declared.fault.SolMember.{SolMember}
use Rattle.solution_json.specs.declared.fault.SolMember.TheVariants.{Uid, Flips}

abbrev pub name_of : SolMember → List ℕ
name_of Uid = codes "instance_uid"
name_of Flips = codes "flips"

-- the order in which members are looked for
abbrev pub number_of : SolMember → ℕ
number_of Uid = 0
number_of Flips = 1

-- the object has this value at the member
abbrev pub IsAt : Data → SolMember → Data → Type 0
IsAt d m v = get (name_of m) d ≡ Some v

-- the value has the type that the member wants: a string, or a list of lists of rounds, which are lists of pairs
abbrev pub HasType : SolMember → Data → Type 0
HasType Uid v = (text : List ℕ) × (as_str v ≡ Some text)
HasType Flips v = IsListOf (IsListOf (IsListOf IsPair)) v

-- the pairs of a list of rounds, one after another
abbrev pub pairs_of_rounds : Data → List Data
pairs_of_rounds d = flat_map elements (elements d)

-- the pairs of all rounds of all lists, one after another
abbrev pub pairs_of_flips : Data → List Data
pairs_of_flips d = flat_map pairs_of_rounds (elements d)

-- the numbers of all pairs, one after another
abbrev pub numbers_of_flips : Data → List Data
numbers_of_flips d = flat_map numbers_of_lists (elements d)
