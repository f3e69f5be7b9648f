-- The values of JSON texts: whole numbers, lists, and pairs of numbers in lists.
use Rattle.std.specs.Prelude.{◌≡◌, ℕ, ℤ, List, [], ◌∷◌, ◌++◌, length, All, IsUtf8, Option, Some, option_and_then}
use Rattle.std.specs.List.{AllZip, flat_map}
use Rattle.std.specs.Option.{option_map_or}
use Rattle.serde_json.specs.Data.{Data, Items, no_items, item}
use Rattle.serde_json.specs.Read.{read}
use Rattle.serde_json.specs.Find.{as_array, as_number, as_i64}
use Rattle.serde_json.specs.View.{items_of}
use Rattle.tri_check.specs.declared.raw.RawPair.{RawPair}

-- the bytes are a text of JSON, which stands for d
abbrev pub IsText : List ℕ → Data → Type 0
IsText bytes d = IsUtf8 bytes × (read bytes ≡ Some d)

-- ---- whole numbers
-- the whole number that the value is, if it is one and fits 64 bits with a sign
abbrev pub whole_of : Data → Option ℤ
whole_of d = option_and_then as_i64 (as_number d)

abbrev pub IsNumber : Data → ℤ → Type 0
IsNumber d z = whole_of d ≡ Some z

abbrev pub IsWhole : Data → Type 0
IsWhole d = (z : ℤ) × IsNumber d z

-- ---- lists
-- the value is the list of these elements
abbrev pub IsList : Data → List Data → Type 0
IsList d es = as_array d ≡ Some (items_of es)

-- the value is a list of such elements
abbrev pub IsListOf : (Data → Type 0) → Data → Type 0
IsListOf P d = (es : List Data) × IsList d es × All P es

-- the value is a list, and its elements stand for these, one by one
abbrev pub Lists : {X : Type 0} → (Data → X → Type 0) → Data → List X → Type 0
Lists R d xs = (es : List Data) × IsList d es × AllZip R es xs

abbrev pub list_of : Items → List Data
list_of no_items = []
list_of (item d ds) = d ∷ list_of ds

-- the elements of a list; what is no list has none
abbrev pub elements : Data → List Data
elements d = option_map_or list_of (as_array d) []

-- the first element of which P doesn't hold has this place
abbrev pub IsFirstNot : {X : Type 0} → (X → Type 0) → List X → ℕ → Type 0
IsFirstNot {X} P xs k = (before : List X) × (x : X) × (after : List X) × (xs ≡ before ++ x ∷ after) × All P before × (¬ P x) × (k ≡ length before)

-- the first of these values that is no whole number has this place
abbrev pub IsFirstOther : List Data → ℕ → Type 0
IsFirstOther ds k = IsFirstNot IsWhole ds k

-- ---- pairs of numbers
-- the value is a list of two
abbrev pub IsPair : Data → Type 0
IsPair d = (a b : Data) × IsList d (a ∷ b ∷ [])

-- the numbers of a list of pairs, one after another
abbrev pub numbers_of_pairs : Data → List Data
numbers_of_pairs d = flat_map elements (elements d)

-- the numbers of a list of lists of pairs, one after another
abbrev pub numbers_of_lists : Data → List Data
numbers_of_lists d = flat_map numbers_of_pairs (elements d)

-- the value is a list of two whole numbers, and they are those of the pair
abbrev pub IsPairOf : Data → RawPair → Type 0
IsPairOf d pair = (a b : Data) × IsList d (a ∷ b ∷ []) × IsNumber a pair.a × IsNumber b pair.b
