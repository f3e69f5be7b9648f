-- What a fault says of the values.
use Rattle.std.specs.Prelude.{◌≡◌, ℕ, ◌+◌, ⊤, List}
use Rattle.serde_json.specs.Data.{Data}
use Rattle.json_value.specs.Values.{IsFirstOther}
use Rattle.json_value.specs.declared.text.NumberFault.{NumberFault}
use Rattle.json_value.specs.declared.text.NumberFault.TheVariants.{NotInteger, OutOfMemory}

-- the fault names the first of the values that is no whole number; want of memory says nothing
abbrev pub OnOther : NumberFault → List Data → Type 0
OnOther (NotInteger k) ds = IsFirstOther ds k
OnOther OutOfMemory ds = ⊤

-- the fault is the other one, with so many numbers before
abbrev pub IsMoved : NumberFault → ℕ → NumberFault → Type 0
IsMoved e before (NotInteger p) = (k : ℕ) × (e ≡ NotInteger k) × (p ≡ before + k)
IsMoved e before OutOfMemory = ⊤
