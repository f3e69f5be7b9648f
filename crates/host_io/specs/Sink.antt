-- What the calls of a sink do.
use Rattle.std.specs.Prelude.{◌≡◌, ℕ, ◌≤◌, ◌<◌, List, ◌++◌, take, length, Option, Some, None, Result, Ok, Err, OnErr}
use Rattle.host_io.specs.Store.{Rose}
use Rattle.host_io.specs.declared.fail.SinkFail.{SinkFail}

-- what was taken stands behind what was told, and a fault tells nothing
abbrev pub PutsTold : List ℕ → List ℕ → List ℕ → Result ℕ SinkFail → Type 0
PutsTold old new piece (Ok n) = new ≡ old ++ take n piece
PutsTold old new piece (Err e) = new ≡ old

-- a sink that tells nothing goes on so
abbrev pub Puts : Option (List ℕ) → Option (List ℕ) → List ℕ → Result ℕ SinkFail → Type 0
Puts None new piece result = new ≡ None
Puts (Some old) new piece result = (later : List ℕ) × (new ≡ Some later) × PutsTold old later piece result

-- the count of faults doesn't fall, and it rose where the sink failed
pub record SinkHasCause {T : Type 0} (before now : ℕ) (result : Result T SinkFail) : Type 0 where
  pub later : before ≤ now
  pub failed : OnErr result (Rose before now)

-- the sink was told all the bytes, or a first part of them where it failed, and then not all
abbrev pub TakesTold : List ℕ → List ℕ → List ℕ → Result (Unit {0}) SinkFail → Type 0
TakesTold old new bytes (Ok done) = new ≡ old ++ bytes
TakesTold old new bytes (Err e) = (n : ℕ) × (n < length bytes) × (new ≡ old ++ take n bytes)

abbrev pub Takes : Option (List ℕ) → Option (List ℕ) → List ℕ → Result (Unit {0}) SinkFail → Type 0
Takes None new bytes result = new ≡ None
Takes (Some old) new bytes result = (later : List ℕ) × (new ≡ Some later) × TakesTold old later bytes result
