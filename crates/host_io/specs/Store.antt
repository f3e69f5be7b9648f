-- What the calls of a store do.
use Rattle.std.specs.Prelude.{◌≡◌, ◌⊎◌, ℕ, ◌+◌, ◌-◌, ◌^◌, ◌≤◌, min, List, take, Option, Some, None, Result, Ok, Err, IsErrOf}
use Rattle.std.specs.Ordering.{nat_cmp}
use Rattle.std.specs.Cmp.Lexicographic.{slice_cmp}
use Rattle.std.specs.FinMap as map
use Rattle.host_io.specs.declared.fail.StoreFail.{StoreFail}
use Rattle.host_io.specs.declared.fail.StoreFail.TheVariants.{Failed, NotHeld, OutOfMemory}

-- byte lists under names
abbrev pub Held : Type 0
Held = map.FinMap (slice_cmp nat_cmp) (List ℕ)

-- a count after one event more: it stands still at the end of a u64
abbrev pub one_more : ℕ → ℕ
one_more n = min (n + 1) (2 ^ 64 - 1)

-- exactly one event was counted
abbrev pub Counts : ℕ → ℕ → Type 0
Counts before now = now ≡ one_more before

-- an event was counted; a count at its end counts as risen
abbrev pub Rose : ℕ → ℕ → Type 0
Rose before now = one_more before ≤ now

-- the count of faults doesn't fall, and `Failed` is told only where it rose
pub record HasCause {T : Type 0} (before now : ℕ) (result : Result T StoreFail) : Type 0 where
  pub later : before ≤ now
  pub failed : IsErrOf result Failed → Rose before now

-- a read of a store that tells what it holds changes nothing that is held
abbrev pub ReadsTold : Held → List ℕ → Result (List ℕ) StoreFail → Type 0
ReadsTold held name (Ok bytes) = map.get held name ≡ Some bytes
ReadsTold held name (Err NotHeld) = map.get held name ≡ None
ReadsTold held name (Err Failed) = Unit {0}
ReadsTold held name (Err OutOfMemory) = Unit {0}

-- a store that tells nothing goes on so, and doesn't know that a name isn't held
abbrev pub Reads : Option Held → Option Held → List ℕ → Result (List ℕ) StoreFail → Type 0
Reads None new name result = (new ≡ None) × (IsErrOf result NotHeld → ⊥)
Reads (Some held) new name result = (new ≡ Some held) × ReadsTold held name result

-- where the store tells what it holds, a read counts a fault only where it fails
abbrev pub CountsReads : Option Held → ℕ → ℕ → Result (List ℕ) StoreFail → Type 0
CountsReads None before now result = Unit {0}
CountsReads (Some held) before now (Ok bytes) = now ≡ before
CountsReads (Some held) before now (Err NotHeld) = now ≡ before
CountsReads (Some held) before now (Err Failed) = Unit {0}
CountsReads (Some held) before now (Err OutOfMemory) = now ≡ before

-- after a write that failed: all as before, or a first part of the bytes under the name
abbrev pub Leaves : Held → Held → List ℕ → List ℕ → Type 0
Leaves old new name bytes = (new ≡ old) ⊎ ((n : ℕ) × (new ≡ map.insert old name (take n bytes)))

abbrev pub WritesTold : Held → Held → List ℕ → List ℕ → Result (Unit {0}) StoreFail → Type 0
WritesTold old new name bytes (Ok done) = new ≡ map.insert old name bytes
WritesTold old new name bytes (Err Failed) = Leaves old new name bytes
WritesTold old new name bytes (Err OutOfMemory) = new ≡ old
WritesTold old new name bytes (Err NotHeld) = ⊥

abbrev pub Writes : Option Held → Option Held → List ℕ → List ℕ → Result (Unit {0}) StoreFail → Type 0
Writes None new name bytes result = (new ≡ None) × (IsErrOf result NotHeld → ⊥)
Writes (Some old) new name bytes result = (later : Held) × (new ≡ Some later) × WritesTold old later name bytes result

-- where the store tells what it holds, a write that is refused for memory counts no fault
abbrev pub CountsWrites : Option Held → ℕ → ℕ → Result (Unit {0}) StoreFail → Type 0
CountsWrites None before now result = Unit {0}
CountsWrites (Some held) before now result = IsErrOf result OutOfMemory → now ≡ before
