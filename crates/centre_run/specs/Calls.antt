-- How often a run calls the store, and for which names.
use Rattle.std.specs.Prelude.{◌≡◌, ◌⊎◌, ℕ, ◌+◌, ◌≤◌, List, [], ◌∷◌, ◌++◌, length, take, Option, Some, None}
use Rattle.host_io.specs.Store.{Held, one_more}
use Rattle.centre_run.specs.declared.solving.Texts.{Texts}
use Rattle.centre_run.specs.declared.status.Status.{Status}
use Rattle.centre_run.specs.declared.status.Status.TheVariants.{Done, Refused, FlipBudget, Memory, ReadFault, WriteFault, No}
use Rattle.centre_words.specs.declared.asked.Asked.{Asked}
use Rattle.centre_words.specs.declared.asked.Asked.TheVariants.{Check, Score, Solve, Verify, Trace, Bench}
use Rattle.centre_words.specs.Words.{Asks}
use Rattle.centre_run.specs.Runs.{MayHold, IsUnheld, files_of, written_by}

-- the names under which the command reads, in order
abbrev pub read_by : Asked → List (List ℕ)
read_by (Check instance) = instance ∷ []
read_by (Score instance solution) = instance ∷ solution ∷ []
read_by (Solve instance solution certificate workers turns seed flips) = instance ∷ []
read_by (Verify instance solution certificate) = instance ∷ solution ∷ certificate ∷ []
read_by (Trace instance t) = instance ∷ []
read_by (Bench seed points inputs) = []

-- a count of calls after one more for each of these names
abbrev pub after_calling : List (List ℕ) → ℕ → ℕ
after_calling [] n = n
after_calling (name ∷ names) n = after_calling names (one_more n)

-- the store was called for these names in order, once for each, up to the first that couldn't be read: reading failed, or the store tells that the name isn't held
abbrev pub StopsReading : Option Held → Type 0 → List (List ℕ) → ℕ → ℕ → Type 0
StopsReading held Failed [] before now = ⊥
StopsReading held Failed (name ∷ names) before now =
    ((now ≡ one_more before) × (Failed ⊎ IsUnheld held name))
    ⊎ ((bytes : List ℕ) × MayHold held name bytes × StopsReading held Failed names (one_more before) now)

-- the calls of a command that says this status: one for each file that it reads, and where all was done one for each that it writes
abbrev pub CallsFor : Asked → Status → ℕ → ℕ → Type 0
CallsFor c Done before now = now ≡ after_calling (read_by c ++ written_by c) before
CallsFor c Refused before now = now ≡ after_calling (read_by c) before
CallsFor c FlipBudget before now = now ≡ after_calling (read_by c) before
CallsFor c No before now = now ≡ after_calling (read_by c) before
CallsFor c _ before now = ⊥

-- the store was called for all names that the command reads, and for the first of those that it writes, up to one that couldn't be written
abbrev pub StopsWriting : Asked → ℕ → ℕ → Type 0
StopsWriting c before now = (n : ℕ) × (1 ≤ n) × (n ≤ length (written_by c)) × (now ≡ after_calling (read_by c ++ take n (written_by c)) before)

-- the calls of a command that ends with this status. A fault of the sink comes in place of another status, one of writing in place of the rest, and want of memory at any time
abbrev pub CommandCalls : Option Held → Type 0 → Asked → Status → ℕ → ℕ → Type 0
CommandCalls held Failed c Memory before now = now ≤ before + files_of c
CommandCalls held Failed c ReadFault before now = StopsReading held Failed (read_by c) before now
CommandCalls held Failed c WriteFault before now = ((status : Status) × CallsFor c status before now) ⊎ StopsWriting c before now
CommandCalls held Failed c status before now = CallsFor c status before now

-- the calls of the command that the words ask for, if they ask for one
abbrev pub CallsInOrder : List (List ℕ) → Option Held → Type 0 → Status → ℕ → ℕ → Type 0
CallsInOrder words held Failed status before now = (c : Asked) → Asks words c → CommandCalls held Failed c status before now

-- a count of calls after the texts were written, if there are some
abbrev pub after_writing : Option Texts → ℕ → ℕ
after_writing None n = n
after_writing (Some texts) n = one_more (one_more n)
