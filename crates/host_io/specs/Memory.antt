-- A store and a sink in memory: what each is seen as, and what its calls answer and leave.
use Rattle.std.specs.Prelude.{◌≡◌, ◌⊎◌, ◌<◌, ◌-◌, ℕ, List, [], ◌++◌, length, take, Some, None, IsSome, IsSomeAnd, IsTrue, Result, Ok, Err, refl}
use Rattle.std.specs.Ordering.{nat_cmp}
use Rattle.std.specs.Coded.{Coded, code_by, coded×, coded_list, coded_ℕ}
use Rattle.std.specs.FinMap as map
use Rattle.std.specs.FinSet as set
use Rattle.host_io.specs.Store.{Held, one_more}
use Rattle.host_io.specs.declared.fail.StoreFail.{StoreFail}
use Rattle.host_io.specs.declared.fail.StoreFail.TheVariants.{Failed, NotHeld, OutOfMemory}
use Rattle.host_io.specs.declared.fail.SinkFail.{SinkFail}

-- which calls are to fail, and how many bytes each then keeps if it is a write
abbrev pub Planned : Type 0
Planned = map.FinMap nat_cmp ℕ

pub record StoreState : Type 0 where
  pub held : Held
  pub planned : Planned
  pub calls : ℕ
  pub read_faults : ℕ
  pub write_faults : ℕ

abbrev pub store_code : Coded StoreState
store_code =
    code_by
    (Held × (Planned × (ℕ × (ℕ × ℕ))))
    (coded× (map.code (coded_list coded_ℕ) (coded_list coded_ℕ)) (coded× (map.code coded_ℕ coded_ℕ) (coded× coded_ℕ (coded× coded_ℕ coded_ℕ))))
    (λ s. (s.held, (s.planned, (s.calls, (s.read_faults, s.write_faults)))))
    (λ p. record { held = p.0; planned = p.1.0; calls = p.1.1.0; read_faults = p.1.1.1.0; write_faults = p.1.1.1.1 })
    (λ _. refl)

-- nothing is held or planned, and nothing was called
abbrev pub new_store : StoreState
new_store = record { held = map.empty; planned = map.empty; calls = 0; read_faults = 0; write_faults = 0 }

-- one call more, and nothing else
abbrev pub called : StoreState → StoreState
called s = record s { calls = one_more s.calls }

-- A read fails exactly where its call was named.
abbrev pub ReadsMemory : StoreState → StoreState → List ℕ → Result (List ℕ) StoreFail → Type 0
ReadsMemory old new name (Ok bytes) = (map.get old.planned old.calls ≡ None) × (map.get old.held name ≡ Some bytes) × (new ≡ called old)
ReadsMemory old new name (Err NotHeld) = (map.get old.planned old.calls ≡ None) × (map.get old.held name ≡ None) × (new ≡ called old)
ReadsMemory old new name (Err Failed) = IsSome (map.get old.planned old.calls) × (new ≡ record (called old) { read_faults = one_more old.read_faults })
ReadsMemory old new name (Err OutOfMemory) = (map.get old.planned old.calls ≡ None) × (new ≡ called old)

-- A write fails exactly where its call was named, unless memory is wanting, and keeps as many first bytes as were named.
abbrev pub WritesMemory : StoreState → StoreState → List ℕ → List ℕ → Result (Unit {0}) StoreFail → Type 0
WritesMemory old new name bytes (Ok done) = (map.get old.planned old.calls ≡ None) × (new ≡ record (called old) { held = map.insert old.held name bytes })
WritesMemory old new name bytes (Err Failed) =
    IsSomeAnd (map.get old.planned old.calls) (λ keep. new ≡ record (called old) { held = map.insert old.held name (take keep bytes); write_faults = one_more old.write_faults })
WritesMemory old new name bytes (Err OutOfMemory) = new ≡ called old
WritesMemory old new name bytes (Err NotHeld) = ⊥

pub record SinkState : Type 0 where
  pub told : List ℕ
  -- how many bytes may still be put
  pub room : ℕ
  -- the calls that were named to fail, and those that were named to stall
  pub failing : set.FinSet nat_cmp
  pub stalling : set.FinSet nat_cmp
  pub calls : ℕ
  pub faults : ℕ

abbrev pub sink_code : Coded SinkState
sink_code =
    code_by
    (List ℕ × (ℕ × (set.FinSet nat_cmp × (set.FinSet nat_cmp × (ℕ × ℕ)))))
    (coded× (coded_list coded_ℕ) (coded× coded_ℕ (coded× (set.code coded_ℕ) (coded× (set.code coded_ℕ) (coded× coded_ℕ coded_ℕ)))))
    (λ s. (s.told, (s.room, (s.failing, (s.stalling, (s.calls, s.faults))))))
    (λ p. record { told = p.0; room = p.1.0; failing = p.1.1.0; stalling = p.1.1.1.0; calls = p.1.1.1.1.0; faults = p.1.1.1.1.1 })
    (λ _. refl)

-- nothing is told or planned, and there is no room
abbrev pub new_sink : SinkState
new_sink = record { told = []; room = 0; failing = set.empty; stalling = set.empty; calls = 0; faults = 0 }

-- A put of a piece that isn't empty fails exactly where its call was named, or the room that is left is too small.
abbrev pub Fails : SinkState → List ℕ → Type 0
Fails s piece = (0 < length piece) × (IsTrue (set.contains s.failing s.calls) ⊎ IsTrue (set.contains s.stalling s.calls) ⊎ s.room < length piece)

-- Else it takes the whole piece. An empty one changes nothing but the count of calls.
abbrev pub PutsMemory : SinkState → SinkState → List ℕ → Result ℕ SinkFail → Type 0
PutsMemory old new piece (Ok n) = (n ≡ length piece) × (new ≡ record old { told = old.told ++ piece; room = old.room - length piece; calls = one_more old.calls })
PutsMemory old new piece (Err e) = new ≡ record old { calls = one_more old.calls; faults = one_more old.faults }
