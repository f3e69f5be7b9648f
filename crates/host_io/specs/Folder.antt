-- What a store over files is seen as: its counts alone, since what files hold isn't known.
use Rattle.std.specs.Prelude.{◌≡◌, ◌<◌, ℕ, length, List, Option, Some, None, Result, Ok, Err}
use Rattle.host_io.specs.Store.{one_more}
use Rattle.host_io.specs.declared.fail.StoreFail.{StoreFail}
use Rattle.host_io.specs.declared.fail.StoreFail.TheVariants.{Failed, NotHeld, OutOfMemory}

pub record StoreCounts : Type 0 where
  pub calls : ℕ
  pub read_faults : ℕ
  pub write_faults : ℕ

-- each call is counted, and each failure
abbrev pub after_read : StoreCounts → Result (List ℕ) StoreFail → StoreCounts
after_read s (Ok bytes) = record s { calls = one_more s.calls }
after_read s (Err Failed) = record s { calls = one_more s.calls; read_faults = one_more s.read_faults }
after_read s (Err NotHeld) = record s { calls = one_more s.calls }
after_read s (Err OutOfMemory) = record s { calls = one_more s.calls }

abbrev pub after_write : StoreCounts → Result (Unit {0}) StoreFail → StoreCounts
after_write s (Ok done) = record s { calls = one_more s.calls }
after_write s (Err Failed) = record s { calls = one_more s.calls; write_faults = one_more s.write_faults }
after_write s (Err NotHeld) = record s { calls = one_more s.calls }
after_write s (Err OutOfMemory) = record s { calls = one_more s.calls }

-- where it is known which bytes a reader will give: these
abbrev pub IsAll : Option (List ℕ) → List ℕ → Type 0
IsAll None bytes = Unit {0}
IsAll (Some known) bytes = bytes ≡ known

-- where it is known which bytes a reader will give: they are more than so many
abbrev pub IsLonger : ℕ → Option (List ℕ) → Type 0
IsLonger most None = Unit {0}
IsLonger most (Some known) = most < length known
