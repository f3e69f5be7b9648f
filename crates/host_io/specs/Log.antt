-- How a store in memory keeps what it holds and which calls are to fail: the newest stands first.
use Rattle.std.specs.Prelude.{ℕ, List, string_bytes, map}
use Rattle.std.specs.FinMap.{from_entries}
use Rattle.host_io.specs.Store.{Held}
use Rattle.host_io.specs.Memory.{Planned}
use Rattle.host_io.specs.declared.mem_store.File.{File}
use Rattle.host_io.specs.declared.mem_store.Plan.{Plan}

abbrev pub file_entry : File → List ℕ × List ℕ
file_entry f = (string_bytes f.name, f.bytes)

abbrev pub held_in : List File → Held
held_in files = from_entries (map file_entry files)

abbrev pub plan_entry : Plan → ℕ × ℕ
plan_entry p = (p.call, p.keep)

abbrev pub planned_in : List Plan → Planned
planned_in plans = from_entries (map plan_entry plans)
