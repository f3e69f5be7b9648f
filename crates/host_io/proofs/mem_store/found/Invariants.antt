use Rattle.std.proofs.Common.{◌≡◌, drop}
use Rattle.host_io.proofs.Entries.{newest}
use Rattle.host_io.proofs.mem_store.found.Given as goal

-- no file so far has the name
abbrev pub invariant-loop-file : goal.invariant-loop-file
invariant-loop-file l = newest (drop l.file-index l.files) l.name ≡ newest l.files l.name
