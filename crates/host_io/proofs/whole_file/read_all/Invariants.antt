use Rattle.std.proofs.Common.{◌≤◌, length}
use Rattle.std.specs.Io.KnownBytes.{Consumes}
use Rattle.host_io.proofs.whole_file.read_all.Given as goal

-- what was read so far is what the reader has lost, and it is within the limit
abbrev pub invariant-loop : goal.invariant-loop
invariant-loop g l = Consumes (g.F.Read.remaining l.fn.file) (g.F.Read.remaining l.file) l.bytes × (length l.bytes ≤ 1073741824)
