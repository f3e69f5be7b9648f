use Rattle.book_core.specs.CopyTables.{SetsRow}
use Rattle.book_core.proofs.copies.set_row.Given as goal

-- the copies so far have the weight
abbrev pub invariant-loop-d : goal.invariant-loop-d
invariant-loop-d l = SetsRow l.inst.weights l.initial.table l.table l.c l.j l.w l.d
