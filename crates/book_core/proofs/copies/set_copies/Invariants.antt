use Rattle.book_core.specs.CopyTables.{SetsCopies}
use Rattle.book_core.proofs.copies.set_copies.Given as goal

-- the copies so far have the weight
abbrev pub invariant-loop-c : goal.invariant-loop-c
invariant-loop-c l = SetsCopies l.inst.weights l.initial.table l.table l.i l.j l.w l.c
