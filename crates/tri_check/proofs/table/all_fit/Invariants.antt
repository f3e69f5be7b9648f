use Rattle.tri_check.specs.Tables.{Fits}
use Rattle.tri_check.specs.Stages.{AllBefore}
use Rattle.tri_check.proofs.table.all_fit.Given as goal

abbrev pub invariant-loop-i : goal.invariant-loop-i
invariant-loop-i l = AllBefore l.edges (Fits l.points l.edges l.table) l.i
