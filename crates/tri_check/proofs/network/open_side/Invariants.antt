use Rattle.tri_check.specs.Stages.{AllBefore, IsClosed}
use Rattle.tri_check.proofs.network.open_side.Given as goal

abbrev pub invariant-loop-i : goal.invariant-loop-i
invariant-loop-i l = AllBefore l.edges (λ e. IsClosed l.points l.edges e.0 e.1 × IsClosed l.points l.edges e.1 e.0) l.i
