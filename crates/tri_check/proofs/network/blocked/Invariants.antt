use Rattle.tri_check.specs.Stages.{AllBefore, IsBlocked}
use Rattle.tri_check.proofs.network.blocked.Given as goal

abbrev pub invariant-loop-i : goal.invariant-loop-i
invariant-loop-i l = AllBefore l.edges (λ e. ¬ IsBlocked l.points e) l.i
