use Rattle.tri_check.specs.Stages.{AllBefore, EndsAt}
use Rattle.tri_check.proofs.network.is_end.Given as goal

abbrev pub invariant-loop-i : goal.invariant-loop-i
invariant-loop-i l = AllBefore l.edges (λ e. ¬ EndsAt e l.p) l.i
