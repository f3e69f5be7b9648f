use Rattle.tri_check.specs.Stages.{AllBefore, IsCrossed}
use Rattle.tri_check.proofs.network.crossing.Given as goal

abbrev pub invariant-loop-i : goal.invariant-loop-i
invariant-loop-i l = AllBefore l.edges (λ e. ¬ IsCrossed l.points l.edges e) l.i
