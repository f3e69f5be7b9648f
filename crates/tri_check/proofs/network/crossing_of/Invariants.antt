use Rattle.tri_check.specs.Stages.{AllBefore, CrossesLater}
use Rattle.tri_check.proofs.network.crossing_of.Given as goal

abbrev pub invariant-loop-j : goal.invariant-loop-j
invariant-loop-j l = AllBefore l.edges (λ f. ¬ CrossesLater l.points l.e f) l.j
