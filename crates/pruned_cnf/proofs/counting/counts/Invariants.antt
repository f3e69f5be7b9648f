use Rattle.pruned_cnf.specs.Crossed.{AreCounted}
use Rattle.pruned_cnf.proofs.counting.counts.Given as goal

abbrev pub invariant-loop-m : goal.invariant-loop-m
invariant-loop-m l = AreCounted l.lists l.triang.edges l.m l.counts.items
