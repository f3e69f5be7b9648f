use Rattle.pruned_cnf.specs.Chains.{AreChained}
use Rattle.pruned_cnf.proofs.writing.chains.chain_of.Given as goal

abbrev pub invariant-loop-n : goal.invariant-loop-n
invariant-loop-n l = AreChained l.numbering.frame l.change l.firsts.items l.nexts.items l.n
