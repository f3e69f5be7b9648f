use Rattle.std.proofs.Common.{length}
use Rattle.formula_parts.specs.Lists.{edge_at}
use Rattle.pruned_cnf.proofs.FlipChains.{IsWalked, left}
use Rattle.pruned_cnf.proofs.writing.changes.push_flips.Given as goal

abbrev pub invariant-loop-at : goal.invariant-loop-at
invariant-loop-at l = IsWalked l.numbering l.t l.chain.change (edge_at l.numbering.frame.segments l.e) l.initial.clause l.clause l.at

abbrev pub decreases-loop-at : goal.decreases-loop-at
decreases-loop-at l = left (length l.numbering.frame.flips) l.at
