use Rattle.std.proofs.Common.{◌++◌}
use Rattle.formula_parts.proofs.Appending.{Upto}
use Rattle.pruned_cnf.specs.declared.writing.chains.Change.TheVariants.{Leave, Come}
use Rattle.pruned_cnf.specs.Groups.{change_of}
use Rattle.pruned_cnf.proofs.writing.changes.add_changes.Given as goal

abbrev pub invariant-loop-e : goal.invariant-loop-e
invariant-loop-e l = Upto (λ e. change_of l.numbering l.t Leave e ++ change_of l.numbering l.t Come e) l.numbering.frame.segments l.initial.cnf l.e l.cnf
