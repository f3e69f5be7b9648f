use Rattle.std.proofs.Common.{sym, ap, ◌∙◌}
use Rattle.tri_theory.specs.Copies.{copy_of}
use Rattle.tri_theory.proofs.Copies.{copies_in_order}
use Rattle.tri_check.proofs.weights.owner.Goals as goal

pub returns-then-left-weights-clause-copy : goal.returns-then-left-weights-clause-copy
returns-then-left-weights-clause-copy c = sym (ap (copy_of c.args.weights.now) c.loop-t.invariant ∙ copies_in_order c.args.weights.now c.loop-t.t c.loop-t.left c.loop-t-test.true c.if-left-weights.true)
