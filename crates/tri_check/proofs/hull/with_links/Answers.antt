use Rattle.std.proofs.Common.{subst, arith}
use Rattle.tri_check.specs.Hulls.{AddsLinks}
use Rattle.tri_check.proofs.hull.with_links.Goals as goal

pub returns : goal.returns
returns c = subst (λ j. AddsLinks c.args.before.now c.loop-j.edges c.args.chain.now j) (omega arith) c.loop-j.invariant
