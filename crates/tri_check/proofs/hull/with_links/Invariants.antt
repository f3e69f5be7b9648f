use Rattle.tri_check.specs.Hulls.{AddsLinks}
use Rattle.tri_check.proofs.hull.with_links.Given as goal

abbrev pub invariant-loop-j : goal.invariant-loop-j
invariant-loop-j l = AddsLinks l.before l.edges l.chain l.j
