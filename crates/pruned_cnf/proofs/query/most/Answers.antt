use Rattle.std.proofs.Common.{◌≤◌, get_or, subst, arith}
use Rattle.std.specs.List.{All}
use Rattle.std.proofs.lemmas.List.{take_all}
use Rattle.pruned_cnf.proofs.Crossed.{most_more, max_bounds}
use Rattle.pruned_cnf.proofs.query.most.Goals as goal

pub loop-i-preserved : goal.loop-i-preserved
loop-i-preserved c =
    let h = max_bounds c.loop-i.most (get_or c.args.digits.now c.loop-i.i 0) c.max-most.result 32 c.max-most.ensures c.loop-i.invariant.1 (c.requires c.loop-i.i 0 c.loop-i-test.true) in
    (most_more c.args.digits.now c.loop-i.i c.loop-i.most c.max-most.result c.loop-i-test.true c.loop-i.invariant.0 h.0 h.1, h.2)

pub returns-clause-most : goal.returns-clause-most
returns-clause-most c = subst (All (λ d. d ≤ c.loop-i.most)) (take_all c.loop-i.i c.args.digits.now (omega (arith, c.loop-i-test.false))) c.loop-i.invariant.0
