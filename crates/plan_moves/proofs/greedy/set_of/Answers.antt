use Rattle.std.proofs.Common.{arith}
use Rattle.plan_moves.proofs.Adding.{same_none, same_more, same_all}
use Rattle.plan_moves.proofs.greedy.set_of.Goals as goal

pub loop-e-init : goal.loop-e-init
loop-e-init c = same_none _ c.args.items.now c.make-edges.ensures

pub loop-e-preserved : goal.loop-e-preserved
loop-e-preserved c = same_more c.args.items.now c.loop-e.edges c.insert.new.self c.loop-e.e-index c.e-item.result c.loop-e-test.true c.e-item.is c.loop-e.invariant c.in_ok-insert.ensures.ok

pub returns : goal.returns
returns c = same_all c.args.items.now c.loop-e.edges c.loop-e.e-index (omega (arith, c.loop-e-test.false)) c.loop-e.invariant
