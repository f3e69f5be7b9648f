use Rattle.tri_check.proofs.Weighed.{number_more}
use Rattle.tri_check.proofs.weights.numbers.Goals as goal

pub loop-t-preserved : goal.loop-t-preserved
loop-t-preserved c = number_more c.args.weights.now c.loop-t.numbers c.push.new.self c.loop-t.t c.number.result c.requires c.loop-t.invariant c.loop-t-test.true c.number.ensures c.in_ok-push.ensures.ok
