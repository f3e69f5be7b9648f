use Rattle.gen_instance.proofs.Inputs.{inputs_more}
use Rattle.gen_instance.proofs.generating.inputs_of.Goals as goal

pub loop-t-preserved : goal.loop-t-preserved
loop-t-preserved c = inputs_more c.args.points.now c.args.seed c.loop-t.t c.direction_of.result c.loop-t.inputs c.push.new.self c.in_ok-sweep_along.field-0 c.loop-t.invariant c.direction_of.ensures.same c.in_ok-sweep_along.ensures c.in_ok-push.ensures.ok
