use Rattle.lawson_start.proofs.Runs.{bad_first}
use Rattle.lawson_start.proofs.TracedRuns.{way_on, fewer_left, whole_trace}
use Rattle.lawson_start.proofs.tracing.trace_from.Goals as goal

pub flip-requires-clause-here : goal.flip-requires-clause-here
flip-requires-clause-here c = bad_first c.loop-e.mesh c.loop-e.bad c.in-Some.e c.loop-e.invariant.bad_edges c.in-Some.ensures.some

pub loop-e-preserved : goal.loop-e-preserved
loop-e-preserved c =
    way_on c.args.input.now.points c.args.input.now.edges c.loop-e.flips c.push.new.self c.loop-e.images c.push-in-Some.new.self c.loop-e.mesh c.flip.new.mesh c.loop-e.bad c.flip.new.bad c.in-Some.e c.in_ok-image.image c.loop-e.invariant
    c.in-Some.ensures.some c.in_ok-image.ensures.points c.in_ok-image.ensures.edges c.in_ok-image.ensures.set c.in_ok-push.ensures.ok c.in_ok-push-2.ensures.ok

pub loop-e-smaller : goal.loop-e-smaller
loop-e-smaller c =
    fewer_left c.args.input.now.points c.args.input.now.edges c.loop-e.flips c.push.new.self c.push-in-Some.new.self c.in-Some.e c.flip.new.mesh c.flip.new.bad c.len.ensures.triangulation (loop-e-preserved c) c.in_ok-push.ensures.ok

pub returns : goal.returns
returns c = whole_trace c.args.input.now.points c.args.input.now.edges c.loop-e.flips c.loop-e.images c.loop-e.mesh c.loop-e.bad c.loop-e.invariant c.in_default.ensures.none
