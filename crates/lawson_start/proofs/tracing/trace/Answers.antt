use Rattle.std.proofs.lemmas.Result.{IfOk-weaker}
use Rattle.lawson_start.proofs.TracedRuns.{whole_run, all_images, none_returns, none_twice, few}
use Rattle.lawson_start.proofs.tracing.trace.Goals as goal

pub returns-clause-run : goal.returns-clause-run
returns-clause-run c =
    IfOk-weaker c.trace_from.result _ _ (λ trace h. whole_run _ c.args.inst.now.inputs c.args.t c.input.result.now c.count.ensures.problem c.input.ensures.points c.input.ensures.edges trace h) c.trace_from.ensures

pub returns-clause-images : goal.returns-clause-images
returns-clause-images c =
    IfOk-weaker c.trace_from.result _ _ (λ trace h. all_images _ c.args.inst.now.inputs c.args.t c.input.result.now c.count.ensures.problem c.input.ensures.points c.input.ensures.edges trace h) c.trace_from.ensures

pub returns-clause-away : goal.returns-clause-away
returns-clause-away c =
    IfOk-weaker c.trace_from.result _ _ (λ trace h. none_returns _ c.args.inst.now.inputs c.args.t c.input.result.now c.count.ensures.problem c.input.ensures.points c.input.ensures.edges trace h) c.trace_from.ensures

pub returns-clause-once : goal.returns-clause-once
returns-clause-once c =
    IfOk-weaker c.trace_from.result _ _ (λ trace h. none_twice _ c.args.inst.now.inputs c.args.t c.input.result.now c.count.ensures.problem c.input.ensures.points c.input.ensures.edges trace h) c.trace_from.ensures

pub returns-clause-short : goal.returns-clause-short
returns-clause-short c =
    IfOk-weaker c.trace_from.result _ _ (λ trace h. few _ c.args.inst.now.inputs c.args.t c.input.result.now c.count.ensures.problem c.input.ensures.points c.input.ensures.edges trace h) c.trace_from.ensures
