use Rattle.std.proofs.Common.{map}
use Rattle.std.proofs.lemmas.Result.{err_from_is_err_and, IfOk-weaker}
use Rattle.serde_json.specs.View.{view}
use Rattle.instance_json.proofs.Raws.{wrong_xs, wrong_ys, wrong_inputs, wrong_any, has_lists}
use Rattle.instance_json.proofs.read.instance_of_members.Goals as goal

pub returns-in_err-xs-clause-fault : goal.returns-in_err-xs-clause-fault
returns-in_err-xs-clause-fault c =
    let p = err_from_is_err_and c.from_residual-in_err-xs.result c.from_residual-in_err-xs.ensures.1 in
    let w = c.in_err-xs.ensures.wrong in
    rw (p.1, p.2, w.0) (λ d m. wrong_xs m c.in_ok-uid.uid.now c.in_ok-uid.ensures.ok w.1)

pub returns-in_err-ys-clause-fault : goal.returns-in_err-ys-clause-fault
returns-in_err-ys-clause-fault c =
    let p = err_from_is_err_and c.from_residual-in_err-ys.result c.from_residual-in_err-ys.ensures.1 in
    let w = c.in_err-ys.ensures.wrong in
    rw (p.1, p.2, w.0) (λ d m. wrong_ys m c.in_ok-uid.uid.now (map view c.in_ok-xs.xs.now) c.in_ok-uid.ensures.ok c.in_ok-xs.ensures.ok w.1)

pub returns-in_err-inputs-clause-fault : goal.returns-in_err-inputs-clause-fault
returns-in_err-inputs-clause-fault c =
    let p = err_from_is_err_and c.from_residual-in_err-inputs.result c.from_residual-in_err-inputs.ensures.1 in
    let w = c.in_err-inputs.ensures.wrong in
    rw (p.1, p.2, w.0)
    (λ d m. wrong_inputs m c.in_ok-uid.uid.now (map view c.in_ok-xs.xs.now) (map view c.in_ok-ys.ys.now) c.in_ok-uid.ensures.ok c.in_ok-xs.ensures.ok c.in_ok-ys.ensures.ok w.1)

pub returns-in_err-weights-clause-fault : goal.returns-in_err-weights-clause-fault
returns-in_err-weights-clause-fault c =
    let p = err_from_is_err_and c.from_residual-in_err-weights.result c.from_residual-in_err-weights.ensures.1 in
    let w = c.in_err-weights.ensures.wrong in
    rw (p.1, p.2, w.0)
    (λ d m. wrong_any (λ v. view v.now) c.args.weights m c.in_ok-uid.uid.now (map view c.in_ok-xs.xs.now) (map view c.in_ok-ys.ys.now) (map view c.in_ok-inputs.inputs.now) c.in_ok-uid.ensures.ok
    c.in_ok-xs.ensures.ok c.in_ok-ys.ensures.ok c.in_ok-inputs.ensures.ok.0 c.in_ok-inputs.ensures.ok.1 w.1)

pub returns-clause-ok : goal.returns-clause-ok
returns-clause-ok c =
    IfOk-weaker c.instance_of_lists.result _ _ (λ raw h d m. h d (has_lists m c.in_ok-uid.uid.now (map view c.in_ok-xs.xs.now) (map view c.in_ok-ys.ys.now)
    (map view c.in_ok-inputs.inputs.now) _ c.in_ok-uid.ensures.ok c.in_ok-xs.ensures.ok c.in_ok-ys.ensures.ok c.in_ok-inputs.ensures.ok.0 c.in_ok-weights.ensures.ok))
    c.instance_of_lists.ensures.ok
