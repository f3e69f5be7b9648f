use Rattle.std.proofs.Common.{◌≡◌, ◌≢◌, length, map, subst, arith}
use Rattle.std.specs.Option.{option_map}
use Rattle.std.proofs.lemmas.Result.{err_from_is_err_and}
use Rattle.serde_json.specs.View.{view}
use Rattle.instance_json.specs.Forms.{WeighInputs}
use Rattle.instance_json.proofs.Raws.{other_xs, other_ys, other_inputs, other_any, mismatch, miscount}
use Rattle.instance_json.proofs.read.instance_of_lists.Goals as goal

pub returns-in_err-xs-clause-fault : goal.returns-in_err-xs-clause-fault
returns-in_err-xs-clause-fault c =
    let p = err_from_is_err_and c.from_residual.result c.from_residual.ensures.1 in
    rw (p.1, p.2) (λ d h. other_xs h c.in_err-xs.field-0.0 c.requires c.in_err-xs.ensures.other)

pub returns-in_err-ys-clause-fault : goal.returns-in_err-ys-clause-fault
returns-in_err-ys-clause-fault c =
    let p = err_from_is_err_and c.from_residual-in_err-ys.result c.from_residual-in_err-ys.ensures.1 in
    rw (p.1, p.2) (λ d h. other_ys h c.in_ok-xs.xs.items c.in_err-ys.field-0.0 c.requires c.in_ok-xs.ensures.ok c.in_err-ys.ensures.other)

pub returns-in_err-inputs-clause-fault : goal.returns-in_err-inputs-clause-fault
returns-in_err-inputs-clause-fault c =
    let p = err_from_is_err_and c.from_residual-in_err-inputs.result c.from_residual-in_err-inputs.ensures.1 in
    rw (p.1, p.2) (λ d h. other_inputs h c.in_ok-xs.xs.items c.in_ok-ys.ys.items c.in_err-inputs.field-0.0 c.requires c.in_ok-xs.ensures.ok c.in_ok-ys.ensures.ok
    c.in_err-inputs.ensures.other)

pub returns-in_err-weights-clause-fault : goal.returns-in_err-weights-clause-fault
returns-in_err-weights-clause-fault c =
    let p = err_from_is_err_and c.from_residual-in_err-weights.result c.from_residual-in_err-weights.ensures.1 in
    rw (p.1, p.2) (λ d h. other_any (λ list. map view list.now) c.args.weights h c.in_ok-xs.xs.items c.in_ok-ys.ys.items c.in_ok-inputs.inputs c.in_err-weights.field-0.0 c.requires
    c.in_ok-xs.ensures.ok c.in_ok-ys.ensures.ok c.in_ok-inputs.ensures.ok c.in_err-weights.ensures.other)

pub returns-then-len-clause-fault : goal.returns-then-len-clause-fault
returns-then-len-clause-fault c =
    let n : c.len-then-len.result ≡ length c.in_ok-xs.xs.items = omega (arith, c.len-then-len.ensures, c.in_ok-xs.xs.ok) in
    let m : c.len-then-len-2.result ≡ length c.in_ok-ys.ys.items = omega (arith, c.len-then-len-2.ensures, c.in_ok-ys.ys.ok) in
    let ne : c.len-then-len.result ≢ c.len-then-len-2.result = λ e. c.if-len.true (omega (arith, e, c.len-2.ensures, c.len-3.ensures, c.len-then-len.ensures, c.len-then-len-2.ensures)) in
    λ d h. mismatch h c.in_ok-xs.xs.items c.in_ok-ys.ys.items c.in_ok-inputs.inputs c.len.result c.in_ok-weights.weights c.len-then-len.result c.len-then-len-2.result c.requires
    c.in_ok-xs.ensures.ok c.in_ok-ys.ensures.ok c.in_ok-inputs.ensures.ok c.in_ok-weights.ensures.ok n m ne

pub returns-then-len-2-clause-fault : goal.returns-then-len-2-clause-fault
returns-then-len-2-clause-fault c =
    let weigh = subst (λ n. WeighInputs (option_map (λ list. map view list.now) c.args.weights) n c.in_ok-weights.weights) c.len.ensures c.in_ok-weights.ensures.ok in
    let same : length c.in_ok-xs.xs.items ≡ length c.in_ok-ys.ys.items = omega (arith, c.if-len.false, c.len-2.ensures, c.len-3.ensures, c.in_ok-xs.xs.ok, c.in_ok-ys.ys.ok) in
    let ne : c.len-then-len-2-2.result ≢ c.len-then-len-2-3.result = λ e. c.if-len-2.true (omega (arith, e, c.len-4.ensures, c.len-5.ensures, c.len-then-len-2-2.ensures, c.len-then-len-2-3.ensures)) in
    λ d h. miscount h c.in_ok-xs.xs.items c.in_ok-ys.ys.items c.in_ok-inputs.inputs c.in_ok-weights.weights c.len-then-len-2-2.result c.len-then-len-2-3.result c.requires
    c.in_ok-xs.ensures.ok c.in_ok-ys.ensures.ok c.in_ok-inputs.ensures.ok weigh same c.len-then-len-2-2.ensures c.len-then-len-2-3.ensures ne
