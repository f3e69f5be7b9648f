use Rattle.std.proofs.Common.{◌<◌, ◌+◌, length, take, sym, subst, arith}
use Rattle.std.specs.List.{AllZip}
use Rattle.std.proofs.lemmas.Result.{err_from_is_err_and}
use Rattle.lawson_start.specs.Steps.{IsRunOf}
use Rattle.lawson_start.proofs.Openings.{one_more, fault_first}
use Rattle.lawson_start.proofs.opening.tracks_of.Goals as goal

pub returns-in_err-track_of-clause-err : goal.returns-in_err-track_of-clause-err
returns-in_err-track_of-clause-err c =
    let p = err_from_is_err_and c.from_residual.result c.from_residual.ensures.1 in
    rw (p.1, p.2) (fault_first c.args.inst.now.points c.args.budget c.args.inst.now.inputs c.loop-t.tracks c.loop-t.t c.in_err-track_of.field-0.0 c.loop-t.invariant c.in_err-track_of.ensures.err)

pub loop-t-preserved : goal.loop-t-preserved
loop-t-preserved c =
    let l : c.loop-t.t < length c.args.inst.now.inputs = (let h = c.loop-t-test.true in let e = c.inputs-count.ensures in omega arith) in
    subst (λ ts. AllZip (IsRunOf c.args.inst.now.points c.args.budget) (take (c.loop-t.t + 1) c.args.inst.now.inputs) ts) (sym c.in_ok-push.ensures.ok)
    (one_more c.args.inst.now.points c.args.budget c.args.inst.now.inputs c.loop-t.tracks c.in_ok-track_of.field-0 c.loop-t.t l c.in_ok-track_of.ensures.ok c.loop-t.invariant)
