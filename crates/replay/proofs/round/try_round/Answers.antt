use Rattle.std.proofs.Common.{◌∙◌, subst}
use Rattle.std.proofs.lemmas.List.{take_all, nil_from_length}
use Rattle.std.proofs.lemmas.Result.{err_from_is_err_and}
use Rattle.replay.specs.Independent.{AreIndependent}
use Rattle.replay.specs.Faults.{IsFaultIn}
use Rattle.replay.proofs.Lists.{take_push}
use Rattle.replay.proofs.Taking.{taken_none, taken_more, fault_here}
use Rattle.replay.proofs.round.try_round.Goals as goal

pub loop-e-init : goal.loop-e-init
loop-e-init c = rw (nil_from_length c.new-taken.result.keys c.new-taken.ensures.len) (taken_none _ c.requires.placed _ c.requires.triangulation)

pub loop-e-preserved : goal.loop-e-preserved
loop-e-preserved c =
    rw (take_push c.as_slice-e-items.result.now c.loop-e.e-index c.e-item.result c.loop-e-test.true c.e-item.is, c.in_ok-add_taken.ensures)
    (taken_more _ c.requires.placed _ c.requires.triangulation _ _ c.e-item.result c.loop-e.invariant c.in_ok-try_edge.ensures.ok)

pub add_taken-requires : goal.add_taken-requires
add_taken-requires c = c.in_ok-try_edge.ensures.ok.fresh

pub returns : goal.returns
returns c =
    let all = take_all c.loop-e.e-index c.as_slice-e-items.result.now c.loop-e-test.false ∙ c.as_slice-e-items.ensures in
    record { ok = subst (AreIndependent c.args.mesh.now.points c.args.mesh.now.edges) all c.loop-e.invariant.independent; err = tt }

pub returns-in_err-try_edge-clause-err : goal.returns-in_err-try_edge-clause-err
returns-in_err-try_edge-clause-err c =
    let p = err_from_is_err_and c.from_residual.result c.from_residual.ensures.1 in
    let here = fault_here c.args.mesh.now.points c.args.mesh.now.edges c.as_slice-e-items.result.now c.loop-e.taken.keys c.loop-e.e-index c.e-item.result c.in_err-try_edge.field-0.0 c.loop-e-test.true c.e-item.is c.loop-e.invariant c.in_err-try_edge.ensures.fault c.in_err-try_edge.ensures.edge in
    rw (p.1, p.2) (c.in_err-try_edge.ensures.round, subst (λ es. IsFaultIn c.args.mesh.now.points c.args.mesh.now.edges es c.in_err-try_edge.field-0.0) c.as_slice-e-items.ensures here)
