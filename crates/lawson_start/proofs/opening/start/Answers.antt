use Rattle.std.proofs.Common.{arith}
use Rattle.std.proofs.lemmas.Slice.Zip.{AllZip-long}
use Rattle.std.proofs.lemmas.Result.{err_from_is_err_and}
use Rattle.lawson_start.proofs.Openings.{is_start, only_memory}
use Rattle.lawson_start.proofs.opening.start.Goals as goal

pub at-requires : goal.at-requires
at-requires c =
    let l = AllZip-long _ c.args.inst.now.inputs c.in_ok-tracks.tracks c.in_ok-tracks.ensures.ok in
    let k = c.count.ensures.problem.some_input in omega arith

pub returns-clause-ok : goal.returns-clause-ok
returns-clause-ok c =
    is_start c.args.inst.now.points c.args.inst.now.inputs c.args.budget c.in_ok-centre.centre c.in_ok-tracks.tracks c.at.result.now c.count.ensures.problem c.in_ok-tracks.ensures.ok c.at.ensures c.in_ok-centre.ensures.points
    c.in_ok-centre.ensures.edges

pub returns-in_err-tracks-clause-enough : goal.returns-in_err-tracks-clause-enough
returns-in_err-tracks-clause-enough c l =
    let p = err_from_is_err_and c.from_residual.result c.from_residual.ensures.1 in
    rw (p.1, p.2) (only_memory c.args.inst.now.points c.args.inst.now.inputs c.args.budget c.in_err-tracks.field-0.0 c.count.ensures.problem l c.in_err-tracks.ensures.err)
